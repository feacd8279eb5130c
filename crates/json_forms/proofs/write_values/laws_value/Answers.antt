use Rattle.std.proofs.Common.{◌∙◌, sym, arith}
use Rattle.std.proofs.lemmas.Result.{IfOk-weaker}
use Rattle.json_forms.proofs.WrittenLists.{view-list, laws_data-one, laws_data-several}
use Rattle.json_forms.proofs.write_values.laws_value.Goals as goal

pub returns-then-laws-eq1 : goal.returns-then-laws-eq1
returns-then-laws-eq1 c =
    let one = laws_data-one c.args.laws.now c.index-laws-0.result (omega arith) c.index-laws-0.is in
    IfOk-weaker c.law_value.result _ _ (λ v e. e ∙ sym one) c.law_value.ensures

pub returns : goal.returns
returns c = view-list c.in_ok-values.values _ c.in_ok-values.ensures ∙ sym (laws_data-several c.args.laws.now (λ one. omega arith))
