use Rattle.std.proofs.Common.{rules, ◌≡◌, ◌++◌, ℕ, List, subst, OnOk}
use Rattle.report_text.specs.Demand.{law_of_periods, periods_text, same_text}
use Rattle.report_text.specs.Laws.{law_text}
use Rattle.report_text.proofs.PeriodLaws.{only_laws}
use Rattle.report_text.proofs.periods.push_only.Goals as goal

pub returns : goal.returns
returns c =
    let laws = c.args.laws.now in
    let text_is : c.bytes.result.now ≡ law_text (law_of_periods laws 0 c.args.count) = search rules in
    let Same : List ℕ → Type 0 = λ text. OnOk c.push_same.result (c.push_same.new.out ≡ c.args.out.now ++ same_text c.args.periods text) in
    let Ends : (ℕ → List ℕ) → Type 0 = λ law. OnOk c.push_same.result (c.push_same.new.out ≡ c.args.out.now ++ periods_text c.args.periods law) in
    subst Ends (only_laws laws c.args.count c.requires.only) (subst Same text_is c.push_same.ensures)
