use Rattle.std.proofs.Common.{◌≡◌, ℕ, List, ◌+◌, ◌<◌, ◌++◌, length, map, drop, sum, All, Some, Ok, sym, ap, subst, ◌∙◌, rules, length-append}
use Rattle.std.proofs.lemmas.List.Elements.{All-push}
use Rattle.serde_json.specs.View.{view}
use Rattle.model_terms.specs.DemandLaws.{IsDemandLaw, common_total}
use Rattle.json_forms.specs.Steps.{◌>>=◌}
use Rattle.json_forms.specs.LawTexts.{scaled_laws}
use Rattle.json_forms.proofs.Scaled.{scaled_more, common_more, common_of}
use Rattle.json_forms.proofs.laws.scaled_laws.Goals as goal

pub loop-value-preserved : goal.loop-value-preserved
loop-value-preserved c =
    let lt : c.loop-value.value-index < length c.args.list.now = search rules in
    let pushed = c.in_ok-push.ensures.items in
    let read = c.in_ok-law.ensures in
    record {
      left = c.loop-value.invariant.left
          ∙ scaled_more _ _ _ _ c.loop-value.laws.items c.in_ok-law.law c.in_ok-law.sum lt c.value-item.is read.value
          ∙ ap (λ (laws : List (List ℕ)). scaled_laws (Some c.in_ok-law.sum) (map view (drop (c.loop-value.value-index + 1) c.args.list.now)) >>= λ rest. Ok (laws ++ rest)) (sym pushed);
      some = read.some;
      most = read.most;
      each = subst (λ (laws : List (List ℕ)). All IsDemandLaw laws) (sym pushed) (All-push IsDemandLaw c.loop-value.laws.items c.in_ok-law.law c.loop-value.invariant.each read.demand);
      common = subst (λ (laws : List (List ℕ)). All (λ l. sum l ≡ c.in_ok-law.sum) laws) (sym pushed)
          (common_more c.loop-value.common c.loop-value.laws.items c.in_ok-law.law c.in_ok-law.sum c.loop-value.invariant.common read.keeps read.sum);
      count = ap length pushed ∙ length-append c.loop-value.laws.items _ ∙ ap (λ n. n + 1) c.loop-value.invariant.count;
    }

pub returns-clause-common : goal.returns-clause-common
returns-clause-common c =
    subst (λ (laws : List (List ℕ)). All (λ law. sum law ≡ common_total laws) laws) (sym c.new.ensures) (common_of _ _ c.loop-value.invariant.common)
