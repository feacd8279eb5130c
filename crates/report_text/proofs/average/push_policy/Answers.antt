use Rattle.std.proofs.Common.{rules, ◌++◌, List, ℕ, ℤ, ◌∙◌, ap, append_assoc, codes, to_z, of_z}
use Rattle.std.proofs.lemmas.Int.{to_z-of_z}
use Rattle.std.proofs.lemmas.Result.{on_ok_weaker}
use Rattle.std.specs.Int.{w64}
use Rattle.std.specs.Int.RustNames.{FitsSigned}
use Rattle.report_text.specs.Average.{pair_line}
use Rattle.report_text.proofs.average.push_policy.Goals as goal

pub returns : goal.returns
returns c =
    let out = c.args.out.now in
    let kind = codes "kind average\n" in
    let lots = c.args.average.now.lots in
    let low = c.args.cert.now.low in
    let high = c.args.cert.now.high in
    let low_fits : FitsSigned w64 low = search rules in
    let high_fits : FitsSigned w64 high = search rules in
    on_ok_weaker c.push_pair.result
    (λ whole.
    whole
    ∙ ap (λ (front : List ℕ). front ++ pair_line lots (to_z w64 (of_z w64 low)) (to_z w64 (of_z w64 high))) c.in_ok-push.ensures.ok
    ∙ append_assoc out kind (pair_line lots (to_z w64 (of_z w64 low)) (to_z w64 (of_z w64 high)))
    ∙ ap (λ (l : ℤ). out ++ (kind ++ pair_line lots l (to_z w64 (of_z w64 high)))) (to_z-of_z w64 low low_fits)
    ∙ ap (λ (h : ℤ). out ++ (kind ++ pair_line lots low h)) (to_z-of_z w64 high high_fits))
    c.push_pair.ensures
