use Rattle.std.proofs.Common.{rules, ◌≡◌, ◌++◌, ℤ, ◌+ℤ◌, ◌-ℤ◌, ◌≤ℤ◌, ◌<ℤ◌, pos, ◌∙◌, ap, to_z, of_z, arith}
use Rattle.std.proofs.lemmas.Int.{ints, to_z-of_z}
use Rattle.std.proofs.lemmas.Result.{on_ok_weaker}
use Rattle.std.specs.Int.{w64}
use Rattle.std.specs.Int.RustNames.{FitsSigned}
use Rattle.report_text.specs.Average.{pair_line}
use Rattle.report_text.proofs.bracket.push_bracket_pair.Goals as goal

pub returns : goal.returns
returns c =
    let out = c.args.out.now in
    let lots = c.args.average.now.lots in
    let low = c.args.cert.now.low in
    let high = c.args.cert.now.high in
    let low_fits : FitsSigned w64 low = search rules in
    let high_fits : FitsSigned w64 high = search rules in
    on_ok_weaker c.push_pair.result
    (λ whole. whole ∙ (λ i. out ++ pair_line lots (to_z-of_z w64 low low_fits i) (to_z-of_z w64 high high_fits i)))
    c.push_pair.ensures
