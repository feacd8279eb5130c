use Rattle.std.proofs.Common.{◌≡◌, ◌*◌, ◌<◌, ◌*ℤ◌, ℤ, pos, to_z, of_z, arith, rules}
use Rattle.std.specs.Prelude.{FitsSigned, unsigned_abs}
use Rattle.std.specs.Int.{w128}
use Rattle.std.proofs.lemmas.Int.{to_z-of_z}
use Rattle.fraction128.specs.declared.arithmetic.Denominators.{Denominators}
use Rattle.fraction128.specs.declared.frac.Frac.{Frac}
use Rattle.fraction128.specs.Divisors.{AreCoprime}
use Rattle.fraction128.specs.Reduced.{lowest_den, IsReduced}
use Rattle.fraction128.specs.Split.{den_with, least_common}
use Rattle.fraction128.proofs.Totals.{over_den, over_reduced, over_value}
use Rattle.fraction128.proofs.arithmetic.over_common.Goals as goal

-- what the answer is: part is the total over the shared part of the denominators
record Over (total : ℤ) (p : Denominators) (part : Frac) : Type 0 where
  reduced : IsReduced part.num (den_with part.den p)
  value : part.num *ℤ pos (least_common p) ≡ total *ℤ pos (den_with part.den p)
  den : den_with part.den p ≡ lowest_den total (least_common p)

over : (total : ℤ) (p : Denominators) (part : Frac) → FitsSigned w128 total → 0 < p.first → 0 < p.second → 0 < p.shared → AreCoprime (unsigned_abs total) (p.first * p.second) → part.num *ℤ pos p.shared ≡ to_z w128 (of_z w128 total) *ℤ pos part.den → Over total p part
over total p part fits first second shared apart h =
    let value : part.num *ℤ pos p.shared ≡ total *ℤ pos part.den = simp to_z-of_z at h in
    record {
      reduced = over_reduced total part.num p.first p.second p.shared part.den first second apart part.reduced value;
      value = over_value total part.num p.first p.second p.shared part.den value;
      den = over_den total part.num p.first p.second p.shared part.den first second shared apart part.reduced value;
    }

pub returns-in_err-den-clause-fits : goal.returns-in_err-den-clause-fits
returns-in_err-den-clause-fits c =
    let facts = over c.args.total c.args.parts.now c.new-part.result c.ranges.total c.requires.first c.requires.second c.requires.shared c.requires.apart c.new-part.ensures.value in
    (λ h. search rules, λ h. absurd (c.in_err-den.ensures (omega (arith, facts.den))))

pub invariant_of-result : goal.invariant_of-result
invariant_of-result c =
    let facts = over c.args.total c.args.parts.now c.new-part.result c.ranges.total c.requires.first c.requires.second c.requires.shared c.requires.apart c.new-part.ensures.value in
    let num_fits : FitsSigned w128 c.new-part.result.num = search rules in
    record { reduced = rw (to_z-of_z w128 c.new-part.result.num num_fits, c.in_ok-den.ensures.1) facts.reduced }

pub returns-clause-fits : goal.returns-clause-fits
returns-clause-fits c =
    let facts = over c.args.total c.args.parts.now c.new-part.result c.ranges.total c.requires.first c.requires.second c.requires.shared c.requires.apart c.new-part.ensures.value in
    (λ h. omega (arith, facts.den, c.in_ok-den.ensures), λ h. search rules)

pub returns-clause-value : goal.returns-clause-value
returns-clause-value c =
    let facts = over c.args.total c.args.parts.now c.new-part.result c.ranges.total c.requires.first c.requires.second c.requires.shared c.requires.apart c.new-part.ensures.value in
    let num_fits : FitsSigned w128 c.new-part.result.num = search rules in
    rw (to_z-of_z w128 c.new-part.result.num num_fits, c.in_ok-den.ensures.1) facts.value
