-- A turn's g in lowest terms serves as well.
use Rattle.std.proofs.Common.{◌≡◌, ℕ, ◌+◌, ◌*◌, ◌/◌, ◌<◌, ◌≤◌, arith, mul-le-mul_left, ap, ◌⊎◌, inl, inr}
use Rattle.std.proofs.lemmas.Nat.{le-div}
use Rattle.std.proofs.Math.Nat.{mul-div-le}
use Rattle.std.proofs.lemmas.Bool.{cases_lt}
use Rattle.decision_model.specs.declared.average.Average.{Average}
use Rattle.decision_model.specs.Average.{average_cost_bound}
use Rattle.value_cert.specs.AverageValues.{Ratio, greatest_den}
use Rattle.average_lemmas.specs.CostLines.{keep_constant, keep_slope, IsTurn, measure}

-- a factor goes from both sides
cancel_le : (d a b : ℕ) → 1 ≤ d → d * a ≤ d * b → a ≤ b
cancel_le d a b some le = go (cases_lt b a)
  where
    go : (b < a) ⊎ (a ≤ b) → a ≤ b
    go (inl lt) = absurd (omega (arith, mul-le-mul_left d lt))
    go (inr done) = done

-- equal fractions have no greater whole parts
whole_part_most : (a b c d : ℕ) → 1 ≤ b → 1 ≤ d → a * d ≡ c * b → a / b ≤ c / d
whole_part_most a b c d some_b some_d same =
    le-div (a / b) c d (omega arith) (cancel_le b (a / b * d) c some_b (omega (arith, mul-le-mul_left d (mul-div-le a b))))

-- h is g in lowest terms, or in lower ones
pub lower_terms : (item : Average) (n : ℕ) (g h : Ratio) → IsTurn item n g → h.num * g.den ≡ g.num * h.den → 1 ≤ h.den → h.den ≤ g.den → IsTurn item n h × (measure item n h ≤ measure item n g)
lower_terms item n g h turn same some small =
    let c = item.setup + average_cost_bound item in
    let r = turn.reached in
    let a = keep_constant item r.constant r.place in
    let b = keep_slope item r.slope r.place in
    let dd = greatest_den item n * greatest_den item n in (
      record {
        some = some;
        small = omega (arith, small, turn.small);
        bounded = cancel_le g.den h.num (h.den * c) turn.some (omega (arith, mul-le-mul_left h.den turn.bounded));
        reached = record {
          limits = r.limits;
          constant = r.constant;
          slope = r.slope;
          lines = r.lines;
          place = r.place;
          within = r.within;
          reached = cancel_le g.den (a * h.den) (b * h.num) turn.some (omega (arith, mul-le-mul_left h.den r.reached, ap (λ z. b * z) same));
        };
      },
      whole_part_most (h.num * dd) h.den (g.num * dd) g.den some turn.some (omega (arith, ap (λ z. z * dd) same)),
    )
