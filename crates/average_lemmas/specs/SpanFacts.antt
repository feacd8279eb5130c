-- A certificate's span is at least the setup cost and each relative value of both tables.
use Rattle.std.proofs.Common.{◌≡◌, ℕ, zero, suc, ◌+◌, ◌*◌, ◌^◌, max, ◌≤◌, List, [], ◌∷◌, length, slice_index, sum, ap, arith}
use Rattle.decision_model.specs.declared.average.Average.{Average}
use Rattle.decision_model.specs.Average.{average_positions}
use Rattle.value_cert.specs.AverageRules.{cost_in, lower_in, upper_in, greatest_value, span_num, span_den, span_of}
use Rattle.value_cert.specs.AverageValues.{moving}
use Rattle.value_cert.specs.declared.average.AverageCert.{AverageCert}
use Rattle.average_lemmas.specs.SolvedTables.{IsSpanOf}

-- the greatest is at least what it began with
pub greatest_start : (v : ℕ) (entries : List ℕ) (most : ℕ) → most ≤ greatest_value v entries most
unfolding greatest_value
greatest_start v [] most = omega arith
greatest_start v (entry ∷ entries) most = omega (arith, greatest_start v entries (max most (entry * v ^ length entries)))

-- and at least each entry over the denominator of the last place
pub greatest_each : (v : ℕ) (entries : List ℕ) (most k r : ℕ) → k + suc r ≡ length entries → slice_index entries k * v ^ r ≤ greatest_value v entries most
unfolding greatest_value
greatest_each v [] most k r e = absurd (omega (arith, e))
greatest_each v (entry ∷ entries) most zero r e =
    let same : r ≡ length entries = omega (arith, e) in
    omega (arith, greatest_start v entries (max most (entry * v ^ length entries)), ap (λ m. entry * v ^ m) same)
greatest_each v (entry ∷ entries) most (suc k) r e = greatest_each v entries (max most (entry * v ^ length entries)) k r (omega (arith, e))

-- and at most what all of these are at most
pub greatest_most : (v : ℕ) (entries : List ℕ) (most bound : ℕ) → most ≤ bound → ((k r : ℕ) → k + suc r ≡ length entries → slice_index entries k * v ^ r ≤ bound) → greatest_value v entries most ≤ bound
unfolding greatest_value
greatest_most v [] most bound le each = le
greatest_most v (entry ∷ entries) most bound le each =
    greatest_most v entries (max most (entry * v ^ length entries)) bound (omega (arith, le, each 0 (length entries) (omega arith))) (λ k r e. each (suc k) r (omega (arith, e)))

-- the span of a certificate that has both tables
pub span_is : (item : Average) (c : AverageCert) → 1 ≤ span_den item c → length (lower_in c) ≡ average_positions item → length (upper_in c) ≡ average_positions item
    → IsSpanOf item (cost_in c) (average_positions item) (slice_index (lower_in c)) (slice_index (upper_in c)) (span_of item c)
span_is item c some lower upper =
    let v = sum (moving item.law) in
    let setup = item.setup * c.den * sum item.law ^ item.lead * v ^ average_positions item in
    let first = greatest_value v (lower_in c) setup in
    record {
      span_some = some;
      greatest = span_num item c;
      setup = omega (arith, greatest_start v (lower_in c) setup, greatest_start v (upper_in c) first);
      lower_within = λ k r e. omega (arith, greatest_each v (lower_in c) setup k r (omega (arith, e, lower)), greatest_start v (upper_in c) first);
      upper_within = λ k r e. greatest_each v (upper_in c) first k r (omega (arith, e, upper));
      within = omega arith;
    }
