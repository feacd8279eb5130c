-- What a certificate of an average cost has to say, line by line and as a whole. Its lines have the positions from the
-- floor up.
use Rattle.std.specs.Prelude.{◌≡◌, ℕ, ◌+◌, ◌*◌, ◌^◌, max, ◌≤◌, List, [], ◌∷◌, ◌++◌, length, map, slice_index, sum, Bool, true, ◌&&◌, ◌==◌, if◌then◌else◌, nat_le, nat_lt, ℤ, pos, ◌-ℤ◌, int_le, int_lt, unsigned_abs, Option, Some, None}
use Rattle.std.specs.List.{range_with_len}
use Rattle.fraction128.specs.Reduced.{gcd_of, lowest_num, lowest_den}
use Rattle.decision_model.specs.declared.average.Average.{Average}
use Rattle.decision_model.specs.Average.{average_positions}
use Rattle.value_cert.specs.AverageLeast.{pair_policy, AverageLeast, MeetsEquations}
use Rattle.value_cert.specs.AverageValues.{Ratio, moving, at_place, limit, gain, loss, is_cheap, lower_entries, upper_entries, is_zero_place, first_passing, greatest_den, greatest_num, average_cost_of}
use Rattle.value_cert.specs.Numbers.{is_number}
use Rattle.value_cert.specs.Rules.{Rules}
use Rattle.value_cert.specs.Standard.{Standard}
use Rattle.value_cert.specs.declared.average.AverageCert.{AverageCert}
use Rattle.value_cert.specs.declared.cert.Cert.{Cert}
use Rattle.value_cert.specs.declared.cert.Cert.TheVariants as cert
use Rattle.value_cert.specs.declared.line.CertLine.{CertLine}
use Rattle.value_cert.specs.declared.line.CertLine.TheVariants.{Gain, Pair, Point, End}

-- ---- what the lines so far name
-- the average cost, the pair, and the entries of the first places, which begin anew behind an average cost
pub record FirstPoints : Type 0 where
  pub g : Ratio
  pub low : ℤ
  pub high : ℤ
  pub lower : List ℕ
  pub upper : List ℕ

abbrev pub no_points : FirstPoints
no_points = record { g = record { num = 0; den = 0 }; low = pos 0; high = pos 0; lower = []; upper = [] }

abbrev pub named_points : FirstPoints → CertLine → FirstPoints
named_points first (Gain num den) =
    record { g = record { num = unsigned_abs num; den = unsigned_abs den }; low = first.low; high = first.high; lower = []; upper = [] }
named_points first (Pair low high) = record { g = first.g; low = low; high = high; lower = first.lower; upper = first.upper }
named_points first (Point at lower upper) =
    record { g = first.g; low = first.low; high = first.high; lower = first.lower ++ unsigned_abs lower ∷ []; upper = first.upper ++ unsigned_abs upper ∷ [] }
named_points first _ = first

-- ---- rules
-- the average cost is in lowest terms, and both its numbers are in range (3)
abbrev pub is_gain : Average → ℕ → ℕ → Bool
is_gain item num den =
    nat_le 1 den && nat_le den (greatest_den item (average_positions item)) && (gcd_of num den == 1) && nat_le num (greatest_num item den)

-- the pair is in order on the grid, and its lower position may be one below it (4)
abbrev pub is_pair : Average → ℤ → ℤ → Bool
is_pair item low high = int_le (item.floor -ℤ pos 1) low && int_lt low high && int_le high item.cap

-- the lower entry at the next place is at most what keeping it is worth, and at most the setup cost (5)
abbrev pub is_lower_entry : Average → FirstPoints → ℕ → Bool
is_lower_entry item first lower =
    nat_le (lower + loss item first.g (length first.lower)) (gain item first.g (slice_index first.lower) (length first.lower))
    && nat_le lower (limit item first.g (length first.lower))

-- the upper one is the setup cost up to low, and above it what keeping the place is worth (6)
abbrev pub is_upper_entry : Average → FirstPoints → ℤ → ℕ → Bool
is_upper_entry item first at upper =
    if int_le at first.low
    then upper == limit item first.g (length first.lower)
    else upper + loss item first.g (length first.lower) == gain item first.g (slice_index first.upper) (length first.lower)

-- it is 0 at high (7)
abbrev pub is_zero_at_high : FirstPoints → ℤ → ℕ → Bool
is_zero_at_high first at upper = if is_number first.high at then upper == 0 else true

-- the position is that of the next place of the grid (2)
abbrev pub is_next_point : Average → FirstPoints → ℤ → Bool
is_next_point item first at = nat_lt (length first.lower) (average_positions item) && is_number (at_place item (length first.lower)) at

-- the least rule from 2 on that a position with its entries breaks
abbrev pub point_rule : Average → FirstPoints → ℤ → ℕ → ℕ → Option ℕ
point_rule item first at lower upper =
    if is_next_point item first at
    then (
    if is_lower_entry item first lower
    then (if is_upper_entry item first at upper then (if is_zero_at_high first at upper then None else Some 7) else Some 6)
    else Some 5
    )
    else Some 2

-- each position has a line
abbrev pub are_points_whole : Average → FirstPoints → Bool
are_points_whole item first = length first.lower == average_positions item

-- the least rule from 2 on that a line breaks behind the lines that name these
abbrev pub average_rule : Average → FirstPoints → CertLine → Option ℕ
average_rule item first (Gain num den) = if is_gain item (unsigned_abs num) (unsigned_abs den) then None else Some 3
average_rule item first (Pair low high) = if is_pair item low high then None else Some 4
average_rule item first (Point at lower upper) = point_rule item first at (unsigned_abs lower) (unsigned_abs upper)
average_rule item first End = if are_points_whole item first then None else Some 2
average_rule item first _ = None

abbrev pub average_rules : Average → Rules
average_rules item = record { Known = FirstPoints; nothing = no_points; further = named_points; broken = average_rule item }

-- ---- what a certificate claims
-- its average cost
abbrev pub cost_in : AverageCert → Ratio
cost_in c = record { num = c.num; den = c.den }

-- the entries of its tables by place
abbrev pub lower_in : AverageCert → List ℕ
lower_in c = map (λ cell. cell.lower) c.cells

abbrev pub upper_in : AverageCert → List ℕ
upper_in c = map (λ cell. cell.upper) c.cells

-- the greatest of a number and the relative values of entries, all over the denominator of the last place
unfoldable pub greatest_value : ℕ → List ℕ → ℕ → ℕ
greatest_value v [] most = most
greatest_value v (entry ∷ entries) most = greatest_value v entries (max most (entry * v ^ length entries))

-- the greatest of the setup cost and all relative values of both tables, over the denominator of the last place
abbrev pub span_num : Average → AverageCert → ℕ
span_num item c =
    greatest_value (sum (moving item.law)) (upper_in c)
    (greatest_value (sum (moving item.law)) (lower_in c) (item.setup * c.den * sum item.law ^ item.lead * sum (moving item.law) ^ average_positions item))

-- the denominator of the last place
abbrev pub span_den : Average → AverageCert → ℕ
span_den item c = c.den * sum item.law ^ item.lead * sum (moving item.law) ^ average_positions item

-- the span of a certificate
abbrev pub span_of : Average → AverageCert → Ratio
span_of item c = record { num = span_num item c; den = span_den item c }

-- the certificate has entries for each position, its numbers are in range, they meet the equations, and its pair has least
-- average cost over every number of periods and from every start up to the cap, within the span
pub record IsLeastAverage (item : Average) (c : AverageCert) : Type 0 where
  pub positions : map (λ cell. cell.at) c.cells ≡ map (at_place item) (range_with_len 0 (average_positions item))
  pub den_small : c.den ≤ greatest_den item (average_positions item)
  pub num_small : c.num ≤ greatest_num item c.den
  pub equations : MeetsEquations item (cost_in c) c.low c.high (average_positions item) (slice_index (lower_in c)) (slice_index (upper_in c))
  pub least : AverageLeast item (pair_policy c.low c.high) (cost_in c) (span_of item c)

abbrev pub CertifiesAverage : Average → Cert → Type 0
CertifiesAverage item (cert.Average c) = IsLeastAverage item c
CertifiesAverage item _ = ⊥

-- ---- the solver's certificate
-- the first place whose keeping is worth 0 in the lower table
unfoldable pub first_zero : Average → Ratio → ℕ
first_zero item g = first_passing (is_zero_place item g) 0 (average_positions item)

-- the first place whose period costs at most the average cost
unfoldable pub first_cheap : Average → Ratio → ℕ
first_cheap item g = first_passing (is_cheap item g) 0 (average_positions item)

-- the certificate with an average cost
abbrev pub certificate_with : Average → Ratio → AverageCert
certificate_with item g =
    let n = average_positions item in
    let low = at_place item (first_cheap item g) -ℤ pos 1 in
    record {
      num = g.num;
      den = g.den;
      low = low;
      high = at_place item (first_zero item g);
      cells = map (λ k. record { at = at_place item k; lower = slice_index (lower_entries item g n) k; upper = slice_index (upper_entries item g low n) k }) (range_with_len 0 n);
    }

-- with the least average cost
abbrev pub solved_average : Average → AverageCert
solved_average item = certificate_with item (average_cost_of item)

-- ---- the printed cost
abbrev pub average_num : Cert → ℤ
average_num (cert.Average c) = lowest_num (pos c.num) c.den
average_num _ = pos 0

abbrev pub average_den : Cert → ℕ
average_den (cert.Average c) = lowest_den (pos c.num) c.den
average_den _ = 1

abbrev pub average_standard : Average → Standard
average_standard item = record {
  rules = average_rules item;
  Certifies = CertifiesAverage item;
  solved = Some (cert.Average (solved_average item));
  printed_num = average_num;
  printed_den = average_den;
}
