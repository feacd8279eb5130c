-- The solver's certificate, as a function of the instance.
use Rattle.std.specs.Prelude.{ℕ, pos, ◌-ℤ◌, map, slice_index}
use Rattle.std.specs.List.{range_with_len}
use Rattle.decision_model.specs.declared.average.Average.{Average}
use Rattle.decision_model.specs.Average.{average_positions}
use Rattle.value_cert.specs.AverageValues.{at_place}
use Rattle.bracket_lemmas.specs.BracketSolved.{under_entries, greatest_lower, high_place, order_count, over_entries, least_upper}
use Rattle.value_cert.specs.BracketValues.{most_over}
use Rattle.value_cert.specs.declared.bracket.BracketCell.{BracketCell}
use Rattle.value_cert.specs.declared.bracket.BracketCert.{BracketCert}

-- the cell of a place, by the lower entries and the raised upper ones
abbrev pub cell_at : Average → (ℕ → ℕ) → (ℕ → ℕ) → ℕ → ℕ → BracketCell
cell_at item under over raise k = record { at = at_place item k; under = under k; over = pos (over k) -ℤ pos raise }

abbrev pub solved_lower : Average → ℕ
solved_lower item = greatest_lower item (average_positions item)

abbrev pub solved_under : Average → ℕ → ℕ
solved_under item = slice_index (under_entries item (solved_lower item) (average_positions item))

abbrev pub solved_high : Average → ℕ
solved_high item = high_place item (solved_lower item) (solved_under item) (average_positions item)

abbrev pub solved_orders : Average → ℕ
solved_orders item = order_count item (solved_under item) (solved_high item)

abbrev pub solved_upper : Average → ℕ
solved_upper item = least_upper item (most_over item (average_positions item)) (solved_orders item) (solved_high item)

abbrev pub solved_over : Average → ℕ → ℕ
solved_over item = slice_index (over_entries item (most_over item (average_positions item)) (solved_orders item) (solved_upper item) (average_positions item))

unfoldable pub solved_bracket : Average → BracketCert
solved_bracket item = record {
  lower = solved_lower item;
  upper = solved_upper item;
  low = at_place item (solved_orders item) -ℤ pos 1;
  high = at_place item (solved_high item);
  cells = map (cell_at item (solved_under item) (solved_over item) (most_over item (average_positions item))) (range_with_len 0 (average_positions item));
}
