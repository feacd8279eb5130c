-- What a turn of the iteration finds.
use Rattle.std.specs.Prelude.{◌≡◌, ℕ, ◌*◌, ◌<◌, ◌≤◌, slice_index, Option, MatchOption}
use Rattle.decision_model.specs.declared.average.Average.{Average}
use Rattle.value_cert.specs.AverageValues.{Ratio}
use Rattle.average_lemmas.specs.CostLines.{keep_constant, keep_slope, chosen_lines}
use Rattle.average_cost.specs.declared.gain.Gain.{Gain}
use Rattle.average_cost.specs.declared.gain.Lines.{Lines}

abbrev pub ratio_of : Gain → Ratio
ratio_of g = record { num = g.num; den = g.den }

-- the constants and the slopes of the first places, by their choices
abbrev pub constant_at : Average → Ratio → ℕ → ℕ → ℕ
constant_at item g k = slice_index (chosen_lines item g k).constants

abbrev pub slope_at : Average → Ratio → ℕ → ℕ → ℕ
slope_at item g k = slice_index (chosen_lines item g k).slopes

-- a place whose X is below 0 at g has the next g
pub record IsNext (item : Average) (g : Ratio) (k : ℕ) (next : Gain) : Type 0 where
  pub place : ℕ
  pub within : place < k
  pub num : next.num ≡ keep_constant item (constant_at item g k) place
  pub den : next.den ≡ keep_slope item (slope_at item g k) place
  pub less : keep_constant item (constant_at item g k) place * g.den < keep_slope item (slope_at item g k) place * g.num

-- no X of the first places is below 0
abbrev pub NoneBelow : Average → Ratio → ℕ → Type 0
NoneBelow item g k = (j : ℕ) → j < k → keep_slope item (slope_at item g k) j * g.num ≤ keep_constant item (constant_at item g k) j * g.den

-- the next g after the first places, if an X of theirs is below 0
abbrev pub NextOf : Average → Ratio → ℕ → Option Gain → Type 0
NextOf item g k next = MatchOption next (NoneBelow item g k) (IsNext item g k)

-- the lines of the first places, and the next g
pub record AreLines (item : Average) (g : Ratio) (k : ℕ) (lines : Lines) : Type 0 where
  pub constants : lines.constants.items ≡ (chosen_lines item g k).constants
  pub slopes : lines.slopes.items ≡ (chosen_lines item g k).slopes
  pub next : NextOf item g k lines.next
