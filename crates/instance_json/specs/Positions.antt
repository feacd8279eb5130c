-- Positions of a serial system.
use Rattle.std.specs.Prelude.{◌&&◌, ℤ, List, [], ◌∷◌, Bool, true, int_le}
use Rattle.std.specs.List.{list_all}
use Rattle.decision_model.specs.Limits.{least_position}

-- each number is at least the one before it, the first at least `low`
abbrev pub rises_from : ℤ → List ℤ → Bool
rises_from low [] = true
rises_from low (x ∷ xs) = int_le low x && rises_from x xs

-- echelon stocks that never fall, all of them at most `cap`
abbrev pub is_start : ℤ → List ℤ → Bool
is_start cap positions = rises_from least_position positions && list_all (λ x. int_le x cap) positions
