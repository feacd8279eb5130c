-- The span, entry by entry, and its size.
use Rattle.std.proofs.Common.{◌≡◌, ℕ, suc, ◌+◌, ◌*◌, ◌^◌, ◌<◌, ◌≤◌, max, ℤ, pos, negsuc, ◌-ℤ◌, List, [], ◌∷◌, ◌++◌, length, map, take, get_or, slice_index_or, refl, sym, ◌∙◌, ap, subst, arith}
use Rattle.std.specs.Prelude.{unsigned_abs}
use Rattle.std.proofs.lemmas.Int.{ints}
use Rattle.std.proofs.lemmas.List.{map-append, get_or-map, take_more, length-map}
use Rattle.std.proofs.Common.{to_z, of_z}
use mir.Syntax.{w128}
use Rattle.bracket_cost.proofs.CellFacts.{entry_back}
use Rattle.decision_model.specs.declared.average.Average.{Average}
use Rattle.decision_model.specs.Positions.{above_zero}
use Rattle.decision_model.specs.WideAverage.{IsWideAverage}
use Rattle.value_cert.specs.Bracket.{over_in, greatest_over, depth_over, span_in}
use Rattle.value_cert.specs.BracketRules.{IsBracket}
use Rattle.value_cert.specs.BracketValues.{setup_parts}
use Rattle.value_cert.specs.declared.bracket.BracketCell.{BracketCell}
use Rattle.value_cert.specs.declared.bracket.BracketCert.{BracketCert}
use Rattle.bracket_lemmas.specs.CertifiedBracket.{count_cells}
use Rattle.bracket_lemmas.specs.WideSizes.{raise_small, setup_less, most_small}

abbrev pub overs : List BracketCell → List ℤ
overs cells = map (λ cell. cell.over) cells

-- ---- one entry more
greatest_behind : (most : ℕ) (xs : List ℤ) (x : ℤ) → greatest_over most (xs ++ x ∷ []) ≡ max (greatest_over most xs) (above_zero x)
unfolding greatest_over
greatest_behind most [] x = refl
greatest_behind most (y ∷ ys) x = greatest_behind (max most (above_zero y)) ys x

depth_behind : (depth : ℕ) (xs : List ℤ) (x : ℤ) → depth_over depth (xs ++ x ∷ []) ≡ max (depth_over depth xs) (above_zero (pos 0 -ℤ x))
unfolding depth_over
depth_behind depth [] x = refl
depth_behind depth (y ∷ ys) x = depth_behind (max depth (above_zero (pos 0 -ℤ y))) ys x

pub greatest_none : (most : ℕ) → greatest_over most [] ≡ most
unfolding greatest_over
greatest_none most = refl

pub depth_none : depth_over 0 [] ≡ 0
unfolding depth_over
depth_none = refl

overs_more : (cells : List BracketCell) (i : ℕ) (none : BracketCell) → i < length cells → overs (take (i + 1) cells) ≡ overs (take i cells) ++ (get_or cells i none).over ∷ []
overs_more cells i none within = ap overs (take_more cells i none within) ∙ map-append (λ (c : BracketCell). c.over) (take i cells) (get_or cells i none ∷ [])

pub greatest_more : (most greatest next top : ℕ) (cells : List BracketCell) (i : ℕ) (none : BracketCell) → i < length cells → greatest ≡ greatest_over most (overs (take i cells)) → top ≡ above_zero (get_or cells i none).over → next ≡ max greatest top
    → next ≡ greatest_over most (overs (take (i + 1) cells))
greatest_more most greatest next top cells i none within so_far here then =
    then ∙ (λ j. max (so_far j) (here j)) ∙ sym (ap (greatest_over most) (overs_more cells i none within) ∙ greatest_behind most (overs (take i cells)) (get_or cells i none).over)

pub depth_more : (depth next low : ℕ) (cells : List BracketCell) (i : ℕ) (none : BracketCell) → i < length cells → depth ≡ depth_over 0 (overs (take i cells)) → low ≡ above_zero (pos 0 -ℤ (get_or cells i none).over) → next ≡ max depth low
    → next ≡ depth_over 0 (overs (take (i + 1) cells))
depth_more depth next low cells i none within so_far here then =
    then ∙ (λ j. max (so_far j) (here j)) ∙ sym (ap (depth_over 0) (overs_more cells i none within) ∙ depth_behind 0 (overs (take i cells)) (get_or cells i none).over)

-- an upper entry, as it is read
pub over_read : (cells : List BracketCell) (i : ℕ) (none : BracketCell) → i < length cells → ((k : ℕ) → k < length cells → unsigned_abs (slice_index_or (overs cells) k (pos 0)) ≤ 2 ^ 119)
    → to_z w128 (of_z w128 (get_or cells i none).over) ≡ (get_or cells i none).over
over_read cells i none within each =
    let is = get_or-map (λ (c : BracketCell). c.over) cells i none (pos 0) within in
    entry_back (get_or cells i none).over (omega (arith, ap unsigned_abs is, each i within))

-- ---- sizes
above_small : (x : ℤ) (m : ℕ) → unsigned_abs x ≤ m → above_zero x ≤ m
above_small (pos n) m h = h
above_small (negsuc n) m h = omega arith

below_small : (x : ℤ) (m : ℕ) → unsigned_abs x ≤ m → above_zero (pos 0 -ℤ x) ≤ m
below_small x m h = above_small (pos 0 -ℤ x) m (omega (arith, ints, h))

greatest_most : (most m : ℕ) (xs : List ℤ) → most ≤ m → ((k : ℕ) → k < length xs → unsigned_abs (slice_index_or xs k (pos 0)) ≤ m) → greatest_over most xs ≤ m
unfolding greatest_over
greatest_most most m [] le each = le
greatest_most most m (x ∷ xs) le each = greatest_most (max most (above_zero x)) m xs (omega (arith, le, above_small x m (each 0 (omega arith)))) (λ k lt. each (suc k) (omega (arith, lt)))

depth_most : (depth m : ℕ) (xs : List ℤ) → depth ≤ m → ((k : ℕ) → k < length xs → unsigned_abs (slice_index_or xs k (pos 0)) ≤ m) → depth_over depth xs ≤ m
unfolding depth_over
depth_most depth m [] le each = le
depth_most depth m (x ∷ xs) le each = depth_most (max depth (above_zero (pos 0 -ℤ x))) m xs (omega (arith, le, below_small x m (each 0 (omega arith)))) (λ k lt. each (suc k) (omega (arith, lt)))

module _ (item : Average) (wide : IsWideAverage item) (c : BracketCert) (is : IsBracket item c) where
  each_small : (k : ℕ) → k < length (overs c.cells) → unsigned_abs (over_in c k) ≤ 2 ^ 119
  each_small k lt = omega (arith, is.is_over.small k (omega (arith, lt, length-map c.cells (λ (cell : BracketCell). cell.over), count_cells item wide c is.positions)), raise_small item wide)

  pub cells_small : (cells : List BracketCell) → cells ≡ c.cells → (k : ℕ) → k < length cells → unsigned_abs (slice_index_or (overs cells) k (pos 0)) ≤ 2 ^ 119
  cells_small cells e =
      subst (λ (cs : List BracketCell). (k : ℕ) → k < length cs → unsigned_abs (slice_index_or (overs cs) k (pos 0)) ≤ 2 ^ 119) (sym e)
      (λ k lt. each_small k (omega (arith, lt, length-map c.cells (λ (cell : BracketCell). cell.over))))

  pub greatest_small : greatest_over (setup_parts item) (overs c.cells) ≤ 2 ^ 119
  greatest_small = greatest_most (setup_parts item) (2 ^ 119) (overs c.cells) (omega (arith, setup_less item wide, most_small item wide)) each_small

  pub depth_small : depth_over 0 (overs c.cells) ≤ 2 ^ 119
  depth_small = depth_most 0 (2 ^ 119) (overs c.cells) (omega arith) each_small

  -- ---- both parts
  pub span_told : (setup greatest depth : ℕ) (cells : List BracketCell) → cells ≡ c.cells → setup ≡ item.setup → greatest ≡ greatest_over (setup * 1000000) (overs cells) → depth ≡ depth_over 0 (overs cells) → greatest + depth ≡ span_in item c
  span_told setup greatest depth cells e s g d = λ i. (g ∙ (λ j. greatest_over (s j * 1000000) (overs (e j)))) i + (d ∙ (λ j. depth_over 0 (overs (e j)))) i

  pub span_small : span_in item c ≤ 2 ^ 120
  span_small = omega (arith, greatest_small, depth_small)
