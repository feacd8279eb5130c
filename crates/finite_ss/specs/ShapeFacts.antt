-- The definition of a shape by cells says what it means.
use Rattle.std.proofs.Common.{◌≡◌, ◌⊎◌, inl, inr, ℕ, zero, suc, ◌<◌, ◌≤◌, ℤ, ◌≤ℤ◌, ◌<ℤ◌, int_le, Bool, true, false, ◌&&◌, IsTrue, if◌then◌else◌, List, [], ◌∷◌, length, slice_index_or, refl, sym, ◌∙◌, ap, arith, subst}
use Rattle.std.specs.Prelude.{int_lt}
use Rattle.std.proofs.lemmas.Int.{ints}
use Rattle.std.proofs.lemmas.Bool.{cases_lt, and_parts, and_from}
use Rattle.demand_law.specs.Integers as Z
use Rattle.decision_model.specs.PositionTests.{le_test, le_known}
use Rattle.value_cert.specs.declared.finite.FiniteCell.{FiniteCell}
use Rattle.finite_ss.specs.declared.shapes.Shape.{Shape}
use Rattle.finite_ss.specs.declared.shapes.Shape.TheVariants.{Pair, Never, Table}
use Rattle.finite_ss.specs.Shapes.{all_order_to, shape_of, HasPair, AllStay, IsShape}

-- ---- tests as facts
-- a position is below another one where the test says so
lt_test : (a b : ℤ) → a <ℤ b → IsTrue (int_lt a b)
lt_test a b h = by (int_lt a b) refl
  where
    by : (t : Bool) → int_lt a b ≡ t → IsTrue t
    by true e = refl
    by false e = absurd (omega (arith, ints, e, h))

-- and the test says so only there
lt_known : (a b : ℤ) → IsTrue (int_lt a b) → a <ℤ b
lt_known a b h = omega (arith, ints, h)

-- ---- all cells order up to high
-- one cell orders up to high
abbrev orders_to : ℤ → FiniteCell → Bool
orders_to high c = int_lt c.at c.to && (int_le c.to high && int_le high c.to)

-- .. as facts
cell_known : (high : ℤ) (c : FiniteCell) → IsTrue (orders_to high c) → (c.at <ℤ high) × (c.to ≡ high)
cell_known high c h =
    let first = and_parts (int_lt c.at c.to) (int_le c.to high && int_le high c.to) h in
    let second = and_parts (int_le c.to high) (int_le high c.to) first.1 in
    let same : c.to ≡ high = Z.le_antisym c.to high (le_known c.to high second.0) (le_known high c.to second.1) in
    let up = lt_known c.at c.to first.0 in
    (subst (λ (z : ℤ). c.at <ℤ z) same up, same)

-- .. and back
cell_test : (high : ℤ) (c : FiniteCell) → c.at <ℤ high → c.to ≡ high → IsTrue (orders_to high c)
cell_test high c up same =
    and_from (int_lt c.at c.to) (int_le c.to high && int_le high c.to) (lt_test c.at c.to (subst (λ (z : ℤ). c.at <ℤ z) (sym same) up))
    (and_from (int_le c.to high) (int_le high c.to) (le_test c.to high (omega (arith, ints, same))) (le_test high c.to (omega (arith, ints, same))))

-- the same of each cell of a list
abbrev AllTo : ℤ → List FiniteCell → Type 0
AllTo high cells = (k : ℕ) (d : FiniteCell) → k < length cells → ((slice_index_or cells k d).at <ℤ high) × ((slice_index_or cells k d).to ≡ high)

-- from the test to the facts
all_known : (high : ℤ) (cells : List FiniteCell) → all_order_to high cells ≡ true → AllTo high cells
all_known high [] h = λ k d lt. absurd (omega arith)
all_known high (c ∷ cells) h = by (orders_to high c) refl (all_known high cells) h
  where
    by : (t : Bool) → orders_to high c ≡ t → (all_order_to high cells ≡ true → AllTo high cells) → (if t then all_order_to high cells else false) ≡ true → AllTo high (c ∷ cells)
    by true e later rest zero d lt = cell_known high c e
    by true e later rest (suc k) d lt = later rest k d (omega arith)
    by false e later rest k d lt = cc

-- .. and back
all_told : (high : ℤ) (cells : List FiniteCell) → AllTo high cells → all_order_to high cells ≡ true
all_told high [] h = refl
all_told high (c ∷ cells) h =
    let here = h 0 c (omega arith) in
    let test : orders_to high c ≡ true = cell_test high c here.0 here.1 in
    ap (λ t. if t then all_order_to high cells else false) test ∙ all_told high cells (λ k d lt. h (suc k) d (omega arith))

-- ---- one cell more
-- the first cell orders, and all behind it
pair_first : (c : FiniteCell) (cells : List FiniteCell) → c.at <ℤ c.to → all_order_to c.to cells ≡ true → HasPair (c ∷ cells) c.at c.to
pair_first c cells up all = record {
  place = 0;
  listed = omega arith;
  lowest = λ d. refl;
  stays = λ k d lt. absurd (omega (arith, lt));
  orders = orders;
}
  where
    orders : (k : ℕ) (d : FiniteCell) → 0 ≤ k → k < length (c ∷ cells) → ((slice_index_or (c ∷ cells) k d).at <ℤ c.to) × ((slice_index_or (c ∷ cells) k d).to ≡ c.to)
    orders zero d le lt = (up, refl)
    orders (suc k) d le lt = all_known c.to cells all k d (omega arith)

-- a pair behind a cell that stays
pair_more : (c : FiniteCell) (cells : List FiniteCell) (low high : ℤ) → c.to ≤ℤ c.at → HasPair cells low high → HasPair (c ∷ cells) low high
pair_more c cells low high stay has = record {
  place = suc has.place;
  listed = omega (arith, has.listed);
  lowest = has.lowest;
  stays = stays;
  orders = orders;
}
  where
    stays : (k : ℕ) (d : FiniteCell) → k < suc has.place → (slice_index_or (c ∷ cells) k d).to ≤ℤ (slice_index_or (c ∷ cells) k d).at
    stays zero d lt = stay
    stays (suc k) d lt = has.stays k d (omega arith)

    orders : (k : ℕ) (d : FiniteCell) → suc has.place ≤ k → k < length (c ∷ cells) → ((slice_index_or (c ∷ cells) k d).at <ℤ high) × ((slice_index_or (c ∷ cells) k d).to ≡ high)
    orders zero d le lt = absurd (omega (arith, le))
    orders (suc k) d le lt = has.orders k d (omega arith) (omega arith)

-- the rest of a row whose first cell stays
pair_less : (c : FiniteCell) (cells : List FiniteCell) (low high : ℤ) → c.to ≤ℤ c.at → HasPair (c ∷ cells) low high → HasPair cells low high
pair_less c cells low high stay has = by has.place has.listed has.lowest has.stays has.orders
  where
    by : (place : ℕ) → place < length (c ∷ cells) → ((d : FiniteCell) → (slice_index_or (c ∷ cells) place d).at ≡ low) → ((k : ℕ) (d : FiniteCell) → k < place → (slice_index_or (c ∷ cells) k d).to ≤ℤ (slice_index_or (c ∷ cells) k d).at) → ((k : ℕ) (d : FiniteCell) → place ≤ k → k < length (c ∷ cells) → ((slice_index_or (c ∷ cells) k d).at <ℤ high) × ((slice_index_or (c ∷ cells) k d).to ≡ high)) → HasPair cells low high
    by zero listed lowest stays orders =
        let here = orders 0 c (omega arith) (omega arith) in
        let up : c.at <ℤ high = here.0 in
        let same : c.to ≡ high = here.1 in
        absurd (omega (arith, ints, up, same, stay))
    by (suc place) listed lowest stays orders = record {
      place = place;
      listed = omega (arith, listed);
      lowest = lowest;
      stays = λ k d lt. stays (suc k) d (omega (arith, lt));
      orders = λ k d le lt. orders (suc k) d (omega (arith, le)) (omega (arith, lt));
    }

-- the first cell orders, so the pair is its own
pair_here : (c : FiniteCell) (cells : List FiniteCell) (low high : ℤ) → c.at <ℤ c.to → HasPair (c ∷ cells) low high → all_order_to c.to cells ≡ true
pair_here c cells low high up has = by (cases_lt 0 has.place)
  where
    by : (0 < has.place) ⊎ (has.place ≤ 0) → all_order_to c.to cells ≡ true
    by (inl later) =
        let stay : c.to ≤ℤ c.at = has.stays 0 c later in
        absurd (omega (arith, ints, stay, up))
    by (inr here) =
        let first : c.to ≡ high = (has.orders 0 c here (omega arith)).1 in
        subst (λ (z : ℤ). all_order_to z cells ≡ true) (sym first) (all_told high cells (λ k d lt. has.orders (suc k) d (omega (arith, here)) (omega (arith, lt))))

-- a cell that stays, before a row
shape_more : (c : FiniteCell) (cells : List FiniteCell) (s : Shape) → c.to ≤ℤ c.at → IsShape cells s → IsShape (c ∷ cells) s
shape_more c cells Never stay is = all
  where
    all : AllStay (c ∷ cells)
    all zero d lt = stay
    all (suc k) d lt = is k d (omega arith)
shape_more c cells (Pair low high) stay is = pair_more c cells low high stay is
shape_more c cells Table stay is = (λ all. is.0 (λ k d lt. all (suc k) d (omega (arith, lt))), λ low high has. is.1 low high (pair_less c cells low high stay has))

-- a row has the shape that the definition gives
pub shape_is : (cells : List FiniteCell) → IsShape cells (shape_of cells)
shape_is [] = λ k d lt. absurd (omega arith)
shape_is (c ∷ cells) = by (shape_is cells) (int_lt c.at c.to) refl (all_order_to c.to cells) refl
  where
    by : IsShape cells (shape_of cells) → (t : Bool) → int_lt c.at c.to ≡ t → (a : Bool) → all_order_to c.to cells ≡ a → IsShape (c ∷ cells) (if t then (if a then Pair c.at c.to else Table) else shape_of cells)
    by later true e true all = pair_first c cells (omega (arith, ints, e)) all
    by later true e false all = (
      λ stay. let here : c.to ≤ℤ c.at = stay 0 c (omega arith) in absurd (omega (arith, ints, e, here)),
      λ low high has. let whole = pair_here c cells low high (omega (arith, ints, e)) has in cc,
    )
    by later false e a all = shape_more c cells (shape_of cells) (omega (arith, ints, e)) later

-- .. which is all that the shape says
pub shape_told : (cells : List FiniteCell) (s : Shape) → s ≡ shape_of cells → IsShape cells s
shape_told cells s e = subst (λ (s : Shape). IsShape cells s) (sym e) (shape_is cells)

-- ---- one shape alone
-- no pair where all stay
nothing_orders : (cells : List FiniteCell) (low high : ℤ) → AllStay cells → HasPair cells low high → ⊥
nothing_orders [] low high stay has = absurd (omega (arith, has.listed))
nothing_orders (c ∷ cells) low high stay has =
    let here = has.orders has.place c (omega arith) has.listed in
    let still = stay has.place c has.listed in
    absurd (omega (arith, ints, here.0, here.1, still))

-- no pair begins before another
places_are_one : (cells : List FiniteCell) (d : FiniteCell) (low high low' high' : ℤ) → (has : HasPair cells low high) → (other : HasPair cells low' high') → has.place < other.place → ⊥
places_are_one cells d low high low' high' has other lt =
    let still = other.stays has.place d lt in
    let here = has.orders has.place d (omega arith) has.listed in
    absurd (omega (arith, ints, here.0, here.1, still))

-- two pairs are one
pair_is_one : (cells : List FiniteCell) (low high low' high' : ℤ) → HasPair cells low high → HasPair cells low' high' → Pair low high ≡ Pair low' high'
pair_is_one [] low high low' high' has other = absurd (omega (arith, has.listed))
pair_is_one (c ∷ cells) low high low' high' has other = by (cases_lt has.place other.place) (cases_lt other.place has.place)
  where
    by : (has.place < other.place) ⊎ (other.place ≤ has.place) → (other.place < has.place) ⊎ (has.place ≤ other.place) → Pair low high ≡ Pair low' high'
    by (inl lt) _ = absurd (places_are_one (c ∷ cells) c low high low' high' has other lt)
    by (inr ge) (inl lt) = absurd (places_are_one (c ∷ cells) c low' high' low high other has lt)
    by (inr ge) (inr le) =
        let same : has.place ≡ other.place = omega (arith, ge, le) in
        let lows : low ≡ low' = sym (has.lowest c) ∙ ap (λ k. (slice_index_or (c ∷ cells) k c).at) same ∙ other.lowest c in
        let highs : high ≡ high' = sym ((has.orders has.place c (omega arith) has.listed).1) ∙ ap (λ k. (slice_index_or (c ∷ cells) k c).to) same ∙ (other.orders other.place c (omega arith) other.listed).1 in
        λ i. Pair (lows i) (highs i)

-- a row that has a pair has that shape
pub pair_told : (cells : List FiniteCell) (low high : ℤ) → HasPair cells low high → shape_of cells ≡ Pair low high
pair_told cells low high has = by (shape_of cells) (shape_is cells)
  where
    by : (s : Shape) → IsShape cells s → s ≡ Pair low high
    by Never is = absurd (nothing_orders cells low high is has)
    by (Pair least most) is = pair_is_one cells least most low high is has
    by Table is = absurd (is.1 low high has)

-- a row that stays has that shape
pub never_told : (cells : List FiniteCell) → AllStay cells → shape_of cells ≡ Never
never_told cells stay = by (shape_of cells) (shape_is cells)
  where
    by : (s : Shape) → IsShape cells s → s ≡ Never
    by Never is = refl
    by (Pair low high) is = absurd (nothing_orders cells low high stay is)
    by Table is = absurd (is.0 stay)
