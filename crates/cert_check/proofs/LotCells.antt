-- The cells of a lot plan's check while a dual is added to them.
use Rattle.std.proofs.Common.{◌≡◌, ℕ, ◌+◌, ◌-◌, ◌<◌, ◌≤◌, List, length, slice_index, ℤ, pos, Bool, true, false, nat_le, cond, refl, sym, ◌∙◌, ap, subst, arith, ◌⊎◌, inl, inr, get_or-set_other, get_or-set_same}
use Rattle.std.specs.Prelude.{unsigned_abs, slice_set}
use Rattle.std.proofs.lemmas.Bool.{cases_lt, eq-eqb, ne_eqb, leb-true, leb-false}
use Rattle.std.proofs.lemmas.List.{length-set}
use Rattle.decision_model.specs.Lots.{IsValidLots}
use Rattle.decision_model.specs.declared.lots.LotSize.{LotSize}
use Rattle.lot_lemmas.specs.LotRecursionFacts.{later_serves}
use Rattle.value_cert.specs.LotPlans.{holding_between, serving_cost}
use Rattle.lot_lemmas.specs.LotSums.{stretch-none, stretch-first}
use Rattle.cert_check.specs.LotCells.{cell_at, raised_cell}

-- the dual of period s was added to the cells from a period on, and passes no setup there; the cells before it are as they were
pub record IsRaised (item : LotSize) (before now : List ℤ) (s dual start held : ℕ) : Type 0 where
  pub from : start ≤ s
  pub held_is : held ≡ holding_between item start s
  pub within : (t : ℕ) → start ≤ t → t ≤ s → raised_cell item before s dual t ≤ slice_index item.setup t
  pub raised : (t : ℕ) → start ≤ t → t ≤ s → cell_at now t ≡ raised_cell item before s dual t
  pub kept : (t : ℕ) → t < start → cell_at now t ≡ cell_at before t

-- ---- a cell that was set
cell_set : (cells : List ℤ) (t n : ℕ) → t < length cells → cell_at (slice_set cells t (pos n)) t ≡ n
cell_set cells t n lt = ap unsigned_abs (get_or-set_same cells t (pos n) (pos 0) lt)

cell_other : (cells : List ℤ) (t k n : ℕ) → (k ≡ t → ⊥) → cell_at (slice_set cells t (pos n)) k ≡ cell_at cells k
cell_other cells t k n other = ap unsigned_abs (get_or-set_other cells t k (pos n) (pos 0) other)

-- ---- what a cell is to hold
own_cell : (item : LotSize) (before : List ℤ) (s dual : ℕ) → raised_cell item before s dual s ≡ dual - serving_cost item s s
own_cell item before s dual = ap (λ (b : Bool). cond b 0 (cell_at before s) + (dual - serving_cost item s s)) (eq-eqb s s refl) ∙ omega arith

earlier_cell : (item : LotSize) (before : List ℤ) (s dual t : ℕ) → t < s → raised_cell item before s dual t ≡ cell_at before t + (dual - serving_cost item t s)
earlier_cell item before s dual t lt = ap (λ (b : Bool). cond b 0 (cell_at before t) + (dual - serving_cost item t s)) (ne_eqb t s (omega arith))

-- ---- a period earlier
pub held_more : (item : LotSize) (t s held : ℕ) → t < s → s < length item.holding → held ≡ holding_between item (t + 1) s → held + slice_index item.holding t ≡ holding_between item t s
held_more item t s held lt inside held_is = omega (arith, stretch-first item.holding t s lt (omega arith), held_is)

-- ---- the cells from a period on
-- a period is added to those from the next one on
record Adds (item : LotSize) (before now next : List ℤ) (s dual t cost : ℕ) : Type 0 where
  room : t < length now
  cost_is : cost ≡ serving_cost item t s
  passes : nat_le (cell_at now t + (dual - cost)) (slice_index item.setup t) ≡ true
  cells : next ≡ slice_set now t (pos (cell_at now t + (dual - cost)))
  held_before : cell_at now t + (dual - serving_cost item t s) ≡ raised_cell item before s dual t

adds_within : (item : LotSize) (before now next : List ℤ) (s dual t cost : ℕ) → Adds item before now next s dual t cost → raised_cell item before s dual t ≤ slice_index item.setup t
adds_within item before now next s dual t cost adds =
    omega (arith, adds.held_before, ap (λ n. cell_at now t + (dual - n)) adds.cost_is, leb-true (cell_at now t + (dual - cost)) (slice_index item.setup t) adds.passes)

adds_cell : (item : LotSize) (before now next : List ℤ) (s dual t cost : ℕ) → Adds item before now next s dual t cost → cell_at next t ≡ raised_cell item before s dual t
adds_cell item before now next s dual t cost adds =
    ap (λ (cells : List ℤ). cell_at cells t) adds.cells
    ∙ cell_set now t (cell_at now t + (dual - cost)) adds.room
    ∙ ap (λ n. cell_at now t + (dual - n)) adds.cost_is ∙ adds.held_before

adds_other : (item : LotSize) (before now next : List ℤ) (s dual t cost : ℕ) → Adds item before now next s dual t cost → (k : ℕ) → (k ≡ t → ⊥) → cell_at next k ≡ cell_at now k
adds_other item before now next s dual t cost adds k other =
    ap (λ (cells : List ℤ). cell_at cells k) adds.cells ∙ cell_other now t k (cell_at now t + (dual - cost)) other

-- what is known of the periods behind one, and of it
by_place : (P : ℕ → Type 0) (t s : ℕ) → P t → ((k : ℕ) → t + 1 ≤ k → k ≤ s → P k) → (k : ℕ) → t ≤ k → k ≤ s → P k
by_place P t s here behind k from upto = at (cases_lt t k)
  where
    at : (t < k) ⊎ (k ≤ t) → P k
    at (inl lt) = behind k (omega arith) upto
    at (inr le) = let same : t ≡ k = omega arith in subst P same here

pub raised_own : (item : LotSize) (before now : List ℤ) (s dual cost : ℕ) → s < length before → cost ≡ serving_cost item s s
    → nat_le (cell_at (slice_set before s (pos 0)) s + (dual - cost)) (slice_index item.setup s) ≡ true
    → now ≡ slice_set (slice_set before s (pos 0)) s (pos (cell_at (slice_set before s (pos 0)) s + (dual - cost)))
    → IsRaised item before now s dual s 0
raised_own item before now s dual cost lt cost_is passes cells =
    let cleared : List ℤ = slice_set before s (pos 0) in
    let adds : Adds item before cleared now s dual s cost = record {
      room = omega (arith, length-set before s (pos 0));
      cost_is = cost_is;
      passes = passes;
      cells = cells;
      held_before = ap (λ n. n + (dual - serving_cost item s s)) (cell_set before s 0 lt) ∙ omega (arith, own_cell item before s dual);
    } in
    record {
      from = omega arith;
      held_is = sym (stretch-none item.holding s);
      within = by_place (λ k. raised_cell item before s dual k ≤ slice_index item.setup k) s s (adds_within item before cleared now s dual s cost adds) (λ k low high. absurd (omega arith));
      raised = by_place (λ k. cell_at now k ≡ raised_cell item before s dual k) s s (adds_cell item before cleared now s dual s cost adds) (λ k low high. absurd (omega arith));
      kept = λ t less. adds_other item before cleared now s dual s cost adds t (λ same. absurd (omega (arith, same))) ∙ cell_other before s t 0 (λ same. absurd (omega (arith, same)));
    }

pub raised_more : (item : LotSize) (before now next : List ℤ) (s dual t held cost : ℕ) → IsRaised item before now s dual (t + 1) held → t < length now → s < length item.holding
    → cost ≡ serving_cost item t s → nat_le (cell_at now t + (dual - cost)) (slice_index item.setup t) ≡ true → next ≡ slice_set now t (pos (cell_at now t + (dual - cost)))
    → IsRaised item before next s dual t (held + slice_index item.holding t)
raised_more item before now next s dual t held cost raised lt inside cost_is passes cells =
    let kept = raised.kept t (omega arith) in
    let adds : Adds item before now next s dual t cost = record {
      room = lt;
      cost_is = cost_is;
      passes = passes;
      cells = cells;
      held_before = ap (λ n. n + (dual - serving_cost item t s)) kept ∙ sym (earlier_cell item before s dual t (omega (arith, raised.from)));
    } in
    record {
      from = omega (arith, raised.from);
      held_is = held_more item t s held (omega (arith, raised.from)) inside raised.held_is;
      within = by_place (λ k. raised_cell item before s dual k ≤ slice_index item.setup k) t s (adds_within item before now next s dual t cost adds) raised.within;
      raised = by_place (λ k. cell_at next k ≡ raised_cell item before s dual k) t s (adds_cell item before now next s dual t cost adds)
          (λ k low high. adds_other item before now next s dual t cost adds k (λ same. absurd (omega (arith, same))) ∙ raised.raised k low high);
      kept = λ k less. adds_other item before now next s dual t cost adds k (λ same. absurd (omega (arith, same))) ∙ raised.kept k (omega arith);
    }

-- where the setup of a period is passed
pub past_own : (item : LotSize) (before : List ℤ) (s dual cost : ℕ) → s < length before → cost ≡ serving_cost item s s
    → nat_le (cell_at (slice_set before s (pos 0)) s + (dual - cost)) (slice_index item.setup s) ≡ false
    → slice_index item.setup s < raised_cell item before s dual s
past_own item before s dual cost lt cost_is fails =
    omega (arith, leb-false _ _ fails, own_cell item before s dual, ap (λ n. dual - n) cost_is, cell_set before s 0 lt)

pub past_more : (item : LotSize) (before now : List ℤ) (s dual t held cost : ℕ) → IsRaised item before now s dual (t + 1) held
    → cost ≡ serving_cost item t s → nat_le (cell_at now t + (dual - cost)) (slice_index item.setup t) ≡ false
    → slice_index item.setup t < raised_cell item before s dual t
past_more item before now s dual t held cost raised cost_is fails =
    omega (arith, leb-false _ _ fails, earlier_cell item before s dual t (omega (arith, raised.from)), ap (λ n. dual - n) cost_is, raised.kept t (omega arith))

-- ---- where serving from a period costs no less than the dual
-- no earlier period serves for less, so that no cell before it is raised
unraised_cell : (item : LotSize) → IsValidLots item → (before : List ℤ) (s dual t start cost : ℕ) → t ≤ start → start < s → s < length item.demand
    → cost ≡ serving_cost item start s → dual ≤ cost → raised_cell item before s dual t ≡ cell_at before t
unraised_cell item valid before s dual t start cost le lt inside cost_is enough =
    omega (arith, earlier_cell item before s dual t (omega arith), later_serves item valid t start s le (omega arith) inside, cost_is)

-- the cells from the first period on
pub record IsRaisedAll (item : LotSize) (before now : List ℤ) (s dual : ℕ) : Type 0 where
  pub within : ((t : ℕ) → t < s → cell_at before t ≤ slice_index item.setup t) → (t : ℕ) → t ≤ s → raised_cell item before s dual t ≤ slice_index item.setup t
  pub raised : (t : ℕ) → t ≤ s → cell_at now t ≡ raised_cell item before s dual t

pub ended_early : (item : LotSize) → IsValidLots item → (before now : List ℤ) (s dual start held cost : ℕ) → IsRaised item before now s dual (start + 1) held → s < length item.demand
    → cost ≡ serving_cost item start s → dual ≤ cost → IsRaisedAll item before now s dual
ended_early item valid before now s dual start held cost raised inside cost_is enough = record {
  within = λ covered t le. split (raised_cell item before s dual t ≤ slice_index item.setup t) t (raised.within t) (λ early. omega (arith, unraised t early, covered t (omega (arith, raised.from)))) le;
  raised = λ t le. split (cell_at now t ≡ raised_cell item before s dual t) t (raised.raised t) (λ early. raised.kept t early ∙ sym (unraised t early)) le;
}
  where
    unraised : (t : ℕ) → t < start + 1 → raised_cell item before s dual t ≡ cell_at before t
    unraised t early = unraised_cell item valid before s dual t start cost (omega arith) (omega (arith, raised.from)) inside cost_is enough

    split : (P : Type 0) (t : ℕ) → (start + 1 ≤ t → t ≤ s → P) → (t < start + 1 → P) → t ≤ s → P
    split P t later early le = by_place (cases_lt t (start + 1))
      where
        by_place : (t < start + 1) ⊎ (start + 1 ≤ t) → P
        by_place (inl lt) = early lt
        by_place (inr ge) = later ge le
