-- What the bound gives where V isn't exact at the end.
use Rattle.std.proofs.Common.{◌≡◌, ℕ, zero, suc, ◌+◌, ◌^◌, ◌≤◌, ℤ, pos, ◌-ℤ◌, ◌*ℤ◌, ◌≤ℤ◌, IsTrue, List, [], ◌∷◌, sum, arith, subst}
use Rattle.demand_law.specs.Sequences.{over, IsSequence, laws_from}
use Rattle.demand_law.specs.Integers as Z
use Rattle.demand_law.specs.SequenceSums.{over-mono, over_from-const}
use Rattle.decision_model.specs.Policies.{Problem, Policy, after, IsAllowedFrom}
use Rattle.decision_model.specs.Bounds.{state_after, end_sum, rest_from, IsOnGrid}

module _ {X : Type 0} (p : Problem X) (closed : IsOnGrid p) where
  -- the state after a sequence of demands is on the grid
  pub grid_after : (n t : ℕ) (x : X) (choose : Policy X) (ds : List ℕ) → 1 ≤ t → IsTrue (p.grid t x) → IsAllowedFrom p n t x choose → IsSequence (laws_from p.law t n) ds → IsTrue (p.grid (t + n) (state_after p x choose ds))
  grid_after zero t x choose [] pt on ok s = subst (λ (k : ℕ). IsTrue (p.grid k x)) (omega arith) on
  grid_after zero t x choose (d ∷ ds) pt on ok s = absurd s
  grid_after (suc n) t x choose [] pt on ok s = absurd s
  grid_after (suc n) t x choose (d ∷ ds) pt on ok s =
      subst (λ (k : ℕ). IsTrue (p.grid k (state_after p (p.next x (choose []) d) (after choose d) ds))) (omega arith)
      (grid_after n (suc t) (p.next x (choose []) d) (after choose d) ds (omega arith) (closed.next t d x (choose []) pt on ok.0 s.0) (ok.1 d s.0) s.1)

  -- the rest is at least what the end lacks at any state of the last grid
  pub rest_least : (w : ℕ) (V : ℕ → X → ℤ) (c : ℤ) → ((t : ℕ) → sum (p.law t) ≡ w) → ((x : X) → IsTrue (p.grid (suc p.horizon) x) → c ≤ℤ (end_sum p x -ℤ V (suc p.horizon) x)) → (choose : Policy X) → IsAllowedFrom p p.horizon 1 p.start choose → (pos (p.discount_num ^ p.horizon) *ℤ (pos (w ^ p.horizon) *ℤ c)) ≤ℤ rest_from p V p.horizon 1 p.start choose
  rest_least w V c same low choose ok =
      let lacks = λ (ds : List ℕ). end_sum p (state_after p p.start choose ds) -ℤ V (suc p.horizon) (state_after p p.start choose ds) in
      let laws = laws_from p.law 1 p.horizon in
      let each : over laws (λ ds. c) ≤ℤ over laws lacks = over-mono laws (λ ds. c) lacks
      (λ ds s. low (state_after p p.start choose ds) (subst (λ (k : ℕ). IsTrue (p.grid k (state_after p p.start choose ds))) (omega arith) (grid_after p.horizon 1 p.start choose ds (omega arith) closed.start ok s))) in
      Z.weight_mono (p.discount_num ^ p.horizon) (pos (w ^ p.horizon) *ℤ c) (over laws lacks)
      (subst (λ (z : ℤ). z ≤ℤ over laws lacks) (over_from-const p.law w same 1 p.horizon c) each)
