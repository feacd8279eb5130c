-- What costs least over positions costs least over lists of one position.
use Rattle.std.proofs.Common.{◌≡◌, ℕ, zero, suc, ◌+◌, ◌^◌, ℤ, pos, ◌+ℤ◌, ◌*ℤ◌, ◌≤ℤ◌, List, [], ◌∷◌, refl, sym, ◌∙◌, ap, subst}
use Rattle.demand_law.specs.Sequences.{over, laws_from}
use Rattle.decision_model.specs.Policies.{Problem, Policy, after, path_cost, expected, IsAllowedFrom, Least}
use Rattle.decision_model.specs.Listed.{position, is_one, listed, listed_policy, position_policy}
use Rattle.std.proofs.lemmas.Bool.{and_parts}

module _ (p : Problem ℤ) where
  -- a path costs the same over lists of one position
  path-listed : (n t : ℕ) (x : List ℤ) (choose : Policy (List ℤ)) (ds : List ℕ) → path_cost (listed p) n t x choose ds ≡ path_cost p n t (position x) (position_policy choose) ds
  path-listed zero t x choose ds = refl
  path-listed (suc n) t x choose [] = refl
  path-listed (suc n) t x choose (d ∷ ds) =
      ap (λ z. pos (p.discount_den ^ suc n) *ℤ p.cost t (position x) (position (choose [])) (d ∷ ds) +ℤ pos p.discount_num *ℤ z)
      (path-listed n (suc t) (p.next (position x) (position (choose [])) d ∷ []) (after choose d) ds)

  -- so does a policy
  pub expected-listed : (choose : Policy (List ℤ)) → expected (listed p) choose ≡ expected p (position_policy choose)
  expected-listed choose = ap (over (laws_from p.law 1 (p.horizon + p.lookahead))) (λ i ds. path-listed p.horizon 1 (p.start ∷ []) choose ds i)

  -- an allowed policy over lists has allowed positions
  allowed_positions : (n t : ℕ) (x : List ℤ) (choose : Policy (List ℤ)) → IsAllowedFrom (listed p) n t x choose → IsAllowedFrom p n t (position x) (position_policy choose)
  allowed_positions zero t x choose ok = tt
  allowed_positions (suc n) t x choose ok = (
    (and_parts (is_one (choose [])) (p.allows t (position x) (position (choose []))) ok.0).1,
    λ d lt. allowed_positions n (suc t) (p.next (position x) (position (choose [])) d ∷ []) (after choose d) (ok.1 d lt),
  )

  -- an allowed policy over positions has allowed lists
  allowed_listed : (n t : ℕ) (x : ℤ) (choose : Policy ℤ) → IsAllowedFrom p n t x choose → IsAllowedFrom (listed p) n t (x ∷ []) (listed_policy choose)
  allowed_listed zero t x choose ok = tt
  allowed_listed (suc n) t x choose ok = (ok.0, λ d lt. allowed_listed n (suc t) (p.next x (choose []) d) (after choose d) (ok.1 d lt))

  -- what costs least over positions costs least over lists of one position
  pub least_listed : (choose : Policy ℤ) (v : ℤ) → Least p choose v → Least (listed p) (listed_policy choose) v
  least_listed choose v is = record {
    allowed = allowed_listed p.horizon 1 p.start choose is.allowed;
    cost = expected-listed (listed_policy choose) ∙ is.cost;
    least = λ other ok. subst (λ (z : ℤ). v ≤ℤ z) (sym (expected-listed other)) (is.least (position_policy other) (allowed_positions p.horizon 1 (p.start ∷ []) other ok));
  }
