-- What came in is held or went out; what was ordered is on its way, owed, held or made.
use Rattle.std.proofs.Common.{◌≡◌, ℕ, suc, ◌+◌, ◌-◌, ◌*◌, ◌≤◌, List, [], ◌∷◌, drop, sym, arith, get_or}
use Rattle.std.specs.List.{All}
use Rattle.std.proofs.lemmas.List.Sums.{sum_by-cons}
use Rattle.node_state.specs.Holdings.{in_pipe, total, total_due}
use Rattle.node_state.specs.Totals.{Setting, spec_at, shipped, received, made, claims_on, demanded, line}
use Rattle.node_state.specs.Stands.{held, leg_at, at_rest, served_before}
use Rattle.network_sim.specs.Windows.{window_sum}
use Rattle.network_sim.specs.Claims.{AllBelow}
use Rattle.network_sim.specs.Steady.{IsSteady, IsSteadyLeg, received_most, least_most}
use Rattle.network_model.specs.declared.network.Link.{Link}

module _ (setting : Setting) (O : ℕ → ℕ → ℕ) (V : ℕ → ℕ → List ℕ) (i : ℕ) (s : IsSteady setting O V i) (t : ℕ) where
  -- initial + made = stock + all units served
  pub node_balance : (spec_at setting i).initial + made setting O V i t ≡ (at_rest setting O V t i).stock + total (V i t)
  node_balance = let a = s.stocked t in omega arith

  -- ordered = on the way + owed by the source + in transit + dock + raw + made
  pub leg_balance : All (λ l. O i t ≡ in_pipe (leg_at setting O V i t l) + made setting O V i t) (spec_at setting i).sources
  leg_balance = λ k d lt. one (get_or (spec_at setting i).sources k d) (s.legs k d lt) (least_most (λ l. received setting O V i l t) (spec_at setting i).sources k d lt)
    where
      one : (l : Link) → IsSteadyLeg setting O V i l → made setting O V i t ≤ received setting O V i l t → O i t ≡ in_pipe (leg_at setting O V i t l) + made setting O V i t
      one l p few =
          let a = window_sum (O i) s.orders_up l.order_lead t in
          let b = window_sum (shipped setting O V i l) p.shipped_up l.lead t in
          let c = p.shipped_most t in
          let d = received_most setting O V i l p t in
          omega arith

  due_is : (cs vs us : List ℕ) → AllBelow vs cs → total_due (held cs vs us) ≡ total cs - total vs
  due_is cs vs us p = let a = sums cs vs us p in omega arith
    where
      sums : (cs vs us : List ℕ) → AllBelow vs cs → total_due (held cs vs us) + total vs ≡ total cs
      sums [] [] us p = omega arith
      sums [] (v ∷ vs) us p = absurd p
      sums (c ∷ cs) [] us p = absurd p
      sums (c ∷ cs) (v ∷ vs) us p =
          let a = p.0 in
          omega (arith, sums cs vs (drop 1 us) p.1, sum_by-cons (λ k. k.due) (record { due = c - v; sent = v - get_or us 0 0 }) (held cs vs (drop 1 us)))

  rest_below : (vs : List ℕ) (c : ℕ) (cs : List ℕ) → AllBelow vs (c ∷ cs) → AllBelow (drop 1 vs) cs
  rest_below [] c cs p = absurd p
  rest_below (v ∷ vs) c cs p = p.1

  -- what a node's readers give is the row
  pub due_row : total_due (at_rest setting O V t i).claims ≡ total (claims_on setting.network.nodes O i t) - total (drop 1 (V i t))
  due_row = due_is (claims_on setting.network.nodes O i t) (drop 1 (V i t)) (drop 1 (served_before V i t)) (rest_below (V i t) (demanded setting i t) (claims_on setting.network.nodes O i t) (s.within t))

-- the row of period suc t: readers of the node at rest, and the order as the rise of all orders
pub row_is : (setting : Setting) (O : ℕ → ℕ → ℕ) (V : ℕ → ℕ → List ℕ) (i : ℕ) → IsSteady setting O V i → (t : ℕ) →
    let h = at_rest setting O V (suc t) i in
    line setting O V i t ≡ record {
      units_seen = h.seen;
      order = h.ordered - (at_rest setting O V t i).ordered;
      units_made = h.made;
      stock = h.stock;
      owed = h.owed;
      due = total_due h.claims;
      cost = (spec_at setting i).holding * h.stock + (spec_at setting i).stockout * h.owed;
    }
row_is setting O V i s t = λ j. record (line setting O V i t) { due = sym (due_row setting O V i s (suc t)) j }
