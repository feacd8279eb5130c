-- What came into a node is held or went out; what it ordered is under way, owed, in transit, held or made.
use Rattle.std.proofs.Common.{◌≡◌, ℕ, zero, suc, ◌+◌, ◌-◌, ◌<◌, ◌≤◌, min, Bool, true, false, List, [], ◌∷◌, length, map, refl, arith, get_or}
use Rattle.std.specs.List.{All}
use Rattle.std.specs.Prelude.{sum_by}
use Rattle.std.proofs.Math.ListN.{set}
use Rattle.std.proofs.lemmas.List.Elements.{All-map, All-weaker, All-head, All-tail, All-cons}
use Rattle.std.proofs.lemmas.List.Sums.{sum_by-cons}
use Rattle.network_model.specs.declared.network.Link.{Link}
use Rattle.node_state.specs.Holdings.{Leg, Claim, Holding, no_leg, new_leg, in_pipe, least_raw, legs_of, new_holding, begun, claimed, placed, received, finished, served, leg_placed, leg_received, leg_made, claim_served, claims_served, left_over, unsent}
use Rattle.node_state.specs.Sound.{ring_sum, pipe_placed, empty_pipe, least_below}

-- all units made so far, and all units sent out
pub record IsBalanced (made out : ℕ) (h : Holding) : Type 0 where
  pub node : h.initial + made ≡ h.stock + out
  pub legs : All (λ l. h.ordered ≡ in_pipe l + made) h.legs

abbrev pub total_sent : List Claim → ℕ
total_sent cs = sum_by (λ c. c.sent) cs

-- what was sent out between two states of one period, to customers and to the nodes that order from here
abbrev pub sent_out : Holding → Holding → ℕ
sent_out before after = (before.owed - after.owed) + total_sent after.claims

pub new_balanced : (initial claims : ℕ) (links : List Link) → IsBalanced 0 0 (new_holding initial (legs_of links) claims)
new_balanced initial claims links = record {
  node = refl;
  legs = All-map (λ l. 0 ≡ in_pipe l + 0) (λ (l : Link). new_leg l.lead l.order_lead) links (λ k d lt. let a = empty_pipe (get_or links k d).lead (get_or links k d).order_lead in omega arith);
}

pub begun_balanced : (h : Holding) (made out customers : ℕ) → IsBalanced made out h → IsBalanced made out (begun h customers)
begun_balanced h made out customers b = record { node = b.node; legs = b.legs }

pub claimed_balanced : (h : Holding) (made out slot units : ℕ) → IsBalanced made out h → IsBalanced made out (claimed h slot units)
claimed_balanced h made out slot units b = record { node = b.node; legs = b.legs }

pub placed_balanced : (h : Holding) (made out order : ℕ) → IsBalanced made out h → IsBalanced made out (placed h order)
placed_balanced h made out order b = record {
  node = b.node;
  legs = All-map (λ l. h.ordered + order ≡ in_pipe l + made) (leg_placed order) h.legs
      (All-weaker (λ l. h.ordered ≡ in_pipe l + made) (λ l. h.ordered + order ≡ in_pipe (leg_placed order l) + made) (λ l e. omega (arith, pipe_placed order l)) h.legs b.legs);
}

-- units that arrive are still in the pipe, at the dock or behind it
pub pipe_received : (units : ℕ) (paused : Bool) (l : Leg) → units ≤ l.lacking → in_pipe (leg_received units paused l) ≡ in_pipe l
pipe_received units true l le = omega (arith, ring_sum l.moving units)
pipe_received units false l le = omega (arith, ring_sum l.moving units)

All-set : {X : Type 0} (P : X → Type 0) (x : X) (xs : List X) (k : ℕ) → P x → All P xs → All P (set xs k x)
All-set P x [] k p ps = ps
All-set P x (y ∷ ys) zero p ps = All-cons P x ys p (All-tail P y ys ps)
All-set P x (y ∷ ys) (suc k) p ps = All-cons P y (set ys k x) (All-head P y ys ps) (All-set P x ys k p (All-tail P y ys ps))

pub received_balanced : (h : Holding) (made out source shipped : ℕ) (paused : Bool) → source < length h.legs → shipped ≤ (get_or h.legs source no_leg).lacking →
    IsBalanced made out h → IsBalanced made out (received h source shipped paused)
received_balanced h made out source shipped paused lt le b = record {
  node = b.node;
  legs = All-set (λ l. h.ordered ≡ in_pipe l + made) (leg_received shipped paused (get_or h.legs source no_leg)) h.legs source
      (let a = pipe_received shipped paused (get_or h.legs source no_leg) le in let c = b.legs source no_leg lt in omega arith) b.legs;
}

pub finished_balanced : (h : Holding) (made out : ℕ) → IsBalanced made out h → IsBalanced (made + (finished h).made) out (finished h)
finished_balanced h made out b = record {
  node = let a = b.node in omega arith;
  legs = All-map (λ l. h.ordered ≡ in_pipe l + (made + least_raw h.legs)) (leg_made (least_raw h.legs)) h.legs
      (λ k d lt. step (get_or h.legs k d) (b.legs k d lt) (least_below h.legs k d lt));
}
  where
    step : (l : Leg) → h.ordered ≡ in_pipe l + made → least_raw h.legs ≤ l.raw → h.ordered ≡ in_pipe (leg_made (least_raw h.legs) l) + (made + least_raw h.legs)
    step l e le = omega arith

-- what is left and what was sent are what there was
left_and_sent : (cs : List Claim) (left : ℕ) → left_over cs left + total_sent (claims_served cs left) ≡ left
left_and_sent [] left = omega arith
left_and_sent (c ∷ cs) left =
    omega (arith, left_and_sent cs (left - min c.due left), sum_by-cons (λ k. k.sent) (claim_served c left) (claims_served cs (left - min c.due left)))

none_sent : (cs : List Claim) → total_sent (map unsent cs) ≡ 0
none_sent [] = refl
none_sent (c ∷ cs) = omega (arith, none_sent cs, sum_by-cons (λ k. k.sent) (unsent c) (map unsent cs))

pub served_balanced : (h : Holding) (made out : ℕ) (paused : Bool) → IsBalanced made out h → IsBalanced made (out + sent_out h (served h paused)) (served h paused)
served_balanced h made out true b = record { node = let a = b.node in omega (arith, none_sent h.claims); legs = b.legs }
served_balanced h made out false b = record { node = let a = b.node in omega (arith, left_and_sent h.claims (h.stock - min h.owed h.stock)); legs = b.legs }
