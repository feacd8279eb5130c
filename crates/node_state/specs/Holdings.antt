-- What a node holds, and how each event of a period changes it.
use Rattle.std.specs.Prelude.{ℕ, zero, suc, ◌+◌, ◌-◌, ◌≤◌, ◌^◌, min, ℤ, pos, ◌-ℤ◌, Bool, cond, List, [], ◌∷◌, ◌++◌, drop, sum, sum_by, map, slice_index}
use Rattle.std.specs.List.{All}
use Rattle.std.proofs.Common.{get_or}
use Rattle.std.proofs.Math.ListN.{set}
use Rattle.network_model.specs.declared.network.Link.{Link}

abbrev pub zeros : ℕ → List ℕ
zeros zero = []
zeros (suc n) = 0 ∷ zeros n

abbrev pub total : List ℕ → ℕ
total [] = 0
total (x ∷ xs) = x + total xs

-- the oldest amount leaves a ring, and a new one enters it
abbrev pub push_ring : List ℕ → ℕ → List ℕ
push_ring xs x = drop 1 xs ++ x ∷ []

-- what a ring holds past its front: what is still under way when a period ends
abbrev pub past_front : List ℕ → ℕ
past_front xs = sum (drop 1 xs)

-- one source: orders on their way to it and units on their way back, one entry a period, the oldest first;
-- what it owes, and units that have arrived, before and behind the dock
pub record Leg : Type 0 where
  pub way : List ℕ
  pub moving : List ℕ
  pub lacking : ℕ
  pub dock : ℕ
  pub raw : ℕ

-- one node that orders from here: what it is owed, and what it was sent in this period
pub record Claim : Type 0 where
  pub due : ℕ
  pub sent : ℕ

abbrev pub no_leg : Leg
no_leg = record { way = []; moving = []; lacking = 0; dock = 0; raw = 0 }

abbrev pub no_claim : Claim
no_claim = record { due = 0; sent = 0 }

pub record Holding : Type 0 where
  pub initial : ℕ
  -- all orders, and all units seen
  pub ordered : ℕ
  pub noted : ℕ
  -- units seen and made in this period
  pub seen : ℕ
  pub made : ℕ
  pub stock : ℕ
  -- owed to customers
  pub owed : ℕ
  pub claims : List Claim
  pub legs : List Leg

abbrev pub begun : Holding → ℕ → Holding
begun h units = record h { noted = h.noted + units; seen = units; owed = h.owed + units }

abbrev pub more_due : Claim → ℕ → Claim
more_due c units = record { due = c.due + units; sent = c.sent }

abbrev pub claimed : Holding → ℕ → ℕ → Holding
claimed h slot units = record h {
  noted = h.noted + units;
  seen = h.seen + units;
  claims = set h.claims slot (more_due (get_or h.claims slot no_claim) units);
}

abbrev pub new_leg : ℕ → ℕ → Leg
new_leg lead order_lead = record { way = zeros (order_lead + 1); moving = zeros (lead + 1); lacking = 0; dock = 0; raw = 0 }

-- a leg for each source
abbrev pub legs_of : List Link → List Leg
legs_of links = map (λ (l : Link). new_leg l.lead l.order_lead) links

-- claims by the units that each gains, as far as the list goes
abbrev pub added : List ℕ → List Claim → List Claim
added [] cs = cs
added (u ∷ us) [] = []
added (u ∷ us) (c ∷ cs) = more_due c u ∷ added us cs

abbrev pub with_claims : Holding → List ℕ → Holding
with_claims h us = record h { noted = h.noted + total us; seen = h.seen + total us; claims = added us h.claims }

-- a new order goes out, and an earlier one reaches the source
abbrev pub leg_placed : ℕ → Leg → Leg
leg_placed order l = record l { way = push_ring l.way order; lacking = l.lacking + slice_index (push_ring l.way order) 0 }

abbrev pub placed : Holding → ℕ → Holding
placed h order = record h { ordered = h.ordered + order; legs = map (leg_placed order) h.legs }

-- the source ships units, and what it shipped some time ago arrives
abbrev pub leg_received : ℕ → Bool → Leg → Leg
leg_received units paused l =
    let moving = push_ring l.moving units in
    let dock = l.dock + slice_index moving 0 in
    record l {
      moving = moving;
      lacking = l.lacking - units;
      dock = cond paused dock 0;
      raw = cond paused l.raw (l.raw + dock);
    }

abbrev pub received : Holding → ℕ → ℕ → Bool → Holding
received h source units paused = record h { legs = set h.legs source (leg_received units paused (get_or h.legs source no_leg)) }

abbrev pub least_raw_from : ℕ → List Leg → ℕ
least_raw_from m [] = m
least_raw_from m (l ∷ ls) = least_raw_from (min l.raw m) ls

abbrev pub least_raw : List Leg → ℕ
least_raw [] = 0
least_raw (l ∷ ls) = least_raw_from l.raw ls

abbrev pub leg_made : ℕ → Leg → Leg
leg_made units l = record l { raw = l.raw - units }

abbrev pub finished : Holding → Holding
finished h = record h {
  made = least_raw h.legs;
  stock = h.stock + least_raw h.legs;
  legs = map (leg_made (least_raw h.legs)) h.legs;
}

-- a claim gains the lesser of what is due and what is left
abbrev pub claim_served : Claim → ℕ → Claim
claim_served c left = record { due = c.due - min c.due left; sent = min c.due left }

abbrev pub claims_served : List Claim → ℕ → List Claim
claims_served [] left = []
claims_served (c ∷ cs) left = claim_served c left ∷ claims_served cs (left - min c.due left)

abbrev pub left_over : List Claim → ℕ → ℕ
left_over [] left = left
left_over (c ∷ cs) left = left_over cs (left - min c.due left)

abbrev pub unsent : Claim → Claim
unsent c = record { due = c.due; sent = 0 }

abbrev pub served : Holding → Bool → Holding
served h paused = cond paused
    (record h { claims = map unsent h.claims })
    (record h {
      owed = h.owed - min h.owed h.stock;
      claims = claims_served h.claims (h.stock - min h.owed h.stock);
      stock = left_over h.claims (h.stock - min h.owed h.stock);
    })

-- all units ordered from a source and not yet made into finished ones
abbrev pub in_pipe : Leg → ℕ
in_pipe l = past_front l.way + l.lacking + past_front l.moving + l.dock + l.raw

abbrev pub total_due : List Claim → ℕ
total_due cs = sum_by (λ c. c.due) cs

-- totals stay within 10^12, and what is held is part of them
pub record IsSound (h : Holding) : Type 0 where
  pub few_initial : h.initial ≤ 10 ^ 12
  pub few_ordered : h.ordered ≤ 10 ^ 12
  pub few_noted : h.noted ≤ 10 ^ 12
  pub seen_noted : h.seen ≤ h.noted
  pub due_noted : h.owed + total_due h.claims ≤ h.noted
  pub stocked : h.stock ≤ h.initial + h.ordered
  pub piped : All (λ l. in_pipe l + h.stock ≤ h.initial + h.ordered) h.legs

abbrev pub no_holding : Holding
no_holding = record { initial = 0; ordered = 0; noted = 0; seen = 0; made = 0; stock = 0; owed = 0; claims = []; legs = [] }

abbrev pub local_position : Holding → ℤ
local_position h = pos (h.initial + h.ordered) -ℤ pos h.noted

abbrev pub new_claims : ℕ → List Claim
new_claims zero = []
new_claims (suc n) = no_claim ∷ new_claims n

-- a node before the first period
abbrev pub new_holding : ℕ → List Leg → ℕ → Holding
new_holding initial legs claims = record { initial = initial; ordered = 0; noted = 0; seen = 0; made = 0; stock = initial; owed = 0; claims = new_claims claims; legs = legs }
