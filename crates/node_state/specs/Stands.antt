-- What a node holds at each point of a period, as a function of the network's totals.
use Rattle.std.specs.Prelude.{ℕ, zero, suc, ◌+◌, ◌-◌, List, [], ◌∷◌, drop, map}
use Rattle.std.proofs.Common.{get_or}
use Rattle.node_state.specs.Holdings.{Leg, Claim, Holding, total}
use Rattle.node_state.specs.Totals.{Setting, spec_at, before, demanded, claims_on, seen, shipped, received, made}
use Rattle.network_model.specs.declared.network.Link.{Link}

-- what a running total gains in a period
abbrev pub gain : (ℕ → ℕ) → ℕ → ℕ
gain f zero = 0
gain f (suc t) = f (suc t) - f t

-- the gains of the last k + 1 periods up to t, the oldest first
abbrev pub window : (ℕ → ℕ) → ℕ → ℕ → List ℕ
window f zero t = gain f t ∷ []
window f (suc k) t = gain f (before (suc k) t) ∷ window f k t

-- claims by their totals, what was served, and what had been served before this period
abbrev pub held : List ℕ → List ℕ → List ℕ → List Claim
held [] vs us = []
held (c ∷ cs) vs us = record { due = c - get_or vs 0 0; sent = get_or vs 0 0 - get_or us 0 0 } ∷ held cs (drop 1 vs) (drop 1 us)

-- the first list's entries less the second's
abbrev pub less : List ℕ → List ℕ → List ℕ
less [] cs = []
less (d ∷ ds) cs = (d - get_or cs 0 0) ∷ less ds (drop 1 cs)

-- a leg whose totals are orders o, shipped s, received r and made m; orders and units count up to periods a and b
abbrev pub leg_of : (O S : ℕ → ℕ) (l : Link) (a b r m : ℕ) → Leg
leg_of O S l a b r m = record {
  way = window O l.order_lead a;
  moving = window S l.lead b;
  lacking = O (before l.order_lead a) - S b;
  dock = S (before l.lead b) - r;
  raw = r - m;
}

abbrev pub leg_at : Setting → (ℕ → ℕ → ℕ) → (ℕ → ℕ → List ℕ) → ℕ → ℕ → Link → Leg
leg_at setting O V i t l = leg_of (O i) (shipped setting O V i l) l t t (received setting O V i l t) (made setting O V i t)

-- the served totals one period earlier
abbrev pub served_before : (ℕ → ℕ → List ℕ) → ℕ → ℕ → List ℕ
served_before V i zero = V i 0
served_before V i (suc t) = V i t

-- node i after period t
abbrev pub at_rest : Setting → (ℕ → ℕ → ℕ) → (ℕ → ℕ → List ℕ) → ℕ → ℕ → Holding
at_rest setting O V t i = record {
  initial = (spec_at setting i).initial;
  ordered = O i t;
  noted = seen setting O i t;
  seen = gain (seen setting O i) t;
  made = gain (made setting O V i) t;
  stock = (spec_at setting i).initial + made setting O V i t - total (V i t);
  owed = demanded setting i t - get_or (V i t) 0 0;
  claims = held (claims_on setting.network.nodes O i t) (drop 1 (V i t)) (drop 1 (served_before V i t));
  legs = map (leg_at setting O V i t) (spec_at setting i).sources;
}

-- node i once it has seen the claims of period suc t
abbrev pub at_seen : Setting → (ℕ → ℕ → ℕ) → (ℕ → ℕ → List ℕ) → ℕ → ℕ → Holding
at_seen setting O V t i = record (at_rest setting O V t i) {
  noted = seen setting O i (suc t);
  seen = seen setting O i (suc t) - seen setting O i t;
  owed = demanded setting i (suc t) - get_or (V i t) 0 0;
  claims = held (claims_on setting.network.nodes O i (suc t)) (drop 1 (V i t)) (drop 1 (served_before V i t));
}

-- a leg once the orders of period suc t went out
abbrev pub leg_ordered : Setting → (ℕ → ℕ → ℕ) → (ℕ → ℕ → List ℕ) → ℕ → ℕ → Link → Leg
leg_ordered setting O V i t l = leg_of (O i) (shipped setting O V i l) l (suc t) t (received setting O V i l t) (made setting O V i t)

-- node i once it has ordered
abbrev pub at_ordered : Setting → (ℕ → ℕ → ℕ) → (ℕ → ℕ → List ℕ) → ℕ → ℕ → Holding
at_ordered setting O V t i = record (at_seen setting O V t i) {
  ordered = O i (suc t);
  legs = map (leg_ordered setting O V i t) (spec_at setting i).sources;
}

-- a leg once the units of period suc t came in
abbrev pub leg_in : Setting → (ℕ → ℕ → ℕ) → (ℕ → ℕ → List ℕ) → ℕ → ℕ → Link → Leg
leg_in setting O V i t l = leg_of (O i) (shipped setting O V i l) l (suc t) (suc t) (received setting O V i l (suc t)) (made setting O V i t)

abbrev pub at_received : Setting → (ℕ → ℕ → ℕ) → (ℕ → ℕ → List ℕ) → ℕ → ℕ → Holding
at_received setting O V t i = record (at_ordered setting O V t i) { legs = map (leg_in setting O V i t) (spec_at setting i).sources }

-- node i once it has made what it can
abbrev pub at_made : Setting → (ℕ → ℕ → ℕ) → (ℕ → ℕ → List ℕ) → ℕ → ℕ → Holding
at_made setting O V t i = record (at_received setting O V t i) {
  made = made setting O V i (suc t) - made setting O V i t;
  stock = (spec_at setting i).initial + made setting O V i (suc t) - total (V i t);
  legs = map (leg_at setting O V i (suc t)) (spec_at setting i).sources;
}
