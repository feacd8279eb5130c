-- Pauses that are apart hold no period both.
use Rattle.std.proofs.Common.{◌≡◌, ℕ, ◌≤◌, Bool, true, false, ◌&&◌, ◌==◌, nat_le, max, refl, arith}
use Rattle.std.proofs.lemmas.Bool.{leb-true, le-leb}
use Rattle.std.proofs.Math.Nat.{le-max_left, le-max_right, max-le}
use Rattle.network_model.specs.declared.network.Span.{Span}
use Rattle.network_model.specs.declared.network.Pause.{Pause}
use Rattle.network_model.specs.Pauses.{same_pause, holds, share_a_period}

both : (a b : Bool) → (a && b) ≡ true → (a ≡ true) × (b ≡ true)
both true true e = (refl, refl)
both true false e = cc
both false b e = cc

-- a span that holds a period holds each one between its first and that one
held_before : (what : Pause) (node t first : ℕ) (a : Span) → holds what node t a ≡ true → a.from ≤ first → first ≤ t → holds what node first a ≡ true
held_before what node t first a held from below =
    let one = both (same_pause a.what what && (a.node == node) && nat_le a.from t) (nat_le t a.to) held in
    let two = both (same_pause a.what what && (a.node == node)) (nat_le a.from t) one.0 in
    let to : t ≤ a.to = leb-true t a.to one.1 in
    rw (two.0, le-leb a.from first from, le-leb first a.to (omega (arith, below, to))) refl

-- where two pauses hold a period, they hold the later of their first ones
pub shared_where_held : (a b : Span) (t : ℕ) → holds b.what b.node t a ≡ true → holds b.what b.node t b ≡ true → share_a_period a b ≡ true
shared_where_held a b t one other =
    let first = max a.from b.from in
    let below : first ≤ t = max-le (begun a one) (begun b other) in
    rw (held_before b.what b.node t first a one (le-max_left a.from b.from) below, held_before b.what b.node t first b other (le-max_right a.from b.from) below) refl
  where
    begun : (c : Span) → holds b.what b.node t c ≡ true → c.from ≤ t
    begun c held =
        let whole = both (same_pause c.what b.what && (c.node == b.node) && nat_le c.from t) (nat_le t c.to) held in
        leb-true c.from t (both (same_pause c.what b.what && (c.node == b.node)) (nat_le c.from t) whole.0).1
