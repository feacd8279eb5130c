-- The cost of stock goes from one place of a row to the next.
use Rattle.std.proofs.Common.{◌≡◌, ℕ, ◌+◌, ◌<◌, ℤ, pos, ◌-ℤ◌, List, take, false, sym, ap, ◌∙◌, subst, arith}
use Rattle.std.proofs.lemmas.Int.{ints}
use Rattle.decision_model.specs.Stock.{AreWeights, HasRoom}
use Rattle.decision_model.specs.Walks.{IsWalk, IsWalkOf, place_of, over_of, under_of}
use Rattle.least_values.specs.declared.walk.Walk.{Walk}
use Rattle.value_cert.specs.FiniteValues.{lead_law}
use Rattle.finite_recursion.specs.Recursions.{is_whole}
use Rattle.finite_recursion.specs.Rows.{row_period}
use Rattle.finite_recursion.specs.declared.recursion.Recursion.{Recursion}
use Rattle.finite_recursion.proofs.Bounds.{lead_weights, has_room, place_above}
use Rattle.finite_recursion.proofs.RowFacts.{row_facts}

-- the weights of the lead time's law, as the sums hold them
abbrev pub held : Recursion → List ℕ
held r = take r.laws.lead r.sums.now

pub held_weights : (r : Recursion) → is_whole r ≡ false → AreWeights (held r)
held_weights r left =
    let f = row_facts r left in
    subst AreWeights (sym f.row.are_laws.lead) (lead_weights r.finite.now f.valid (row_period r.finite.now r.rows) (omega (arith, r.within)) (omega (arith, f.some)))

-- the walk stands on these weights
pub held_walk : (r : Recursion) → is_whole r ≡ false → (walk : Walk) → walk ≡ r.row.walk → IsWalkOf walk r.finite.now.holding r.finite.now.stockout (held r)
held_walk r left walk same =
    let f = row_facts r left in
    subst (λ w. IsWalkOf w r.finite.now.holding r.finite.now.stockout (held r)) (sym same)
    (subst (IsWalkOf r.row.walk r.finite.now.holding r.finite.now.stockout) (sym f.row.are_laws.lead) f.row.is_walk)

pub law_walk : (r : Recursion) → is_whole r ≡ false → (walk : Walk) → IsWalkOf walk r.finite.now.holding r.finite.now.stockout (held r)
    → IsWalkOf walk r.finite.now.holding r.finite.now.stockout (lead_law r.finite.now (row_period r.finite.now r.rows))
law_walk r left walk is = subst (IsWalkOf walk r.finite.now.holding r.finite.now.stockout) (row_facts r left).row.are_laws.lead is

pub own_walk : (r : Recursion) → is_whole r ≡ false → (walk : Walk) → walk ≡ r.row.walk → IsWalk walk (held r)
own_walk r left walk same =
    let is = held_walk r left walk same in
    subst (λ over. IsWalkOf walk over (under_of walk) (held r)) (sym is.is_over)
    (subst (λ under. IsWalkOf walk r.finite.now.holding under (held r)) (sym is.is_under) is)

-- the numbers of a position of the row fit, by the walk's rates
room_at : (r : Recursion) (left : is_whole r ≡ false) (walk : Walk) → walk ≡ r.row.walk → (y : ℤ)
    → HasRoom r.finite.now.holding r.finite.now.stockout (lead_law r.finite.now (row_period r.finite.now r.rows)) y → HasRoom (over_of walk) (under_of walk) (held r) y
room_at r left walk same y room =
    let is = held_walk r left walk same in
    subst (λ over. HasRoom over (under_of walk) (held r) y) (sym is.is_over)
    (subst (λ under. HasRoom r.finite.now.holding under (held r) y) (sym is.is_under)
    (subst (λ ws. HasRoom r.finite.now.holding r.finite.now.stockout ws y) (sym (row_facts r left).row.are_laws.lead) room))

pub room_here : (r : Recursion) → is_whole r ≡ false → (walk : Walk) → walk ≡ r.row.walk → HasRoom (over_of walk) (under_of walk) (held r) (place_of walk)
room_here r left walk same =
    let f = row_facts r left in
    let t = row_period r.finite.now r.rows in
    let room = has_room r.finite.now f.valid t (r.finite.now.cap -ℤ pos r.row.place) (omega (arith, r.within)) (omega (arith, f.some)) (place_above r.finite.now f.valid t r.row.place f.inside) (omega (arith, ints)) in
    let at : place_of walk ≡ r.finite.now.cap -ℤ pos r.row.place = ap place_of same ∙ f.stands in
    room_at r left walk same (place_of walk) (subst (HasRoom r.finite.now.holding r.finite.now.stockout (lead_law r.finite.now t)) (sym at) room)

pub room_below : (r : Recursion) → is_whole r ≡ false → (walk : Walk) → walk ≡ r.row.walk → r.row.place + 1 < r.row.width → HasRoom (over_of walk) (under_of walk) (held r) (place_of walk -ℤ pos 1)
room_below r left walk same lt =
    let f = row_facts r left in
    let t = row_period r.finite.now r.rows in
    let room = has_room r.finite.now f.valid t (r.finite.now.cap -ℤ pos (r.row.place + 1)) (omega (arith, r.within)) (omega (arith, f.some)) (place_above r.finite.now f.valid t (r.row.place + 1) (omega (arith, lt, f.row.is_width))) (omega (arith, ints)) in
    let here : place_of walk ≡ r.finite.now.cap -ℤ pos r.row.place = ap place_of same ∙ f.stands in
    let at : place_of walk -ℤ pos 1 ≡ r.finite.now.cap -ℤ pos (r.row.place + 1) = omega (arith, ints, here) in
    room_at r left walk same (place_of walk -ℤ pos 1) (subst (HasRoom r.finite.now.holding r.finite.now.stockout (lead_law r.finite.now t)) (sym at) room)
