use Rattle.std.proofs.Common.{rules, refl, set, length-set, [], ◌∷◌, ◌++◌, Option, ◌≡◌, ℕ, ◌+◌, ◌-◌, ◌^◌, ◌<◌, ℤ, pos, ◌+ℤ◌, ◌-ℤ◌, ◌*ℤ◌, ◌≤ℤ◌, List, length, sym, subst, ◌∙◌, ap, false, arith, FitsSigned, to_z, of_z, w64}
use mir.Syntax.{w128}
use Rattle.std.proofs.lemmas.Int.{to_z-of_z}
use Rattle.decision_model.specs.Walks.{IsWalkOf, place_of}
use Rattle.value_cert.specs.FiniteValues.{lead_law}
use Rattle.finite_recursion.specs.Rows.{row_period, reach_room, IsReachOf, IsRow}
use Rattle.finite_recursion.specs.Recursions.{is_whole, next_position}
use Rattle.finite_recursion.specs.declared.recursion.Recursion.{Recursion}
use Rattle.finite_recursion.proofs.Bounds.{positions_few}
use Rattle.finite_recursion.proofs.FoundFacts.{units, from_last, below_cap, stored_at, stay_most}
use Rattle.finite_recursion.proofs.RowFacts.{row_facts}
use Rattle.finite_recursion.proofs.RowSteps.{keep_small, keep_knows, keep_row}
use Rattle.finite_recursion.proofs.WalkSteps.{held_weights, held_walk, law_walk, own_walk, room_here, room_below}
use Rattle.finite_recursion.proofs.recursion.Recursion.keep.Goals as goal

-- the position of the next place
next : (r : Recursion) → is_whole r ≡ false → (at : ℤ) → at ≡ next_position r → to_z w64 (of_z w64 at) ≡ r.finite.now.cap -ℤ pos r.row.place
next r left at is =
    ap (λ z. to_z w64 (of_z w64 z)) is ∙ stored_at r left (r.finite.now.cap -ℤ pos r.row.place) (from_last r left) (below_cap r left)

pub keep_place-requires-clause-values : goal.keep_place-requires-clause-values
keep_place-requires-clause-values c = let f = row_facts c.args.self.now c.requires.left in omega (arith, f.within, c.args.self.now.tables.are_values)

pub keep_place-requires-clause-costs : goal.keep_place-requires-clause-costs
keep_place-requires-clause-costs c = let f = row_facts c.args.self.now c.requires.left in omega (arith, f.within, c.args.self.now.tables.are_costs)

pub keep_place-requires-clause-few : goal.keep_place-requires-clause-few
keep_place-requires-clause-few c = let f = row_facts c.args.self.now c.requires.left in omega (arith, positions_few c.args.self.now.finite.now f.valid, c.args.self.now.tables.are_values)

pub keep_place-requires-clause-few_costs : goal.keep_place-requires-clause-few_costs
keep_place-requires-clause-few_costs c = let f = row_facts c.args.self.now c.requires.left in omega (arith, positions_few c.args.self.now.finite.now f.valid, c.args.self.now.tables.are_costs)

pub keep_place-requires-clause-stay_most : goal.keep_place-requires-clause-stay_most
keep_place-requires-clause-stay_most c =
    let fits : FitsSigned w128 c.args.found.now.stay = search rules in
    rw (to_z-of_z w128 c.args.found.now.stay fits) (stay_most c.args.self.now c.requires.left c.args.found.now.stay c.requires.stay)

pub keep_place-requires-clause-least : goal.keep_place-requires-clause-least
keep_place-requires-clause-least c =
    let r = c.args.self.now in
    subst (λ (z : ℤ). (pos 0 -ℤ pos (2 ^ 120)) ≤ℤ (r.row.scales.unit *ℤ z)) (sym (next r c.requires.left c.position.result c.position.ensures.next)) (units r c.requires.left (r.finite.now.cap -ℤ pos r.row.place) (from_last r c.requires.left) (below_cap r c.requires.left)).0

pub keep_place-requires-clause-most : goal.keep_place-requires-clause-most
keep_place-requires-clause-most c =
    let r = c.args.self.now in
    subst (λ (z : ℤ). (r.row.scales.unit *ℤ z) ≤ℤ pos (2 ^ 120)) (sym (next r c.requires.left c.position.result c.position.ensures.next)) (units r c.requires.left (r.finite.now.cap -ℤ pos r.row.place) (from_last r c.requires.left) (below_cap r c.requires.left)).1

-- what is kept, as it was given
stay_is : (c : goal.After-step_walk) → to_z w128 (of_z w128 c.args.found.now.stay) ≡ c.args.found.now.stay
stay_is c = let fits : FitsSigned w128 c.args.found.now.stay = search rules in to_z-of_z w128 c.args.found.now.stay fits

values_are : (c : goal.After-step_walk) → c.keep_place.new.values ≡ set c.args.self.now.values.now c.args.self.now.row.place c.args.value
values_are c = c.keep_place.ensures.values ∙ ap (set c.args.self.now.values.now c.args.self.now.row.place) (to_z-of_z w128 c.args.value c.ranges.value)

costs_are : (c : goal.After-step_walk) → c.keep_place.new.costs ≡ set c.args.self.now.costs.now c.args.self.now.row.place c.args.found.now.stay
costs_are c = c.keep_place.ensures.costs ∙ ap (set c.args.self.now.costs.now c.args.self.now.row.place) (stay_is c)

-- the positions above the next place, with this one
seen : (c : goal.After-step_walk) → (most : Option ℕ) (positions : ℕ) (pairs : List (ℤ × ℤ)) → IsReachOf most positions c.args.self.now.row.reach c.args.self.now.room.now pairs
    → IsReachOf most positions c.keep_place.new.row.reach c.keep_place.new.room (pairs ++ (c.args.self.now.finite.now.cap -ℤ pos c.args.self.now.row.place, c.args.found.now.stay +ℤ c.args.self.now.row.scales.unit *ℤ (c.args.self.now.finite.now.cap -ℤ pos c.args.self.now.row.place)) ∷ [])
seen c most positions pairs is =
    let r = c.args.self.now in
    subst (λ (y : ℤ). IsReachOf most positions c.keep_place.new.row.reach c.keep_place.new.room (pairs ++ (y, c.args.found.now.stay +ℤ r.row.scales.unit *ℤ y) ∷ [])) (next r c.requires.left c.position.result c.position.ensures.next)
    (subst (λ (z : ℤ). IsReachOf most positions c.keep_place.new.row.reach c.keep_place.new.room (pairs ++ (to_z w64 (of_z w64 c.position.result), z +ℤ r.row.scales.unit *ℤ to_z w64 (of_z w64 c.position.result)) ∷ [])) (stay_is c)
    (c.keep_place.ensures.reach most positions pairs is))

in_values : (c : goal.After-step_walk) → c.args.self.now.row.place < length c.args.self.now.values.now
in_values c = let f = row_facts c.args.self.now c.requires.left in omega (arith, f.within, c.args.self.now.tables.are_values)

in_costs : (c : goal.After-step_walk) → c.args.self.now.row.place < length c.args.self.now.costs.now
in_costs c = let f = row_facts c.args.self.now c.requires.left in omega (arith, f.within, c.args.self.now.tables.are_costs)

-- the row behind the step
place_is : (c : goal.After-step_walk) → c.step_walk.new.row.place ≡ c.args.self.now.row.place + 1
place_is c = c.step_walk.ensures.place ∙ c.keep_place.ensures.place

seen_behind : (c : goal.After-step_walk) → (most : Option ℕ) (positions : ℕ) (pairs : List (ℤ × ℤ)) → IsReachOf most positions c.args.self.now.row.reach c.args.self.now.room.now pairs
    → IsReachOf most positions c.step_walk.new.row.reach c.keep_place.new.room (pairs ++ (c.args.self.now.finite.now.cap -ℤ pos c.args.self.now.row.place, c.args.found.now.stay +ℤ c.args.self.now.row.scales.unit *ℤ (c.args.self.now.finite.now.cap -ℤ pos c.args.self.now.row.place)) ∷ [])
seen_behind c most positions pairs is =
    let r = c.args.self.now in
    subst (λ reach. IsReachOf most positions reach c.keep_place.new.room (pairs ++ (r.finite.now.cap -ℤ pos r.row.place, c.args.found.now.stay +ℤ r.row.scales.unit *ℤ (r.finite.now.cap -ℤ pos r.row.place)) ∷ [])) (sym c.step_walk.ensures.reach) (seen c most positions pairs is)

walk_behind : (c : goal.After-step_walk) → IsWalkOf c.step_walk.new.row.walk c.args.self.now.finite.now.holding c.args.self.now.finite.now.stockout (lead_law c.args.self.now.finite.now (row_period c.args.self.now.finite.now c.args.self.now.rows))
walk_behind c =
    let r = c.args.self.now in
    law_walk r c.requires.left c.step_walk.new.row.walk (c.step_walk.ensures.walk r.finite.now.holding r.finite.now.stockout (held_walk r c.requires.left c.keep_place.new.row.walk c.keep_place.ensures.walk))

stands_behind : (c : goal.After-step_walk) → c.args.self.now.row.place + 1 < c.args.self.now.row.width → place_of c.step_walk.new.row.walk ≡ c.args.self.now.finite.now.cap -ℤ pos c.args.self.now.row.place -ℤ pos 1
stands_behind c lt =
    let f = row_facts c.args.self.now c.requires.left in
    let e = c.keep_place.ensures in
    c.step_walk.ensures.stands (omega (arith, lt, e.place, e.width)) ∙ ap (λ walk. place_of walk -ℤ pos 1) e.walk ∙ ap (λ (y : ℤ). y -ℤ pos 1) f.stands

pub invariant_of-self : goal.invariant_of-self
invariant_of-self c =
    let r = c.args.self.now in
    let f = row_facts r c.requires.left in
    let e = c.keep_place.ensures in
    let w = c.step_walk.ensures in
    record {
      valid = r.valid;
      tables = record {
        are_values = ap length (values_are c) ∙ length-set r.values.now r.row.place c.args.value ∙ r.tables.are_values;
        are_costs = ap length (costs_are c) ∙ length-set r.costs.now r.row.place c.args.found.now.stay ∙ r.tables.are_costs;
        is_room = e.room ∙ r.tables.is_room;
        are_sums = ap length w.same ∙ r.tables.are_sums;
      };
      within = r.within;
      fresh = λ none. absurd (omega (arith, none, f.some));
      small = keep_small r.finite.now r.rows r.row.place c.step_walk.new.row.place r.values.now r.costs.now c.keep_place.new.values c.keep_place.new.costs c.args.value c.args.found.now.stay (in_values c) (in_costs c) (values_are c) (costs_are c) (place_is c) r.small c.requires.value c.requires.stay;
      begun = λ some. subst (IsRow r.finite.now (r.rows - 1) (row_period r.finite.now r.rows) r.laws c.step_walk.new.row c.keep_place.new.costs c.keep_place.new.room) (sym w.same)
          (keep_row r.finite.now r.rows r.row.place c.step_walk.new.row.place r.values.now r.costs.now c.keep_place.new.values c.keep_place.new.costs c.args.value c.args.found.now.stay (in_values c) (in_costs c) (values_are c) (costs_are c) (place_is c)
          (r.rows - 1) (row_period r.finite.now r.rows) r.laws r.row c.step_walk.new.row r.room.now c.keep_place.new.room r.sums.now f.row refl (omega (arith, f.inside, f.row.is_width)) (w.width ∙ e.width) refl (w.scales ∙ e.scales) e.room (ap reach_room w.reach ∙ e.cells)
          (walk_behind c) (stands_behind c) (seen_behind c));
    }

pub returns-clause-knows : goal.returns-clause-knows
returns-clause-knows c = λ first at to knows exact.
    let r = c.args.self.now in
    let b = c.before in
    keep_knows r.finite.now r.rows r.row.place c.step_walk.new.row.place r.values.now r.costs.now c.keep_place.new.values c.keep_place.new.costs c.args.value c.args.found.now.stay (in_values b) (in_costs b) (values_are b) (costs_are b) (place_is b) first knows exact

pub step_walk-requires-clause-weights : goal.step_walk-requires-clause-weights
step_walk-requires-clause-weights c = held_weights c.args.self.now c.requires.left

pub step_walk-requires-clause-stands : goal.step_walk-requires-clause-stands
step_walk-requires-clause-stands c = own_walk c.args.self.now c.requires.left c.keep_place.new.row.walk c.keep_place.ensures.walk

pub step_walk-requires-clause-room : goal.step_walk-requires-clause-room
step_walk-requires-clause-room c = room_here c.args.self.now c.requires.left c.keep_place.new.row.walk c.keep_place.ensures.walk

pub step_walk-requires-clause-next : goal.step_walk-requires-clause-next
step_walk-requires-clause-next c = λ lt. room_below c.args.self.now c.requires.left c.keep_place.new.row.walk c.keep_place.ensures.walk (omega (arith, lt, c.keep_place.ensures.place, c.keep_place.ensures.width))
