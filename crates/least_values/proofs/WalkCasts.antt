-- Numbers that are small enough stay what they are when they are stored.
use Rattle.std.proofs.Common.{rules, ◌≡◌, ℕ, ◌+◌, ◌-◌, ◌*◌, ◌^◌, ◌≤◌, ℤ, pos, ◌+ℤ◌, ◌-ℤ◌, ◌≤ℤ◌, List, sum, arith, sym, subst, ap, ◌∙◌, w64, FitsSigned, to_z, of_z}
use mir.Syntax.{w128}
use Rattle.std.specs.Prelude.{unsigned_abs}
use Rattle.std.proofs.lemmas.Int.{ints, to_z-of_z}
use Rattle.least_values.specs.Stock.{HasRoom, stock_cost, upto, weight_at}
use Rattle.least_values.proofs.WalkBounds.{upto_le, cost_least, cost_most}
use Rattle.least_values.proofs.WalkSteps.{change, change_is, step_up, upto_up}

pub wide : (x : ℤ) → (pos 0 -ℤ pos (2 ^ 126)) ≤ℤ x → x ≤ℤ pos (2 ^ 126) → to_z w128 (of_z w128 x) ≡ x
wide x low high = let fits : FitsSigned w128 x = search rules in to_z-of_z w128 x fits

pub near : (x : ℤ) → unsigned_abs x ≤ 1000000001 → to_z w64 (of_z w64 x) ≡ x
near x small = let fits : FitsSigned w64 x = search rules in to_z-of_z w64 x fits

-- a cost that is stored
pub stored_cost : (over under : ℕ) (ws : List ℕ) (y x : ℤ) → HasRoom over under ws y → x ≡ stock_cost over under ws y → to_z w128 (of_z w128 x) ≡ stock_cost over under ws y
stored_cost over under ws y x room is =
    let least = cost_least over under ws y in
    let most = cost_most over under ws y room in
    wide x (omega (arith, ints, is, least, most)) (omega (arith, ints, is, least, most)) ∙ is

-- the change of a step up that is told
pub told_change : (over under : ℕ) (ws : List ℕ) (y : ℤ) (total below : ℕ) (x : ℤ) → HasRoom over under ws y → HasRoom over under ws (y +ℤ pos 1) → total ≡ sum ws → below ≡ upto ws y
    → x ≡ pos (over * below) -ℤ pos (under * (total - below)) → to_z w128 (of_z w128 x) ≡ change over under (sum ws) (upto ws y)
told_change over under ws y total below x room next all some told =
    let is : x ≡ change over under (sum ws) (upto ws y) = told ∙ change_is over under total below (omega (arith, all, some, upto_le ws y)) ∙ ap (λ t. change over under t below) all ∙ ap (change over under (sum ws)) some in
    let up = step_up over under ws y in
    let least = cost_least over under ws y in
    let most = cost_most over under ws y room in
    let next_least = cost_least over under ws (y +ℤ pos 1) in
    let next_most = cost_most over under ws (y +ℤ pos 1) next in
    wide x (omega (arith, ints, is, up, least, most, next_least, next_most)) (omega (arith, ints, is, up, least, most, next_least, next_most)) ∙ is

-- a position that is stored
pub stored_place : (y : ℤ) → unsigned_abs y ≤ 1000000000 → to_z w64 (of_z w64 y) ≡ y
stored_place y small = near y (omega (arith, small))

-- what a step down knows of the position below
pub record DownFacts (over under : ℕ) (ws : List ℕ) (y : ℤ) (at_upto weight : ℕ) : Type 0 where
  pub below : at_upto - weight ≡ upto ws (y -ℤ pos 1)
  pub room : HasRoom over under ws (y -ℤ pos 1 +ℤ pos 1)
  pub cost : stock_cost over under ws (y -ℤ pos 1 +ℤ pos 1) ≡ stock_cost over under ws y

pub down_facts : (over under : ℕ) (ws : List ℕ) (y : ℤ) (at_upto weight : ℕ) → HasRoom over under ws y → at_upto ≡ upto ws y → weight ≡ weight_at ws (to_z w64 (of_z w64 y)) → DownFacts over under ws y at_upto weight
down_facts over under ws y at_upto weight room is told =
    let back : y -ℤ pos 1 +ℤ pos 1 ≡ y = omega (arith, ints) in
    let here : weight ≡ weight_at ws y = told ∙ ap (weight_at ws) (stored_place y room.near) in
    let up : upto ws y ≡ upto ws (y -ℤ pos 1) + weight_at ws y = ap (upto ws) (sym back) ∙ upto_up ws (y -ℤ pos 1) ∙ ap (λ z. upto ws (y -ℤ pos 1) + weight_at ws z) back in
    record {
      below = omega (arith, is, here, up);
      room = subst (HasRoom over under ws) (sym back) room;
      cost = ap (stock_cost over under ws) back;
    }
