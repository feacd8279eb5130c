-- Orders by the rules of an instance, and by those of the caller's own.
use Rattle.std.proofs.Common.{◌≡◌, ℕ, suc, ◌+◌, ◌<◌, ◌≤◌, ℤ, min, cond, List, Some, None, Bool, true, false, nat_lt, refl, ap, ◌∙◌, sym, arith}
use Rattle.std.proofs.lemmas.Bool.{ltb-true, lt-ltb}
use Rattle.network_model.specs.declared.network.Rule.{Rule}
use Rattle.network_model.specs.declared.network.Rule.TheVariants.{Base, MinMax, Lot, Echelon, House}
use Rattle.network_model.specs.Nodes.{peak_of, is_echelon}
use Rattle.network_model.specs.Load.{order_most}
use Rattle.node_state.specs.Orders.{order_of, house_of}
use Rattle.node_state.specs.Totals.{order_by}
use Rattle.network_sim.specs.Houses.{over_of}
use Rattle.node_state.specs.Handed.{Handed}
use Rattle.node_state.specs.Holdings.{Holding}
use Rattle.network_sim.specs.declared.station.Station.{Station}
use Rattle.network_sim.specs.Machine.{position_of, ask_of, replies_of, order_with}

-- ---- rules of an instance
pub plain_order : (rule : Rule) (p : ℤ) (given : ℕ → ℕ) → house_of rule ≡ None → order_by rule p given ≡ order_of rule p
plain_order (Base level) p given e = refl
plain_order (MinMax low high) p given e = refl
plain_order (Lot reorder lot) p given e = refl
plain_order (Echelon level) p given e = refl
plain_order (House index cap) p given e = cc

pub plain_limit : (rule : Rule) (periods lost below : ℕ) → house_of rule ≡ None → order_most rule periods lost below ≡ peak_of rule + cond (is_echelon rule) below lost
plain_limit (Base level) periods lost below e = omega arith
plain_limit (MinMax low high) periods lost below e = omega arith
plain_limit (Lot reorder lot) periods lost below e = omega arith
plain_limit (Echelon level) periods lost below e = omega arith
plain_limit (House index cap) periods lost below e = cc

pub echelon_plain : (rule : Rule) → is_echelon rule ≡ true → house_of rule ≡ None
echelon_plain (Echelon level) e = refl
echelon_plain (Base level) e = refl
echelon_plain (MinMax low high) e = refl
echelon_plain (Lot reorder lot) e = refl
echelon_plain (House index cap) e = cc

pub plain_over : (i : ℕ) (rule : Rule) (given most : ℕ → ℕ) → house_of rule ≡ None → over_of i rule given most ≡ None
plain_over i (Base level) given most e = refl
plain_over i (MinMax low high) given most e = refl
plain_over i (Lot reorder lot) given most e = refl
plain_over i (Echelon level) given most e = refl
plain_over i (House index cap) given most e = cc

-- ---- rules of the caller's own
pub house_rule : (rule : Rule) (index : ℕ) → house_of rule ≡ Some index → (cap : ℕ) × (rule ≡ House index cap)
house_rule (Base level) index e = cc
house_rule (MinMax low high) index e = cc
house_rule (Lot reorder lot) index e = cc
house_rule (Echelon level) index e = cc
house_rule (House other cap) index e = (cap, some_index e)
  where
    some_index : Some other ≡ Some index → House other cap ≡ House index cap
    some_index e = cc

-- answers that agree at the rule's index give the same order, and are above the cap alike
pub order_same : (rule : Rule) (p : ℤ) (f g : ℕ → ℕ) → ((index cap : ℕ) → rule ≡ House index cap → f index ≡ g index) → order_by rule p f ≡ order_by rule p g
order_same (Base level) p f g h = refl
order_same (MinMax low high) p f g h = refl
order_same (Lot reorder lot) p f g h = refl
order_same (Echelon level) p f g h = refl
order_same (House index cap) p f g h = ap (λ n. min n cap) (h index cap refl)

pub over_same : (i : ℕ) (rule : Rule) (f g most caps : ℕ → ℕ) → ((index cap : ℕ) → rule ≡ House index cap → f index ≡ g index) → ((index : ℕ) → most index ≡ caps index) → over_of i rule f most ≡ over_of i rule g caps
over_same i (Base level) f g most caps h q = refl
over_same i (MinMax low high) f g most caps h q = refl
over_same i (Lot reorder lot) f g most caps h q = refl
over_same i (Echelon level) f g most caps h q = refl
over_same i (House index cap) f g most caps h q = λ j. over_of i (House index cap) (λ k. h index cap refl j) (λ k. q index j)

pub house_within : (i : ℕ) (rule : Rule) (index cap : ℕ) (given most : ℕ → ℕ) → rule ≡ House index cap → given index ≤ most index → over_of i rule given most ≡ None
house_within i rule index cap given most e le = ap (λ r. over_of i r given most) e ∙ by (nat_lt (most index) (given index)) refl
  where
    by : (b : Bool) → nat_lt (most index) (given index) ≡ b → over_of i (House index cap) given most ≡ None
    by true is = let a = ltb-true (most index) (given index) is in absurd (omega arith)
    by false is = ap (λ b. cond b (Some (record { node = suc i; answer = given index; cap = most index })) None) is

pub house_above : (i : ℕ) (rule : Rule) (index cap : ℕ) (given most : ℕ → ℕ) → rule ≡ House index cap → most index < given index → over_of i rule given most ≡ Some (record { node = suc i; answer = given index; cap = most index })
house_above i rule index cap given most e lt =
    ap (λ r. over_of i r given most) e ∙ ap (λ b. cond b (Some (record { node = suc i; answer = given index; cap = most index })) None) (lt-ltb (most index) (given index) lt)

pub house_order : (rule : Rule) (index cap : ℕ) (p : ℤ) (given : ℕ → ℕ) → rule ≡ House index cap → given index ≤ cap → order_by rule p given ≡ given index
house_order rule index cap p given e le = ap (λ r. order_by r p given) e ∙ (let a : min (given index) cap ≡ given index = omega arith in a)

-- what a node orders by an answer within its cap
pub house_ordered : (s : Station) (demanded : List ℕ) (handed : List Handed) (h : Holding) (index cap answer : ℕ) → s.rule ≡ House index cap → answer ≡ replies_of handed (ask_of s demanded h) index → answer ≤ cap → answer ≡ order_with s demanded handed h
house_ordered s demanded handed h index cap answer e is le =
    is ∙ sym (house_order s.rule index cap (position_of s demanded h) (replies_of handed (ask_of s demanded h)) e (let a = is in omega arith))
