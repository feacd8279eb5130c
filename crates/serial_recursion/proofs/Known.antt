-- An instance that is valid by a fact whose proof is hidden is valid.
use Rattle.std.proofs.Common.{◌≡◌, ◌≢◌, true, false, eqb, ℕ, List, length, ◌⊎◌, inl, inr}
use Rattle.std.proofs.Props.{props}
use mathlib.Core.Logic.{∥∥₁_elim}
use Rattle.std.proofs.lemmas.Bool.Decides.{eqb_tells}
use Rattle.decision_model.specs.declared.serial.Serial.{Serial}
use Rattle.decision_model.specs.DemandLaws.{AreDemandLaws}
use Rattle.decision_model.specs.Serial.{IsValidSerial}

-- what has one proof alone follows from a fact whose proof is hidden
pub from_hidden : {P Q : Type 0} → IsProp Q → ∥ P ∥₁ → (P → Q) → Q
from_hidden is hidden then = ∥∥₁_elim hidden is then

-- one of two equations, where the first can be tested
one_of : (laws : List (List ℕ)) (places : ℕ) → ∥ AreDemandLaws laws places ∥₁ → ((eqb (length laws) 1 ≡ true) × (length laws ≡ 1)) ⊎ ((eqb (length laws) 1 ≡ false) × (length laws ≢ 1)) → (length laws ≡ 1) ⊎ (length laws ≡ places)
one_of laws places hidden (inl one) = inl one.1
one_of laws places hidden (inr more) = inr (from_hidden (Prim.hlevel props) hidden (λ are. other are.listed))
  where
    other : (length laws ≡ 1) ⊎ (length laws ≡ places) → length laws ≡ places
    other (inl one) = absurd (more.1 one)
    other (inr each) = each

-- laws of demand
laws_known : (laws : List (List ℕ)) (places : ℕ) → ∥ AreDemandLaws laws places ∥₁ → AreDemandLaws laws places
laws_known laws places hidden = record {
  listed = one_of laws places hidden (eqb_tells (length laws) 1);
  each = from_hidden (Prim.hlevel props) hidden (λ are. are.each);
  common = from_hidden (Prim.hlevel props) hidden (λ are. are.common);
}

-- a valid instance
pub valid_known : (serial : Serial) → ∥ IsValidSerial serial ∥₁ → IsValidSerial serial
valid_known serial hidden = record {
  regular = record {
    readable = record {
      periods = from_hidden (Prim.hlevel props) hidden (λ valid. valid.regular.readable.periods);
      some_echelon = from_hidden (Prim.hlevel props) hidden (λ valid. valid.regular.readable.some_echelon);
      most_echelons = from_hidden (Prim.hlevel props) hidden (λ valid. valid.regular.readable.most_echelons);
      unit_each = from_hidden (Prim.hlevel props) hidden (λ valid. valid.regular.readable.unit_each);
      start_each = from_hidden (Prim.hlevel props) hidden (λ valid. valid.regular.readable.start_each);
      holding = from_hidden (Prim.hlevel props) hidden (λ valid. valid.regular.readable.holding);
      unit = from_hidden (Prim.hlevel props) hidden (λ valid. valid.regular.readable.unit);
      stockout = from_hidden (Prim.hlevel props) hidden (λ valid. valid.regular.readable.stockout);
      discount = from_hidden (Prim.hlevel props) hidden (λ valid. valid.regular.readable.discount);
      laws = laws_known serial.laws serial.periods (∥∥₁_elim hidden (Prim.hlevel props) (λ valid. ∣ valid.regular.readable.laws ∣₁));
      cap = from_hidden (Prim.hlevel props) hidden (λ valid. valid.regular.readable.cap);
      start = from_hidden (Prim.hlevel props) hidden (λ valid. valid.regular.readable.start);
      never_falling = from_hidden (Prim.hlevel props) hidden (λ valid. valid.regular.readable.never_falling);
      last_below = from_hidden (Prim.hlevel props) hidden (λ valid. valid.regular.readable.last_below);
    };
    grid = from_hidden (Prim.hlevel props) hidden (λ valid. valid.regular.grid);
  };
  width = from_hidden (Prim.hlevel props) hidden (λ valid. valid.width);
}
