-- An instance that is valid by a fact whose proof is hidden is valid.
use Rattle.std.proofs.Props.{props}
use mathlib.Core.Logic.{∥∥₁_elim}
use Rattle.decision_model.specs.declared.average.Average.{Average}
use Rattle.decision_model.specs.Average.{IsValidAverage}

-- what has one proof alone follows from a fact whose proof is hidden
from_hidden : {P Q : Type 0} → IsProp Q → ∥ P ∥₁ → (P → Q) → Q
from_hidden is hidden then = ∥∥₁_elim hidden is then

-- a valid instance
pub valid_known : (average : Average) → ∥ IsValidAverage average ∥₁ → IsValidAverage average
valid_known average hidden = record {
  regular = record {
    readable = record {
      lead = from_hidden (Prim.hlevel props) hidden (λ valid. valid.regular.readable.lead);
      setup = from_hidden (Prim.hlevel props) hidden (λ valid. valid.regular.readable.setup);
      holding = from_hidden (Prim.hlevel props) hidden (λ valid. valid.regular.readable.holding);
      stockout = from_hidden (Prim.hlevel props) hidden (λ valid. valid.regular.readable.stockout);
      law = from_hidden (Prim.hlevel props) hidden (λ valid. valid.regular.readable.law);
      floor = from_hidden (Prim.hlevel props) hidden (λ valid. valid.regular.readable.floor);
      cap = from_hidden (Prim.hlevel props) hidden (λ valid. valid.regular.readable.cap);
      floor_below = from_hidden (Prim.hlevel props) hidden (λ valid. valid.regular.readable.floor_below);
    };
    has_demand = from_hidden (Prim.hlevel props) hidden (λ valid. valid.regular.has_demand);
    unit_demand = from_hidden (Prim.hlevel props) hidden (λ valid. valid.regular.unit_demand);
    grid = from_hidden (Prim.hlevel props) hidden (λ valid. valid.regular.grid);
  };
  width = from_hidden (Prim.hlevel props) hidden (λ valid. valid.width);
}
