-- An instance that is wide by a fact whose proof is hidden is so.
use Rattle.std.proofs.Props.{props}
use mathlib.Core.Logic.{∥∥₁_elim}
use Rattle.decision_model.specs.declared.average.Average.{Average}
use Rattle.decision_model.specs.WideAverage.{IsWideAverage}

-- what has one proof alone follows from a fact whose proof is hidden
from_hidden : {P Q : Type 0} → IsProp Q → ∥ P ∥₁ → (P → Q) → Q
from_hidden is hidden then = ∥∥₁_elim hidden is then

pub wide_known : (item : Average) → ∥ IsWideAverage item ∥₁ → IsWideAverage item
wide_known item hidden = record {
  readable = record {
    lead = from_hidden (Prim.hlevel props) hidden (λ wide. wide.readable.lead);
    setup = from_hidden (Prim.hlevel props) hidden (λ wide. wide.readable.setup);
    holding = from_hidden (Prim.hlevel props) hidden (λ wide. wide.readable.holding);
    stockout = from_hidden (Prim.hlevel props) hidden (λ wide. wide.readable.stockout);
    law = from_hidden (Prim.hlevel props) hidden (λ wide. wide.readable.law);
    floor = from_hidden (Prim.hlevel props) hidden (λ wide. wide.readable.floor);
    cap = from_hidden (Prim.hlevel props) hidden (λ wide. wide.readable.cap);
    floor_below = from_hidden (Prim.hlevel props) hidden (λ wide. wide.readable.floor_below);
  };
  has_demand = from_hidden (Prim.hlevel props) hidden (λ wide. wide.has_demand);
  unit_demand = from_hidden (Prim.hlevel props) hidden (λ wide. wide.unit_demand);
  grid = from_hidden (Prim.hlevel props) hidden (λ wide. wide.grid);
  width = from_hidden (Prim.hlevel props) hidden (λ wide. wide.width);
}
