-- What the rules of a kind say of one of its instances.
use Rattle.std.specs.Prelude.{Bool}
use Rattle.decision_model.specs.declared.kinds.Kind.{Kind}

pub record Rules : Type 1 where
  pub kind : Kind
  -- each number in its range, each list with its length and shape
  pub readable : Type 0
  -- a grid of positions, where there is one, is small enough
  pub grid : Type 0
  pub grid_test : Bool
  -- a width number, where there is one, is small enough
  pub width : Type 0
  pub width_test : Bool
  -- all rules but that on the width number
  pub regular : Type 0
  -- all rules
  pub valid : Type 0
