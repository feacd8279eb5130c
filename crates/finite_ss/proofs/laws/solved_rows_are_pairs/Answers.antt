use Rattle.finite_ss.specs.SolvedShapes.{solved_shape, shape_chooses}
use Rattle.finite_ss.proofs.laws.solved_rows_are_pairs.Goals as goal

pub returns-clause-shapes : goal.returns-clause-shapes
returns-clause-shapes c finite t readable none = solved_shape finite readable none t

pub returns-clause-choices : goal.returns-clause-choices
returns-clause-choices c finite t x readable none = shape_chooses finite readable none t x
