use Rattle.std.proofs.Common.{ap, arith}
use Rattle.std.specs.Prelude.{unsigned_abs}
use Rattle.bracket_terms.proofs.PlaceFacts.{floor_near, floor_back}
use Rattle.bracket_terms.specs.Known.{item_of, wide_of}
use Rattle.bracket_terms.proofs.terms.Terms.floor.Goals as goal

pub returns-clause-exact : goal.returns-clause-exact
returns-clause-exact c = floor_back (item_of c.args.self.now) (wide_of c.args.self.now)

pub returns-clause-near : goal.returns-clause-near
returns-clause-near c = omega (arith, ap unsigned_abs (floor_back (item_of c.args.self.now) (wide_of c.args.self.now)), floor_near (item_of c.args.self.now) (wide_of c.args.self.now))
