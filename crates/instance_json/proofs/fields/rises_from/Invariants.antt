use Rattle.std.proofs.Common.{◌≡◌, drop}
use Rattle.instance_json.specs.Positions.{rises_from}
use Rattle.instance_json.proofs.fields.rises_from.Given as goal

abbrev pub invariant-loop-position : goal.invariant-loop-position
invariant-loop-position l = rises_from l.fn.low l.positions ≡ rises_from l.low (drop l.position-index l.positions)
