use Rattle.std.proofs.Common.{◌≡◌, drop}
use Rattle.std.specs.Prelude.{int_le}
use Rattle.std.specs.List.{list_all}
use Rattle.instance_json.proofs.fields.are_at_most.Given as goal

abbrev pub invariant-loop-position : goal.invariant-loop-position
invariant-loop-position l = list_all (λ x. int_le x l.cap) l.positions ≡ list_all (λ x. int_le x l.cap) (drop l.position-index l.positions)
