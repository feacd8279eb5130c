use Rattle.std.proofs.Common.{◌≡◌, drop}
use Rattle.std.specs.List.{list_all}
use Rattle.network_model.specs.Pauses.{are_apart}
use Rattle.network_model.proofs.pauses.is_apart_from.Given as goal

abbrev pub invariant-loop-other : goal.invariant-loop-other
invariant-loop-other l = list_all (are_apart l.span) l.others ≡ list_all (are_apart l.span) (drop l.other-index l.others)
