use Rattle.std.proofs.Common.{◌≡◌, drop}
use Rattle.std.specs.List.{list_all}
use Rattle.network_model.specs.declared.network.Link.{Link}
use Rattle.network_model.specs.Shape.{is_later}
use Rattle.network_model.proofs.shape.are_later.Given as goal

abbrev pub invariant-loop-source : goal.invariant-loop-source
invariant-loop-source l = list_all (λ (s : Link). is_later l.count l.place s.from) l.sources ≡ list_all (λ (s : Link). is_later l.count l.place s.from) (drop l.source-index l.sources)
