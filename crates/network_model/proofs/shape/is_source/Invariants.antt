use Rattle.std.proofs.Common.{◌≡◌, drop}
use Rattle.std.specs.List.{list_any}
use Rattle.network_model.specs.declared.network.Link.{Link}
use Rattle.network_model.specs.Nodes.{is_from}
use Rattle.network_model.proofs.shape.is_source.Given as goal

abbrev pub invariant-loop-source : goal.invariant-loop-source
invariant-loop-source l = list_any (λ (s : Link). is_from l.node s.from) l.sources ≡ list_any (λ (s : Link). is_from l.node s.from) (drop l.source-index l.sources)
