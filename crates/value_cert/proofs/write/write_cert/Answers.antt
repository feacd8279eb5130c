use Rattle.value_cert.proofs.Writing.{flushed_prefix}
use Rattle.value_cert.proofs.write.write_cert.Goals as goal

pub returns-clause-prefix : goal.returns-clause-prefix
returns-clause-prefix g c = flushed_prefix _ _ _ _ _ c.new-piece.ensures c.in_ok-write_lines.ensures.whole c.flush.ensures.whole c.flush.ensures.prefix
