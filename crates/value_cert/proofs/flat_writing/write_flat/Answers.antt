use Rattle.value_cert.proofs.FlatWriting.{flushed_whole}
use Rattle.value_cert.proofs.Writing.{flushed_prefix}
use Rattle.value_cert.proofs.flat_writing.write_flat.Goals as goal

pub returns-clause-whole : goal.returns-clause-whole
returns-clause-whole g c = flushed_whole _ _ _ _ _ c.new-piece.ensures c.in_ok-write_flat_lines.ensures.whole c.flush.ensures.whole

pub returns-clause-prefix : goal.returns-clause-prefix
returns-clause-prefix g c = flushed_prefix _ _ _ _ _ c.new-piece.ensures c.in_ok-write_flat_lines.ensures.whole c.flush.ensures.whole c.flush.ensures.prefix
