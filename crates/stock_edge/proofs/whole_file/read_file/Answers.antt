use Rattle.std.proofs.Common.{◌≡◌, ◌≤◌, ◌+◌, ◌++◌, length, take, drop, arith, ap, ◌∙◌}
use Rattle.std.proofs.lemmas.List.{length-append, length-take, take-append-le}
use Rattle.stock_edge.specs.HeldFiles.{GivesHeld}
use Rattle.stock_edge.specs.KnownFiles.{begins_more}
use Rattle.stock_edge.proofs.whole_file.read_file.Goals as goal

pub loop-buf-preserved : goal.loop-buf-preserved
loop-buf-preserved g c =
    let all = c.loop-buf.all.items in
    let given = c.read_at.new.buf in
    let count = c.in-Ok.count in
    let place : c.len-in-loop-buf-2.result ≡ length all = c.len-in-loop-buf-2.ensures ∙ c.loop-buf.all.ok.0 in
    let within : count ≤ length given = c.in-Ok.ensures.bound.0 in
    let asked = length-take (c.min-wanted.result + 1) c.loop-buf.buf in
    let front : take count (given ++ drop (c.min-wanted.result + 1) c.loop-buf.buf) ≡ take count given = rw take-append-le in
    let grown : c.extend_from_slice.new.self.items ≡ all ++ take count given = (rw c.if-is_err.ensures.negation at c.extend_from_slice.ensures.items) ∙ ap (λ t. all ++ t) front in
    let piece : GivesHeld (g.F.Files.held c.args.files.now) c.args.name.now (length all) given count = rw (← place, ← c.loop-buf.invariant.same) c.in-Ok.ensures.bytes in
    record {
      begins = rw grown (begins_more _ _ _ _ _ c.loop-buf.invariant.begins within piece);
      same = c.in-Ok.ensures.same ∙ c.loop-buf.invariant.same;
      later = omega (arith, c.loop-buf.invariant.later, c.in-Ok.ensures.cause.later);
      short = rw grown (simp length-append (omega (arith, asked, within, place, length-take count given)));
    }
