use Rattle.std.proofs.Common.{rules, ◌≡◌, ℕ, ◌≤◌, ◌<◌, length, subst, sym, ◌∙◌, ap, arith}
use Rattle.line_check.specs.Verdicts.{is_rejection}
use Rattle.stock_cli.specs.Causes.{counts_of, RoseAt, NotChecked}
use Rattle.stock_cli.specs.Checks.{GivesNext}
use Rattle.stock_cli.specs.Inputs.{origin_of, input_name, content_of}
use Rattle.stock_cli.proofs.Endings.{rose_later}
use Rattle.stock_cli.proofs.Verdicts.{end_come, more_come, no_piece, reaches_piece, rejected_come}
use Rattle.stock_cli.proofs.certificates.check_from.Goals as goal

pub returns-in_err-count-clause-none : goal.returns-in_err-count-clause-none
returns-in_err-count-clause-none g c =
    let input = origin_of c.args.from.now in
    let none : NotChecked (RoseAt (counts_of (g.I.Source.faults c.args.input.now) (g.I.Source.faults c.read_piece.new.input) (g.F.Files.faults c.args.files.now) (g.F.Files.faults c.read_piece.new.files)) input) (input_name input) (content_of (g.I.Source.left c.args.input.now) (g.F.Files.held c.args.files.now) input) c.in_err-count.field-0.0 =
    no_piece _ _ _ _ _ input _ c.loop-taken.invariant.same_held (rose_later _ _ _ _ _ _ input c.loop-taken.invariant.later_input c.loop-taken.invariant.later_files) c.in_err-count.ensures.none in
    search rules

pub returns-then-count-eq0-clause-verdict : goal.returns-then-count-eq0-clause-verdict
returns-then-count-eq0-clause-verdict g c = λ of h.
    let buf = c.read_piece.new.buf in
    let input = origin_of c.args.from.now in
    let some : 0 < length buf = search rules in
    let zero : c.in_ok-count.count ≡ 0 = search rules in
    let Gives : ℕ → Type 0 = GivesNext input (g.I.Source.left c.loop-taken.input) (g.I.Source.left c.read_piece.new.input) (g.F.Files.held c.args.files.now) c.loop-taken.taken buf in
    let given : Gives c.in_ok-count.count = rw (← c.loop-taken.invariant.same_held) c.in_ok-count.ensures.bytes in
    end_come g.C.TakesText.check of _ _ input _ _ _ _ buf c.loop-taken.taken (c.loop-taken.invariant.come of h) some (subst Gives zero given) (c.end.ensures.answer of) (c.end.ensures.accepted of)

pub returns-then-count-eq0-clause-reach : goal.returns-then-count-eq0-clause-reach
returns-then-count-eq0-clause-reach g c = λ of h e.
    let buf = c.read_piece.new.buf in
    let input = origin_of c.args.from.now in
    let small : length buf ≤ 4096 = search rules in
    let given : GivesNext input (g.I.Source.left c.loop-taken.input) (g.I.Source.left c.read_piece.new.input) (g.F.Files.held c.args.files.now) c.loop-taken.taken buf c.in_ok-count.count = rw (← c.loop-taken.invariant.same_held) c.in_ok-count.ensures.bytes in
    reaches_piece g.C.TakesText.check of _ input _ _ _ _ buf c.loop-taken.taken c.in_ok-count.count (c.loop-taken.invariant.come of h) c.in_ok-count.ensures.bound.0 small given e

pub returns-then-is_rejected-clause-verdict : goal.returns-then-is_rejected-clause-verdict
returns-then-is_rejected-clause-verdict g c = λ of h.
    let buf = c.read_piece.new.buf in
    let input = origin_of c.args.from.now in
    let some : 0 < c.in_ok-count.count = search rules in
    let given : GivesNext input (g.I.Source.left c.loop-taken.input) (g.I.Source.left c.read_piece.new.input) (g.F.Files.held c.args.files.now) c.loop-taken.taken buf c.in_ok-count.count = rw (← c.loop-taken.invariant.same_held) c.in_ok-count.ensures.bytes in
    rejected_come g.C.TakesText.check of _ _ input _ _ _ _ buf c.loop-taken.taken c.in_ok-count.count (c.loop-taken.invariant.come of h) c.in_ok-count.ensures.bound.0 some given (c.push-verdict.ensures.answer of) (sym c.is_rejected.ensures ∙ c.if-is_rejected.true)

pub returns-then-is_rejected-clause-reach : goal.returns-then-is_rejected-clause-reach
returns-then-is_rejected-clause-reach g c = λ of h e.
    let buf = c.read_piece.new.buf in
    let input = origin_of c.args.from.now in
    let small : length buf ≤ 4096 = search rules in
    let given : GivesNext input (g.I.Source.left c.loop-taken.input) (g.I.Source.left c.read_piece.new.input) (g.F.Files.held c.args.files.now) c.loop-taken.taken buf c.in_ok-count.count = rw (← c.loop-taken.invariant.same_held) c.in_ok-count.ensures.bytes in
    reaches_piece g.C.TakesText.check of _ input _ _ _ _ buf c.loop-taken.taken c.in_ok-count.count (c.loop-taken.invariant.come of h) c.in_ok-count.ensures.bound.0 small given e

pub loop-taken-preserved : goal.loop-taken-preserved
loop-taken-preserved g c =
    let buf = c.read_piece.new.buf in
    let input = origin_of c.args.from.now in
    let given : GivesNext input (g.I.Source.left c.loop-taken.input) (g.I.Source.left c.read_piece.new.input) (g.F.Files.held c.args.files.now) c.loop-taken.taken buf c.in_ok-count.count = rw (← c.loop-taken.invariant.same_held) c.in_ok-count.ensures.bytes in
    let going = ap is_rejection (sym c.push-verdict.ensures.last) ∙ sym c.is_rejected.ensures ∙ c.if-is_rejected.false in
    record {
      come = λ of h. more_come g.C.TakesText.check of _ _ input _ _ _ _ buf c.loop-taken.taken c.in_ok-count.count (c.loop-taken.invariant.come of h) c.in_ok-count.ensures.bound.0 given (c.push-verdict.ensures.stands of) going;
      same_held = c.in_ok-count.ensures.same_held ∙ c.loop-taken.invariant.same_held;
      later_input = omega (arith, c.loop-taken.invariant.later_input, c.in_ok-count.ensures.later_input);
      later_files = omega (arith, c.loop-taken.invariant.later_files, c.in_ok-count.ensures.later_files);
      same_input = λ e. c.in_ok-count.ensures.same_input e ∙ c.loop-taken.invariant.same_input e;
      same_files = λ e. c.in_ok-count.ensures.same_files e ∙ c.loop-taken.invariant.same_files e;
    }
