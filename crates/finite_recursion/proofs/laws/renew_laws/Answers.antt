use Rattle.std.proofs.Common.{length, ap, sym, ◌∙◌}
use Rattle.finite_recursion.proofs.LawRows.{holds_other}
use Rattle.finite_recursion.proofs.laws.renew_laws.Goals as goal

pub returns-then-as_slice-eq1-clause-holds : goal.returns-then-as_slice-eq1-clause-holds
returns-then-as_slice-eq1-clause-holds c =
    let held = c.requires.held c.if-held.true in
    holds_other c.args.finite.now held.0 c.args.period c.args.laws.now c.args.sums.now (sym (ap length c.as_slice.ensures) ∙ c.if-as_slice-eq1.true) held.1
