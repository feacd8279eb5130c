use Rattle.std.proofs.Common.{subst, sym}
use Rattle.line_check.specs.Checks.{AreWhole, IsCheckOf}
use Rattle.line_text.specs.Breaches.{ruled}
use Rattle.value_cert.specs.BracketRules.{bracket_rules}
use Rattle.value_cert.specs.FlatGrammar.{flat_grammar}
use Rattle.value_cert.specs.declared.flat_line.FlatName.{FlatName}
use Rattle.flat_check.specs.BracketRows.{KnowsBracket}
use Rattle.flat_check.proofs.BracketAccepted.{accepted_by}
use Rattle.flat_check.proofs.bracket_check.BracketCheck.end.Goals as goal

pub returns-clause-accepted : goal.returns-clause-accepted
returns-clause-accepted c = λ average lines is accepted.
    let check = c.args.self.now.check in
    let Stands : FlatName → Type 0 = λ name. IsCheckOf (ruled (flat_grammar name) (bracket_rules average)) (KnowsBracket check.rules average) check.place check.number check.verdict lines in
    let Whole : FlatName → Type 0 = λ name. AreWhole (ruled (flat_grammar name) (bracket_rules average)) lines in
    accepted_by average is.wide lines (subst Whole is.named (c.end.ensures.accepted average lines (subst Stands (sym is.named) is.stands) accepted))
