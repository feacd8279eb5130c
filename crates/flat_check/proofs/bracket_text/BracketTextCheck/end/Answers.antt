use Rattle.std.proofs.Common.{subst, sym}
use Rattle.line_check.specs.TextChecks.{IsWholeText, IsTextCheckOf}
use Rattle.line_text.specs.Breaches.{ruled}
use Rattle.value_cert.specs.BracketRules.{bracket_rules}
use Rattle.value_cert.specs.FlatGrammar.{flat_grammar}
use Rattle.value_cert.specs.declared.flat_line.FlatName.{FlatName}
use Rattle.flat_check.specs.BracketRows.{KnowsBracket}
use Rattle.flat_check.proofs.BracketAccepted.{accepted_text}
use Rattle.flat_check.proofs.bracket_text.BracketTextCheck.end.Goals as goal

pub returns-clause-accepted : goal.returns-clause-accepted
returns-clause-accepted c = λ average bytes is accepted.
    let check = c.args.self.now.check in
    let Stands : FlatName → Type 0 = λ name. IsTextCheckOf (ruled (flat_grammar name) (bracket_rules average)) (KnowsBracket check.rules average) check.reader.lines check.verdict bytes in
    let Whole : FlatName → Type 0 = λ name. IsWholeText (ruled (flat_grammar name) (bracket_rules average)) bytes in
    accepted_text average is.wide bytes (subst Whole is.named (c.end.ensures.accepted average bytes (subst Stands (sym is.named) is.stands) accepted))
