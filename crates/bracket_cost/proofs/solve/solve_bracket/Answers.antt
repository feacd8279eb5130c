use Rattle.std.proofs.Common.{◌≡◌, None, subst, sym}
use Rattle.bracket_lemmas.specs.BracketFacts.{IsSolvedBracket}
use Rattle.bracket_lemmas.specs.SolvedSound.{solved_is}
use Rattle.bracket_lemmas.specs.SolvedLines.{solved_text, solved_lines}
use Rattle.line_text.specs.Breaches.{ruled, lines_breach}
use Rattle.value_cert.specs.Bracket.{bracket_lines, HasBracketText}
use Rattle.value_cert.specs.BracketRules.{bracket_rules}
use Rattle.value_cert.specs.FlatGrammar.{flat_grammar}
use Rattle.value_cert.specs.declared.flat_line.FlatName.TheVariants.{Bracket}
use Rattle.value_cert.specs.declared.bracket.BracketCert.{BracketCert}
use Rattle.bracket_cost.proofs.solve.solve_bracket.Goals as goal

pub returns-in-Ok-clause-solved : goal.returns-in-Ok-clause-solved
returns-in-Ok-clause-solved c = subst (λ (z : BracketCert). IsSolvedBracket c.args.item.now z) (sym c.in-Ok.ensures) (solved_is c.args.item.now c.requires)

pub returns-in-Ok-clause-text : goal.returns-in-Ok-clause-text
returns-in-Ok-clause-text c = subst HasBracketText (sym c.in-Ok.ensures) (solved_text c.args.item.now c.requires)

pub returns-in-Ok-clause-kept : goal.returns-in-Ok-clause-kept
returns-in-Ok-clause-kept c = subst (λ (z : BracketCert). lines_breach (ruled (flat_grammar Bracket) (bracket_rules c.args.item.now)) (bracket_lines z) ≡ None) (sym c.in-Ok.ensures) (solved_lines c.args.item.now c.requires)
