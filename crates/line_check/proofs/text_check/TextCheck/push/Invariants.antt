use Rattle.std.proofs.Common.{true, ◌≡◌, ℕ, List, ◌++◌, length}
use Rattle.line_text.specs.Breaches.{ruled}
use Rattle.line_check.specs.Verdicts.{is_rejection}
use Rattle.line_check.specs.TextChecks.{IsTextCheckOf}
use Rattle.line_check.proofs.text_check.TextCheck.push.Given as goal

abbrev pub invariant-loop-rest : goal.invariant-loop-rest
invariant-loop-rest g l = record {
  front : List ℕ;
  split : l.fn.piece ≡ front ++ l.rest;
  grammar : l.self.reader.grammar ≡ l.fn.self.reader.grammar;
  stands : (of : _) (bytes : List ℕ) → IsTextCheckOf (ruled (g.G.Grammar.grammar l.fn.self.reader.grammar) (g.R.LineRules.rules of)) (g.R.LineRules.knows l.fn.self.rules of) l.fn.self.reader.lines l.fn.self.verdict bytes
      → IsTextCheckOf (ruled (g.G.Grammar.grammar l.fn.self.reader.grammar) (g.R.LineRules.rules of)) (g.R.LineRules.knows l.self.rules of) l.self.reader.lines l.self.verdict (bytes ++ front);
  kept : is_rejection l.fn.self.verdict ≡ true → l.self.verdict ≡ l.fn.self.verdict;
}

abbrev pub decreases-loop-rest : goal.decreases-loop-rest
decreases-loop-rest g l = length l.rest
