use Rattle.flat_check.proofs.BracketAnswers.{bracket_answers}
use Rattle.flat_check.proofs.bracket_lines.BracketLinesLineRulesFlatGrammar.feed.Goals as goal

pub returns : goal.returns
returns c = λ average before knows.
    bracket_answers average before c.args.line.now c.args.self.now c.take.new.self c.take.result knows c.take.ensures.instance c.take.ensures.rule c.take.ensures.rows
