use Rattle.std.proofs.Common.{refl, sym, ap}
use Rattle.line_check.specs.Verdicts.{ended_verdict}
use Rattle.std.proofs.Common.{Some}
use Rattle.line_check.proofs.line_check.LineCheck.new.Goals as goal

pub returns-clause-stands : goal.returns-clause-stands
returns-clause-stands g c = λ of knows. record {
  said = ap ended_verdict (sym (g.G.Grammar.grammar c.args.grammar).unended);
  passing = λ none. record { unbroken = refl; place = ap Some (sym c.start.ensures); count = refl; known = knows };
}
