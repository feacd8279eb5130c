use Rattle.std.proofs.Common.{ap, ◌∙◌, List, ℕ, [], ◌++◌, take, refl, sym, subst, append_assoc, append-nil}
use Rattle.line_text.specs.Breaches.{ruled}
use Rattle.line_check.specs.TextChecks.{IsTextCheckOf}
use Rattle.line_check.specs.Verdicts.{is_rejection}
use Rattle.line_check.specs.TextCheckFacts.{taken_on}
use Rattle.line_check.proofs.text_check.TextCheck.push.Goals as goal

pub loop-rest-init : goal.loop-rest-init
loop-rest-init g c = record {
  front = [];
  split = refl;
  grammar = refl;
  stands = λ of bytes stands.
      let s = c.args.self.now in
      let P : List ℕ → Type 0 = IsTextCheckOf (ruled (g.G.Grammar.grammar c.args.self.now.reader.grammar) (g.R.LineRules.rules of)) (g.R.LineRules.knows s.rules of) s.reader.lines s.verdict in
      subst P (sym (append-nil bytes)) stands;
  kept = λ rejected. refl;
}

pub loop-rest-preserved : goal.loop-rest-preserved
loop-rest-preserved g c =
    let known = c.loop-rest.invariant in
    let was = c.loop-rest.self in
    let rest = c.loop-rest.rest.now in
    let taken = c.take_line-taken in
    let now = taken.new.self in
    let count = taken.result in
    record {
      front = known.front ++ take count rest;
      split = taken_on c.args.piece.now known.front rest count _ known.split refl;
      grammar = taken.ensures.grammar ∙ known.grammar;
      stands = λ of bytes stands.
          let Was : _ → Type 0 = λ grammar. IsTextCheckOf (ruled (g.G.Grammar.grammar grammar) (g.R.LineRules.rules of)) (g.R.LineRules.knows was.rules of) was.reader.lines was.verdict (bytes ++ known.front) in
          let Now : _ → Type 0 = λ grammar. IsTextCheckOf (ruled (g.G.Grammar.grammar grammar) (g.R.LineRules.rules of)) (g.R.LineRules.knows now.rules of) now.reader.lines now.verdict ((bytes ++ known.front) ++ take count rest) in
          rw append_assoc at (subst Now known.grammar (taken.ensures.stands of (bytes ++ known.front) (subst Was (sym known.grammar) (known.stands of bytes stands))));
      kept = λ rejected. let same = known.kept rejected in taken.ensures.kept (ap is_rejection same ∙ rejected) ∙ same;
    }
