-- What a check of a bracket accepts bounds the cost of every number of periods.
use Rattle.std.proofs.Common.{◌≡◌, ℕ, true, List, Option, Some, None, refl, ap, ◌∙◌}
use Rattle.bracket_lemmas.specs.AcceptedLines.{AreBracketed, accepted_lines}
use Rattle.decision_model.specs.WideAverage.{IsWideAverage}
use Rattle.decision_model.specs.declared.average.Average.{Average}
use Rattle.line_check.specs.Checks.{AreWhole}
use Rattle.line_check.specs.TextChecks.{IsWholeText}
use Rattle.line_text.specs.Grammar.{has_ended}
use Rattle.line_text.specs.Reading.{lines_text}
use Rattle.value_cert.specs.FlatFacts.{ended_is_whole}
use Rattle.value_cert.specs.FlatGrammar.{flat_grammar}
use Rattle.value_cert.specs.FlatLines.{place_after}
use Rattle.value_cert.specs.declared.flat_line.FlatLine.{FlatLine}
use Rattle.value_cert.specs.declared.flat_line.FlatName.TheVariants.{Bracket}
use Rattle.value_cert.specs.declared.flat_line.FlatPlace.{FlatPlace}
use Rattle.value_cert.specs.declared.flat_line.FlatPlace.TheVariants.{Start, Body, Ended}
use Rattle.flat_check.specs.BracketMeaning.{bracket_ruled, IsBracketText}

at_the_end : (at : Option FlatPlace) → has_ended (flat_grammar Bracket) at ≡ true → at ≡ Some Ended
at_the_end None h = cc
at_the_end (Some Start) h = cc
at_the_end (Some Body) h = cc
at_the_end (Some Ended) h = refl

pub accepted_by : (average : Average) → IsWideAverage average → (lines : List FlatLine) → AreWhole (bracket_ruled average) lines → AreBracketed average lines
accepted_by average wide lines whole =
    accepted_lines average wide lines (ended_is_whole lines (at_the_end (place_after lines) whole.ended)) whole.unbroken

pub accepted_text : (average : Average) → IsWideAverage average → (text : List ℕ) → IsWholeText (bracket_ruled average) text → IsBracketText average text
accepted_text average wide text whole =
    let told = accepted_by average wide whole.lines whole.whole in
    record {
      cert = told.cert;
      readable = told.readable;
      text_is = whole.text_is ∙ ap (lines_text (flat_grammar Bracket)) told.lines_are;
      bracket = told.bracket;
    }
