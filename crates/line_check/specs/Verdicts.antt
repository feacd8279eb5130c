-- What a check says, and of what.
use Rattle.std.specs.Prelude.{List, Bool, true, false, if◌then◌else◌, Option, Some, None}
use Rattle.line_text.specs.Grammar.{has_ended, place_after}
use Rattle.line_text.specs.Breaches.{RuledGrammar, Breach, breach_behind, lines_breach}
use Rattle.line_check.specs.declared.verdict.Verdict.{Verdict}
use Rattle.line_check.specs.declared.verdict.Verdict.TheVariants.{Going, Accepted, Rejected}

-- a rejection by the first breach
abbrev pub rejected_by : Breach → Verdict
rejected_by breach = Rejected breach.line breach.rule

-- a line broke a rule
abbrev pub is_rejection : Verdict → Bool
is_rejection (Rejected line rule) = true
is_rejection _ = false

-- a rejection where there is a breach, and else another verdict
abbrev pub verdict_or : Option Breach → Verdict → Verdict
verdict_or None other = other
verdict_or (Some breach) other = rejected_by breach

-- the verdict on a whole text by its first breach
abbrev pub verdict_of : Option Breach → Verdict
verdict_of breach = verdict_or breach Accepted

-- the verdict on lines that break no rule: accepted where a text may end behind them
abbrev pub ended_verdict : Bool → Verdict
ended_verdict ended = if ended then Accepted else Going

abbrev pub passing_verdict : (G : RuledGrammar) → Option G.Place → Verdict
passing_verdict G at = ended_verdict (has_ended G.grammar at)

-- the verdict on lines, of which more may come
abbrev pub fed_verdict : (G : RuledGrammar) → List G.Line → Verdict
fed_verdict G lines = verdict_or (lines_breach G lines) (passing_verdict G (place_after G.grammar lines))

-- the verdict on lines, of which no more come
abbrev pub end_verdict : (G : RuledGrammar) → List G.Line → Verdict
end_verdict G lines =
    verdict_or (lines_breach G lines) (if has_ended G.grammar (place_after G.grammar lines) then Accepted else rejected_by (breach_behind lines 1))
