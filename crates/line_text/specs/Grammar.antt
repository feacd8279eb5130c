-- A grammar of lines: which line may stand where, and how each is spelt.
use Rattle.std.specs.Prelude.{◌≡◌, ◌<◌, ◌≤◌, ℕ, ◌+◌, List, [], ◌∷◌, length, Bool, false, Option, Some, None}
use Rattle.line_text.specs.LineWords.{IsWithout}

pub record GrammarOf (Line Place : Type 0) : Type 0 where
  -- where the first line stands
  pub start : Place
  -- the place behind a line, if it may stand at a place
  pub step : Place → Line → Option Place
  -- a text may end at a place, and does so behind its line feed
  pub ends : Place → Bool
  -- the bytes of a line before its line feed, and the line that bytes spell
  pub words : Line → List ℕ
  pub spelt : List ℕ → Option Line
  -- a line that comes to so many bytes with no line feed is none
  pub limit : ℕ
  pub some : 0 < limit
  pub unended : ends start ≡ false
  -- laws of each line that may stand somewhere
  pub short : (at : Place) (line : Line) (next : Place) → step at line ≡ Some next → length (words line) + 2 ≤ limit
  pub without_feed : (at : Place) (line : Line) (next : Place) → step at line ≡ Some next → IsWithout 10 (words line)
  pub spells : (at : Place) (line : Line) (next : Place) → step at line ≡ Some next → spelt (words line) ≡ Some line
  -- and of each line that bytes spell
  pub spelling : (bytes : List ℕ) (line : Line) → spelt bytes ≡ Some line → words line ≡ bytes

-- the place that steps lead to from a place, if they lead to one
abbrev pub walk : {Line Place : Type 0} → (Place → Line → Option Place) → Option Place → List Line → Option Place
walk step None lines = None
walk step (Some at) [] = Some at
walk step (Some at) (next ∷ lines) = walk step (step at next) lines

-- a place, if there is one, at which a text may end
abbrev pub is_end : {Place : Type 0} → (Place → Bool) → Option Place → Bool
is_end ends None = false
is_end ends (Some at) = ends at

-- the place behind lines of which the first stands at a place, if they may stand one behind the other
abbrev pub place_from : {Line Place : Type 0} → GrammarOf Line Place → Option Place → List Line → Option Place
place_from {Line} {Place} grammar at lines = walk grammar.step at lines

-- the place behind lines that are the front of a text
abbrev pub place_after : {Line Place : Type 0} → GrammarOf Line Place → List Line → Option Place
place_after {Line} {Place} grammar lines = place_from grammar (Some grammar.start) lines

-- a text may end there
abbrev pub has_ended : {Line Place : Type 0} → GrammarOf Line Place → Option Place → Bool
has_ended {Line} {Place} grammar at = is_end grammar.ends at
