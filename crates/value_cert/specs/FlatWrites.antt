-- The text of flat lines, and what writing some of it does to a sink and the piece that goes out next.
use Rattle.std.specs.Prelude.{ℕ, List, [], ◌∷◌, ◌++◌, Result, OnOk, OnErr}
use Rattle.std.specs.List.{flat_map}
use Rattle.stock_edge.specs.Causes.{AppendsPrefix, HasCause}
use Rattle.value_cert.specs.FlatLines.{line_text}
use Rattle.value_cert.specs.Writes.{Output, Took}
use Rattle.value_cert.specs.declared.flat_line.FlatLine.{FlatLine}
use Rattle.value_cert.specs.declared.flat_line.FlatLine.TheVariants.{Head, End}
use Rattle.value_cert.specs.declared.flat_line.FlatName.{FlatName}

-- the text of lines
abbrev pub flat_text : FlatName → List FlatLine → List ℕ
flat_text name lines = flat_map (line_text name) lines

-- the lines of a certificate with these rows
abbrev pub flat_lines : List FlatLine → List FlatLine → List FlatLine
flat_lines first rows = Head ∷ first ++ rows ++ End ∷ []

-- on success the text was taken, and else a prefix of what the piece held and of the text went out, the sink's count of
-- faults having risen
pub record WritesText {T E : Type 0} (old new : Output) (result : Result T E) (text : List ℕ) : Type 0 where
  pub whole : OnOk result (Took old new text)
  pub prefix : OnErr result (AppendsPrefix old.written new.written (old.pending ++ text))
  pub cause : HasCause old.faults new.faults result
