-- What a write of lines does to a sink and the piece that goes out next.
use Rattle.std.specs.Prelude.{◌≡◌, ℕ, ◌≤◌, List, ◌++◌, Result, OnOk, OnErr}
use Rattle.std.specs.declared.option.Option.{Option}
use Rattle.std.specs.Io.KnownBytes.{Appends}
use Rattle.stock_edge.specs.Causes.{AppendsPrefix, HasCause}
use Rattle.value_cert.specs.Texts.{lines_text}
use Rattle.value_cert.specs.declared.line.CertLine.{CertLine}

-- the known bytes of a sink, its count of faults, and the bytes of the piece
pub record Output : Type 0 where
  pub written : Option (List ℕ)
  pub faults : ℕ
  pub pending : List ℕ

abbrev pub output : Option (List ℕ) → ℕ → List ℕ → Output
output written faults pending = record { written = written; faults = faults; pending = pending }

-- some bytes went out, and what the piece held and the text are these and what the piece holds
pub record Took (old new : Output) (text : List ℕ) : Type 0 where
  pub out : List ℕ
  pub appended : Appends old.written new.written out
  pub whole : old.pending ++ text ≡ out ++ new.pending
  pub later : old.faults ≤ new.faults

-- on success the text of the lines was taken, and else a prefix of what the piece held and of the text went out, the
-- sink's count of faults having risen
pub record Writes {T E : Type 0} (old new : Output) (result : Result T E) (lines : List CertLine) : Type 0 where
  pub whole : OnOk result (Took old new (lines_text lines))
  pub prefix : OnErr result (AppendsPrefix old.written new.written (old.pending ++ lines_text lines))
  pub cause : HasCause old.faults new.faults result
