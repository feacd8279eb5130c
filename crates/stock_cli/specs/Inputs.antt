-- What the inputs of a command are, and what they hold. Places among the words count from 0.
use Rattle.std.specs.Prelude.{◌≡◌, ℕ, ◌≤◌, List, [], length, map, codes, slice_index_or, Option, Some, None, Result, Ok, Err, String, string_bytes}
use Rattle.std.specs.declared.alloc.Global.{Global}
use Rattle.report_text.specs.declared.faults.Fault.{Fault}
use Rattle.report_text.specs.declared.faults.Fault.TheVariants as fault
use Rattle.stock_edge.specs.HeldFiles.{Held}
use Rattle.stock_cli.specs.declared.inputs.Input.{Input}
use Rattle.stock_cli.specs.declared.inputs.Input.TheVariants as input

-- the word at a place
abbrev pub word_at : List (String Global) → ℕ → List ℕ
word_at words place = slice_index_or (map string_bytes words) place []

-- what a command reads from: the file of a name, or standard input, which is none
abbrev pub Origin : Type 0
Origin = Option (List ℕ)

abbrev pub origin_of : Input → Origin
origin_of input.Standard = None
origin_of (input.File name) = Some name.now

-- what a place among the words means
abbrev pub input_at : List (String Global) → Option ℕ → Origin
input_at words None = None
input_at words (Some place) = Some (word_at words place)

-- the name of an input, as messages tell it
abbrev pub input_name : Origin → List ℕ
input_name None = codes "-"
input_name (Some name) = name

-- the bytes of a file, or that there is none
abbrev pub file_content : List ℕ → Option (List ℕ) → Result (List ℕ) Fault
file_content name None = Err (fault.MissingFile name)
file_content name (Some bytes) = Ok bytes

-- what an input holds, where the object that has it tells that: its bytes, or that there is no such file
abbrev pub Content : Type 0
Content = Option (Result (List ℕ) Fault)

-- what standard input holds
abbrev pub standard_content : Option (List ℕ) → Content
standard_content None = None
standard_content (Some bytes) = Some (Ok bytes)

-- what the file of a name holds
abbrev pub named_content : Option Held → List ℕ → Content
named_content None name = None
named_content (Some files) name = Some (file_content name (files name))

-- what an input holds
abbrev pub content_of : Option (List ℕ) → Option Held → Origin → Content
content_of left held None = standard_content left
content_of left held (Some name) = named_content held name

-- what the inputs of words hold, by their places
abbrev pub contents : Option (List ℕ) → Option Held → List (String Global) → Option ℕ → Content
contents left held words place = content_of left held (input_at words place)
