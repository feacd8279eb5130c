-- The fields of a store of files.
use Rattle.std.specs.Prelude.{map, string_bytes}
use Rattle.stock_edge.specs.declared.memory_files.FileStore.TheInside.{Inside}
use Rattle.stock_edge.specs.HeldFiles.{NamedFiles}

-- what contracts see of the fields
abbrev pub files_of : Inside → NamedFiles
files_of s = map (λ entry. (string_bytes entry.0, entry.1.items)) s.files.entries
