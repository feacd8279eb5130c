use Rattle.std.proofs.Common.{◌≡◌, map, drop}
use Rattle.std.specs.List.{list_any}
use Rattle.std.specs.Str.{bytes_eq}
use Rattle.json_forms.specs.Keys.{row_of}
use Rattle.json_forms.proofs.keys.is_named.Given as goal

abbrev pub invariant-loop-row : goal.invariant-loop-row
invariant-loop-row l = list_any (λ row. bytes_eq row.1 l.name) (map row_of l.rows) ≡ list_any (λ row. bytes_eq row.1 l.name) (map row_of (drop l.row-index l.rows))
