use Rattle.std.proofs.Common.{◌≡◌, drop, find}
use Rattle.std.specs.Prelude.{◌&&◌}
use Rattle.std.specs.Str.{bytes_eq}
use Rattle.stock_cli.specs.Names.{is_built, part_word}
use Rattle.stock_cli.proofs.names.first_part.Given as goal

abbrev pub invariant-loop-part : goal.invariant-loop-part
invariant-loop-part l = find (λ k. is_built k && bytes_eq (part_word k) l.name) l.parts ≡ find (λ k. is_built k && bytes_eq (part_word k) l.name) (drop l.part-index l.parts)
