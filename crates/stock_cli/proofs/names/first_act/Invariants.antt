use Rattle.std.proofs.Common.{◌≡◌, drop, find}
use Rattle.std.specs.Prelude.{◌&&◌}
use Rattle.std.specs.Str.{bytes_eq}
use Rattle.stock_cli.specs.Names.{act_word, has_act}
use Rattle.stock_cli.proofs.names.first_act.Given as goal

abbrev pub invariant-loop-act : goal.invariant-loop-act
invariant-loop-act l = find (λ k. has_act l.part k && bytes_eq (act_word k) l.name) l.acts ≡ find (λ k. has_act l.part k && bytes_eq (act_word k) l.name) (drop l.act-index l.acts)
