use Rattle.std.proofs.Common.{◌≡◌, drop, find}
use Rattle.std.specs.Str.{bytes_eq}
use Rattle.stock_cli.specs.Names.{verb_word}
use Rattle.stock_cli.proofs.names.first_verb.Given as goal

abbrev pub invariant-loop-verb : goal.invariant-loop-verb
invariant-loop-verb l = find (λ k. bytes_eq (verb_word k) l.name) l.verbs ≡ find (λ k. bytes_eq (verb_word k) l.name) (drop l.verb-index l.verbs)
