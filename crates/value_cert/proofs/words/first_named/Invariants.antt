use Rattle.std.proofs.Common.{◌≡◌, drop, find}
use Rattle.std.specs.Str.{bytes_eq}
use Rattle.decision_model.specs.Kind.{kind_word}
use Rattle.value_cert.proofs.words.first_named.Given as goal

abbrev pub invariant-loop-kind : goal.invariant-loop-kind
invariant-loop-kind l = find (λ k. bytes_eq (kind_word k) l.word) l.kinds ≡ find (λ k. bytes_eq (kind_word k) l.word) (drop l.kind-index l.kinds)
