use Rattle.std.proofs.Common.{◌≡◌, drop, find}
use Rattle.std.specs.Str.{bytes_eq}
use Rattle.decision_model.specs.Kind.{kind_word}
use Rattle.decision_model.proofs.kinds.first_named.Given as goal

abbrev pub invariant-loop-kind : goal.invariant-loop-kind
invariant-loop-kind l = find (λ k. bytes_eq (kind_word k) l.name) l.kinds ≡ find (λ k. bytes_eq (kind_word k) l.name) (drop l.kind-index l.kinds)
