use Rattle.std.proofs.Common.{true, ◌≡◌, ℕ, List, ◌++◌, length}
use Rattle.decision_model.specs.declared.instance.Instance.{Instance}
use Rattle.line_check.specs.Verdicts.{is_rejection}
use Rattle.cert_check.specs.TextChecks.{last_verdict, IsTextCheckOf}
use Rattle.cert_check.proofs.text_check.TextCheck.push.Given as goal

abbrev pub invariant-loop-rest : goal.invariant-loop-rest
invariant-loop-rest l = record {
  front : List ℕ;
  split : l.fn.piece ≡ front ++ l.rest;
  stands : (item : Instance) (bytes : List ℕ) → IsTextCheckOf item l.fn.self bytes → IsTextCheckOf item l.self (bytes ++ front);
  kept : is_rejection (last_verdict l.fn.self) ≡ true → last_verdict l.self ≡ last_verdict l.fn.self;
}

abbrev pub decreases-loop-rest : goal.decreases-loop-rest
decreases-loop-rest l = length l.rest
