-- Of each line it is tested whether it is a head that doesn't say what it has to, and then the rules of the kind answer.
use Rattle.std.proofs.Common.{◌≡◌, ℕ, Bool, true, false, cond, List, Option, Some, sym, ap, ◌∙◌}
use Rattle.decision_model.specs.declared.instance.Instance.{Instance}
use Rattle.value_cert.specs.Headings.{heading_of, allows_line}
use Rattle.value_cert.specs.Rules.{later_rule}
use Rattle.value_cert.specs.Standards.{kind_rules}
use Rattle.value_cert.specs.declared.heading.Heading.{Heading}
use Rattle.value_cert.specs.declared.line.CertLine.{CertLine}
use Rattle.cert_check.specs.Answers.{AnswersBehindHead, AnswersLine}
use Rattle.cert_check.specs.Kinds.{KnowsAny, KnowsKind}
use Rattle.cert_check.specs.declared.kind_check.KindCheck.{KindCheck}

-- what the test of the head decides
tested : (instance : Instance) (check : KindCheck) (before : List CertLine) (line : CertLine) (allowed : Bool) → KnowsKind check instance before → allows_line check.heading line ≡ allowed
    → cond allowed (later_rule (kind_rules instance) before line) (Some 2) ≡ cond (allows_line (heading_of instance) line) (later_rule (kind_rules instance) before line) (Some 2)
tested instance check before line allowed of test =
    let rule = later_rule (kind_rules instance) before line in
    ap (λ b. cond b rule (Some 2)) (sym test) ∙ ap (λ (heading : Heading). cond (allows_line heading line) rule (Some 2)) of.heading_is

-- another head breaks rule 2
pub other_head : (instance : Instance) (check : KindCheck) (before : List CertLine) (line : CertLine) → KnowsKind check instance before → allows_line check.heading line ≡ false
    → AnswersLine (KnowsKind check) instance before line (Some 2)
other_head instance check before line of refused = record { rule = tested instance check before line false of refused; known = λ none. cc }

-- and the rules of the kind answer to any other line
pub behind_head : (instance : Instance) (old new : KindCheck) (before : List CertLine) (line : CertLine) (answer : Option ℕ) → KnowsKind old instance before → allows_line old.heading line ≡ true
    → new.heading ≡ old.heading → AnswersBehindHead (KnowsAny new.rules) instance before line answer → AnswersLine (KnowsKind new) instance before line answer
behind_head instance old new before line answer of allowed same answers = record {
  rule = answers.rule ∙ tested instance old before line true of allowed;
  known = λ none. record { heading_is = same ∙ of.heading_is; rules = answers.known none };
}
