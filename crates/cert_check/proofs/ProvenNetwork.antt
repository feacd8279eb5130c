-- No line is one of a certificate for a network.
use Rattle.std.proofs.Common.{◌≡◌, ℕ, Bool, true, false, cond, List, Option, None, Some, sym}
use Rattle.decision_model.specs.declared.instance.Instance.{Instance}
use Rattle.decision_model.specs.declared.instance.Instance.TheVariants as instance
use Rattle.network_model.specs.declared.network.Network.{Network}
use Rattle.value_cert.specs.Contents.{head_line}
use Rattle.value_cert.specs.Headings.{heading_of, allows_line}
use Rattle.value_cert.specs.Kinds.{contents_of}
use Rattle.value_cert.specs.Meaning.{solved_cert}
use Rattle.value_cert.specs.Rules.{later_rule}
use Rattle.value_cert.specs.Standards.{kind_rules}
use Rattle.value_cert.specs.Kept.{BreaksNoRule}
use Rattle.value_cert.specs.declared.cert.Cert.{Cert}
use Rattle.value_cert.specs.declared.line.CertLine.{CertLine}
use Rattle.cert_check.specs.Answers.{AnswersBehindHead}
use Rattle.cert_check.specs.NetworkChecks.{KnowsNetwork}
use Rattle.cert_check.specs.declared.network.NetworkCheck.{NetworkCheck}

-- each line breaks rule 2
breaks_rule : (item : Instance) (before : List CertLine) (line : CertLine) → solved_cert item ≡ None → later_rule (kind_rules item) before line ≡ Some 2
breaks_rule (instance.News item) before line unsolved = cc
breaks_rule _ before line unsolved = cc

pub network_answers : (item : Instance) (before : List CertLine) (line : CertLine) (check : NetworkCheck) → KnowsNetwork check item before → AnswersBehindHead (KnowsNetwork check) item before line (Some 2)
network_answers item before line check unsolved = record { rule = sym (breaks_rule item before line unsolved); known = λ none. unsolved }

-- and so does the head of each certificate
pub none_kept : (net : Network) (c : Cert) → BreaksNoRule (instance.Network net) c → ⊥
none_kept net c kept = never (allows_line (heading_of (instance.Network net)) (head_line (contents_of c).head)) kept.0
  where
    never : (allowed : Bool) → cond {A = Option ℕ} allowed (Some 2) (Some 2) ≡ None → ⊥
    never true h = cc
    never false h = cc
