-- What a command is about: the items that it reads, and their certificates.
use Rattle.std.specs.Prelude.{◌≡◌, ℕ, ◌≤◌, List, length, IfSome, Result, Ok, Err, IsOk}
use Rattle.decision_model.specs.declared.kinds.Kind.{Kind}
use Rattle.json_forms.specs.declared.fault.InstanceFault.{InstanceFault}
use Rattle.line_text.specs.Breaches.{RuledGrammar}
use Rattle.report_text.specs.declared.faults.Fault.{Fault}
use Rattle.report_text.specs.declared.faults.Fault.TheVariants as fault
use Rattle.stock_cli.specs.Inputs.{Content}

pub record SubjectOf (Item Cert : Type 0) : Type 1 where
  -- the item that bytes say, or their first fault
  pub reads : List ℕ → Result Item InstanceFault
  -- what holds of each item that is read
  pub IsValid : Item → Type 0
  -- the certificate that the solver writes, or the kind, where it isn't solved
  pub solved : Item → Result Cert Kind
  -- what `solve` prints
  pub report : Item → Cert → List ℕ
  -- the text of a certificate, where it has one
  pub text : Cert → List ℕ
  pub HasText : Cert → Type 0
  -- the lines of certificates, and the rules of an item on them
  pub rules : Item → RuledGrammar
  -- the certificate names a policy than which none costs less, and its cost; or one, with bounds of every policy's cost
  pub Certifies : Item → Cert → Type 0

-- the item's kind is solved
abbrev pub IsSolved : {Item Cert : Type 0} → SubjectOf Item Cert → Item → Type 0
IsSolved subject item = IsOk (subject.solved item)

-- the item isn't solved, as its fault tells
abbrev pub IsUnsolved : {Item Cert : Type 0} → SubjectOf Item Cert → Item → Fault → Type 0
IsUnsolved subject item f = (kind : Kind) × (f ≡ fault.NotThisCommand kind) × (subject.solved item ≡ Err kind)

-- ---- what is read
-- the content is that of this item, whose bytes are not too many
pub record SaysItem {Item Cert : Type 0} (subject : SubjectOf Item Cert) (content : Result (List ℕ) Fault) (item : Item) : Type 0 where
  pub bytes : List ℕ
  pub told : content ≡ Ok bytes
  pub fits : length bytes ≤ 1048576
  pub said : subject.reads bytes ≡ Ok item

-- the content is that of an item of which this holds
pub record OfItem {Item Cert : Type 0} (subject : SubjectOf Item Cert) (content : Result (List ℕ) Fault) (claim : Item → Type 0) : Type 0 where
  pub bytes : List ℕ
  pub told : content ≡ Ok bytes
  pub item : Item
  pub said : subject.reads bytes ≡ Ok item
  pub holds : claim item

-- the content is an item's that stands: it isn't too long, says the item, and the item is solved
pub record Stands {Item Cert : Type 0} (subject : SubjectOf Item Cert) (found : Result (List ℕ) Fault) : Type 0 where
  pub item : Item
  pub said : SaysItem subject found item
  pub solved : IsSolved subject item

-- ---- what is claimed
-- a certificate of the item, of which this holds, claims what it says of a policy
pub record NamesLeastPolicy {Item Cert : Type 0} (subject : SubjectOf Item Cert) (item : Item) (text_is : Cert → Type 0) : Type 0 where
  pub cert : Cert
  pub has_text : subject.HasText cert
  pub certifies : subject.Certifies item cert
  pub text : text_is cert

-- the text reports such a policy of the item
abbrev pub IsReport : {Item Cert : Type 0} → SubjectOf Item Cert → Item → List ℕ → Type 0
IsReport subject item text = NamesLeastPolicy subject item (λ c. text ≡ subject.report item c)

-- the text is a certificate of such a policy
abbrev pub IsCertificate : {Item Cert : Type 0} → SubjectOf Item Cert → Item → List ℕ → Type 0
IsCertificate subject item text = NamesLeastPolicy subject item (λ c. text ≡ subject.text c)

-- the content is a certificate of such a policy
abbrev pub HoldsCertificate : {Item Cert : Type 0} → SubjectOf Item Cert → Content → Item → Type 0
HoldsCertificate subject content item = IfSome content (λ told. NamesLeastPolicy subject item (λ c. told ≡ Ok (subject.text c)))
