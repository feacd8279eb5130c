-- How a run ends by what its inputs hold.
use Rattle.std.proofs.Common.{inl, ◌≡◌, ℕ, ◌≤◌, List, length, Option, Some, None, Result, Ok, Err, IfSome, IsOk, refl, sym, subst, arith, ◌∙◌, ap}
use Rattle.std.proofs.lemmas.Bool.{le-ltb}
use Rattle.decision_model.specs.declared.kinds.Kind.{Kind}
use Rattle.line_text.specs.Breaches.{Breach}
use Rattle.line_text.specs.TextBreaches.{text_breach}
use Rattle.line_check.specs.Verdicts.{verdict_of}
use Rattle.line_check.specs.declared.verdict.Verdict.{Verdict}
use Rattle.report_text.specs.declared.faults.Fault.{Fault}
use Rattle.report_text.specs.declared.faults.Fault.TheVariants as fault
use Rattle.stock_edge.specs.HeldFiles.{Held}
use Rattle.stock_cli.specs.Causes.{counts_of, RoseAt, FailedAt, GivesNone, IsRefused}
use Rattle.stock_cli.specs.Checks.{IsItemVerdict, IsVerdictOf, verdict_told}
use Rattle.stock_cli.specs.Claims.{CompareClaims}
use Rattle.stock_cli.specs.Endings.{read_ending, item_ending, verdict_ending, verdict_output, check_ending}
use Rattle.stock_cli.specs.Inputs.{Content, Origin, content_of}
use Rattle.stock_cli.specs.Outcome.{Output, Plan, Planned}
use Rattle.stock_cli.specs.Subjects.{SubjectOf, SaysItem, OfItem, Stands, IsSolved, IsCertificate, HoldsCertificate}

-- an item's bytes end a run as the item does
says_ending : {Item Cert : Type 0} (subject : SubjectOf Item Cert) (answer : Item → Planned) (found : Result (List ℕ) Fault) (item : Item) → SaysItem subject found item → item_ending subject answer (Some found) ≡ answer item
says_ending subject answer found item says =
    ap (λ (c : Result (List ℕ) Fault). item_ending subject answer (Some c)) says.told
    ∙ rw (le-ltb 1048576 (length says.bytes) says.fits) (ap (λ r. read_ending answer r) says.said)

-- what an item's ending tells, that of the run that reads it tells
pub tells_said : {Item Cert : Type 0} (subject : SubjectOf Item Cert) (answer : Item → Planned) (content : Content) (item : Item) (P : Result Plan Fault → Type 0) → IfSome content (λ found. SaysItem subject found item) → IfSome (answer item) P → IfSome (item_ending subject answer content) P
tells_said subject answer None item P says h = tt
tells_said subject answer (Some found) item P says h =
    let Told : Planned → Type 0 = λ ending. IfSome ending P in
    subst Told (sym (says_ending subject answer found item says)) h

-- the same refusal, of inputs that are more
pub refuses_wider : (some all : List ℕ → Type 0) (ending : Planned) (f : Fault) → ((name : List ℕ) → some name → all name) → IsRefused some ending f → IsRefused all ending f
refuses_wider some all ending (fault.ReadFault name) wider h = wider name h
refuses_wider some all ending fault.Memory wider h = tt
refuses_wider some all ending fault.WriteFault wider h = h
refuses_wider some all ending _ wider h = h

-- an input that gives no item ends the run
pub refuses_none : {Item Cert : Type 0} (subject : SubjectOf Item Cert) (some all : List ℕ → Type 0) (answer : Item → Planned) (content : Content) (f : Fault) → ((name : List ℕ) → some name → all name) → GivesNone subject some content f → IsRefused all (item_ending subject answer content) f
refuses_none subject some all answer content (fault.ReadFault name) wider h = wider name h
refuses_none subject some all answer content fault.Memory wider h = tt
refuses_none subject some all answer content fault.WriteFault wider h = h
refuses_none subject some all answer content _ wider h = h answer

-- a refusal where nothing is told
refuses_untold : (some all : List ℕ → Type 0) (ending : Planned) (f : Fault) → ((name : List ℕ) → some name → all name) → IsRefused some ending f → IsRefused {T = Plan} all None f
refuses_untold some all ending (fault.ReadFault name) wider h = wider name h
refuses_untold some all ending fault.Memory wider h = tt
refuses_untold some all ending fault.WriteFault wider h = h
refuses_untold some all ending _ wider h = tt

-- what refuses an item refuses the run that reads it
pub refuses_said : {Item Cert : Type 0} (subject : SubjectOf Item Cert) (some all : List ℕ → Type 0) (answer : Item → Planned) (content : Content) (item : Item) (f : Fault) → ((name : List ℕ) → some name → all name) → IfSome content (λ found. SaysItem subject found item) → IsRefused some (answer item) f → IsRefused all (item_ending subject answer content) f
refuses_said subject some all answer None item f wider says h = refuses_untold some all (answer item) f wider h
refuses_said subject some all answer (Some found) item f wider says h =
    let P : Planned → Type 0 = λ ending. IsRefused all ending f in
    subst P (sym (says_ending subject answer found item says)) (refuses_wider some all (answer item) f wider h)

-- a count that rose in a later part of a call rose in the call
pub rose_later : (i0 i1 i2 f0 f1 f2 : ℕ) (input : Origin) → i0 ≤ i1 → f0 ≤ f1 → RoseAt (counts_of i1 i2 f1 f2) input → RoseAt (counts_of i0 i2 f0 f2) input
rose_later i0 i1 i2 f0 f1 f2 None i f h = omega (arith, i, h)
rose_later i0 i1 i2 f0 f1 f2 (Some name) i f h = omega (arith, f, h)

pub failed_later : (i0 i1 i2 f0 f1 f2 : ℕ) (input : Origin) (name : List ℕ) → i0 ≤ i1 → f0 ≤ f1 → FailedAt (counts_of i1 i2 f1 f2) input name → FailedAt (counts_of i0 i2 f0 f2) input name
failed_later i0 i1 i2 f0 f1 f2 input name i f h = (h.0, rose_later i0 i1 i2 f0 f1 f2 input i f h.1)

-- an input that is still as it was
pub same_content : (left later : Option (List ℕ)) (held now : Option Held) (input : Origin) → (input ≡ None → later ≡ left) → now ≡ held → content_of later now input ≡ content_of left held input
same_content left later held now None i f = rw (i refl) refl
same_content left later held now (Some name) i f = rw f refl

-- what is no file is standard input
pub is_standard : (input : Origin) → ((name : List ℕ) → Some name ≡ input → ⊥) → input ≡ None
is_standard None not_file = refl
is_standard (Some name) not_file = absurd (not_file name refl)

-- an item that was read and is solved stands
pub stands_said : {Item Cert : Type 0} (subject : SubjectOf Item Cert) (content : Content) (item : Item) → IfSome content (λ found. SaysItem subject found item) → IsSolved subject item → IfSome content (Stands subject)
stands_said subject None item said solved = tt
stands_said subject (Some found) item said solved = record { item = item; said = said; solved = solved }

-- what a check that accepts claims of its two inputs
pub compare_claims : {Item Cert : Type 0} (subject : SubjectOf Item Cert) (content cert cert_then : Content) (item : Item) → IfSome content (λ found. SaysItem subject found item) → cert_then ≡ cert → HoldsCertificate subject cert_then item → CompareClaims subject content cert
compare_claims subject None cert cert_then item says same holds = tt
compare_claims subject (Some found) cert cert_then item says same holds =
    let P : Content → Type 0 = λ c. HoldsCertificate subject c item in
    record { bytes = says.bytes; told = says.told; item = item; said = says.said; holds = subst P same holds }

-- ---- the ending of a check
breach_told : (o : Option Breach) → verdict_output o ≡ verdict_told (verdict_of o)
breach_told None = refl
breach_told (Some breach) = refl

found_told : {Item Cert : Type 0} (subject : SubjectOf Item Cert) (item : Item) (found : Result (List ℕ) Fault) (verdict : Verdict) (output : Output) → IsVerdictOf (subject.rules item) (IsCertificate subject item) verdict found → output ≡ verdict_told verdict → IfSome (verdict_ending subject item (Some found)) (λ end. end ≡ Ok (inl output))
found_told subject item found verdict output on told =
    let P : Result (List ℕ) Fault → Type 0 = λ (r : Result (List ℕ) Fault). IfSome (verdict_ending subject item (Some r)) (λ end. end ≡ Ok (inl output)) in
    let same : P (Ok on.text) = ap (λ (o : Output). Ok (inl o)) (breach_told (text_breach (subject.rules item) on.text) ∙ ap verdict_told (sym on.verdict_is) ∙ sym told) in
    subst P (sym on.told) same

checks_by : {Item Cert : Type 0} (subject : SubjectOf Item Cert) (o : Result Cert Kind) (item : Item) (content : Content) (verdict : Verdict) (output : Output) → IsOk o → IsItemVerdict subject item content verdict → output ≡ verdict_told verdict → IfSome (check_ending subject content item o) (λ end. end ≡ Ok (inl output))
checks_by subject (Err kind) item content verdict output solved on told = absurd (cc solved)
checks_by subject (Ok c) item None verdict output solved on told = tt
checks_by subject (Ok c) item (Some found) verdict output solved on told = found_told subject item found verdict output on.exact told

-- the verdict on a certificate ends its check, where the item is solved
pub checks_told : {Item Cert : Type 0} (subject : SubjectOf Item Cert) (item : Item) (content : Content) (verdict : Verdict) (output : Output) → IsSolved subject item → IsItemVerdict subject item content verdict → output ≡ verdict_told verdict → IfSome (check_ending subject content item (subject.solved item)) (λ end. end ≡ Ok (inl output))
checks_told subject item = checks_by subject (subject.solved item) item
