-- Lines are those of a certificate exactly where the places behind them lead to an end, and of one certificate alone.
use Rattle.std.proofs.Common.{◌≡◌, List, [], ◌∷◌, ◌++◌, Bool, true, false, cond, ℤ, pos, Some, None, IsSome, IsTrue, refl, ap, ◌∙◌, sym, subst}
use Rattle.std.specs.declared.option.Option.{Option}
use Rattle.std.specs.List.{list_all}
use Rattle.std.proofs.lemmas.Bool.{false≢true}
use Rattle.std.proofs.lemmas.Option.{cond_some}
use Rattle.decision_model.specs.declared.kinds.Kind.{Kind}
use Rattle.decision_model.specs.declared.kinds.Kind.TheVariants as kind
use Rattle.value_cert.specs.AverageFacts.{average_in, average_is_told, average_facts}
use Rattle.value_cert.specs.FiniteFacts.{finite_in, finite_is_told, finite_facts}
use Rattle.value_cert.specs.Grammar.{takes_discount, has_numbers, next_place, step_of, place_from, place_after, has_ended}
use Rattle.value_cert.specs.GrammarFacts.{place_from-append, lines_have_numbers, ended_at, stepped, nowhere, walk_is}
use Rattle.value_cert.specs.KindFacts.{HasRest, KindFacts, IsTold}
use Rattle.value_cert.specs.Kinds.{contents_of, table_of}
use Rattle.value_cert.specs.LotFacts.{lots_in, lots_is_told, lot_facts}
use Rattle.value_cert.specs.NewsFacts.{news_in, news_is_told, news_facts}
use Rattle.value_cert.specs.SerialFacts.{serial_in, serial_is_told, serial_facts}
use Rattle.value_cert.specs.Tags.{tag_of}
use Rattle.value_cert.specs.Texts.{cert_lines, IsComplete, HasText, IsWhole, IsFront}
use Rattle.value_cert.specs.declared.cert.Cert.{Cert}
use Rattle.value_cert.specs.declared.cert.Cert.TheVariants as cert
use Rattle.value_cert.specs.declared.line.CertLine.{CertLine}
use Rattle.value_cert.specs.declared.line.CertLine.TheVariants as line
use Rattle.value_cert.specs.declared.line.Tag.TheVariants as tag
use Rattle.value_cert.specs.declared.place.Place.{Place}
use Rattle.value_cert.specs.declared.place.Place.TheVariants as place

-- ---- The kinds.

-- the certificate that lines behind a head tell, and what is proved of the kind
abbrev kind_facts : (which : Kind) → (cert_in : ℤ → ℤ → List CertLine → Cert) × KindFacts which cert_in
kind_facts kind.News = (news_in, news_facts)
kind_facts kind.Lots = (lots_in, lot_facts)
kind_facts kind.Finite = (finite_in, finite_facts)
kind_facts kind.Average = (average_in, average_facts)
kind_facts kind.Serial = (serial_in, serial_facts)
kind_facts kind.Network = (
  news_in,
  record {
    discount = λ num den h. absurd (false≢true h);
    plain = λ num den h. h;
    last = λ next. refl;
    first = λ num den h. absurd (false≢true h);
    further = λ last next h. absurd (false≢true h);
    tells = λ num den lines fits h. absurd (false≢true fits);
  },
)

abbrev cert_in : Kind → ℤ → ℤ → List CertLine → Cert
cert_in which = (kind_facts which).0

pub facts_of : (which : Kind) → KindFacts which (cert_in which)
facts_of which = (kind_facts which).1

told : (c : Cert) → IsTold c (cert_in (contents_of c).head.kind)
told (cert.News c) = news_is_told c
told (cert.Lots c) = lots_is_told c
told (cert.Finite c) = finite_is_told c
told (cert.Average c) = average_is_told c
told (cert.Serial c) = serial_is_told c

abbrev cert_of_lines : List CertLine → Cert
cert_of_lines (line.Head which num den ∷ lines) = cert_in which num den lines
cert_of_lines lines = news_in (pos 1) (pos 1) lines

cert_is : (c : Cert) → IsComplete c → cert_of_lines (cert_lines c) ≡ c
cert_is c complete = (told c).is complete

-- ---- Whole lists of lines.

-- of two certificates of the same lines, each is the other
pub same_cert : (a b : Cert) → HasText a → HasText b → cert_lines a ≡ cert_lines b → a ≡ b
same_cert a b ha hb same = sym (cert_is a ha.complete) ∙ ap cert_of_lines same ∙ cert_is b hb.complete

-- behind a certificate's lines it has ended
pub whole_ends : (lines : List CertLine) → IsWhole lines → has_ended (place_after lines) ≡ true
whole_ends lines whole =
    let c = whole.0 in
    let P : List CertLine → Type 0 = λ t. has_ended (place_after t) ≡ true in
    subst P whole.2 (ap has_ended (walk_is (Some place.Start) (cert_lines c) whole.1.numbers) ∙ (told c).ends whole.1.complete)

-- each line of a certificate has numbers that may stand there
pub whole_has_numbers : (lines : List CertLine) → IsWhole lines → IsTrue (list_all has_numbers lines)
whole_has_numbers lines whole =
    let P : List CertLine → Type 0 = λ t. IsTrue (list_all has_numbers t) in
    subst P whole.2 whole.1.numbers

-- lines behind which a certificate has ended are its lines
pub ended_is_whole : (lines : List CertLine) → has_ended (place_after lines) ≡ true → IsWhole lines
ended_is_whole [] h = absurd (false≢true h)
ended_is_whole (line.Head which num den ∷ lines) h =
    let step = stepped (takes_discount which num den) (Some (place.Behind which tag.Head)) lines h in
    let tells = (facts_of which).tells num den lines step.0 step.1 in
    let all = line.Head which num den ∷ lines in
    let at = ended_at (place_after all) h in
    let P : List CertLine → Type 0 = λ t. IsTrue (list_all has_numbers t) in
    (cert_in which num den lines, record { numbers = subst P (sym tells.is) (lines_have_numbers (Some place.Start) all at.0 at.1); complete = tells.complete }, tells.is)
ended_is_whole (x ∷ xs) h = nowhere (has_numbers x) xs h

-- ---- Fronts.

-- a line with numbers that may stand there
numbered : (numbers : Bool) (x : Option Place) (next : Place) → cond numbers x None ≡ Some next → (numbers ≡ true) × (x ≡ Some next)
numbered true x next h = (refl, h)
numbered false x next h = cc

-- from the place behind a line that may stand there a certificate goes on to its end
step_has_rest : (at : Place) (x : CertLine) (next : Place) → step_of at x ≡ Some next → HasRest next
step_has_rest place.Start (line.Head which num den) next h =
    let step = numbered (takes_discount which num den) (Some (place.Behind which tag.Head)) next h in
    let here : place.Behind which tag.Head ≡ next = cc (step.1) in
    let P : Place → Type 0 = HasRest in
    subst P here ((facts_of which).first num den step.0)
step_has_rest place.Start x next h = let never = (numbered (has_numbers x) None next h).1 in cc
step_has_rest (place.Behind which last) x next h =
    let step = numbered (has_numbers x) (next_place (place.Behind which last) x) next h in
    let test = cond_some ((table_of which).follows last (tag_of x)) (place.Behind which (tag_of x)) next step.1 in
    let P : Place → Type 0 = HasRest in
    subst P test.1 ((facts_of which).further last (tag_of x) test.0)

step_exists : (x : Option Place) (lines : List CertLine) (at : Place) → place_from x lines ≡ Some at → (next : Place) × (x ≡ Some next)
step_exists None lines at h = cc
step_exists (Some next) lines at h = (next, refl)

-- and so does it from each place behind lines that may stand so
rest_behind : (from : Place) → HasRest from → (lines : List CertLine) (at : Place) → place_from (Some from) lines ≡ Some at → HasRest at
rest_behind from rest [] at h =
    let here : from ≡ at = cc in
    let P : Place → Type 0 = HasRest in
    subst P here rest
rest_behind from rest (x ∷ xs) at h =
    let next = step_exists (step_of from x) xs at h in
    let P : Option Place → Type 0 = λ o. place_from o xs ≡ Some at in
    rest_behind next.0 (step_has_rest from x next.0 next.1) xs at (subst P next.1 h)

start_has_rest : HasRest place.Start
start_has_rest = record { rest = line.Head kind.News (pos 1) (pos 1) ∷ line.Level (pos 0) ∷ line.Cost (pos 0) ∷ line.End ∷ []; ends = refl }

-- lines behind which there is a place can be carried on to a whole certificate
pub front_from_place : (lines : List CertLine) (at : Place) → place_after lines ≡ Some at → IsFront lines
front_from_place lines at h =
    let onward = rest_behind place.Start start_has_rest lines at h in
    let joined = place_from-append (Some place.Start) lines onward.rest ∙ ap (λ from. place_from from onward.rest) h in
    (onward.rest, ended_is_whole (lines ++ onward.rest) (ap has_ended joined ∙ onward.ends))

-- and behind the front of a certificate there is a place
pub place_from_front : (lines : List CertLine) → IsFront lines → IsSome (place_after lines)
place_from_front lines front =
    place_was (place_after lines) front.0 (ap has_ended (sym (place_from-append (Some place.Start) lines front.0)) ∙ whole_ends (lines ++ front.0) front.1)
  where
    place_was : (x : Option Place) (more : List CertLine) → has_ended (place_from x more) ≡ true → IsSome x
    place_was None more h = absurd (false≢true h)
    place_was (Some at) more h = refl
