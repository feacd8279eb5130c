-- Lines behind one another.
use Rattle.std.proofs.Common.{◌≡◌, List, [], ◌∷◌, ◌++◌, Bool, true, false, ◌&&◌, Some, None, refl, ap, ◌∙◌, subst, cond}
use Rattle.std.specs.declared.option.Option.{Option}
use Rattle.std.specs.List.{list_all}
use Rattle.std.proofs.lemmas.Bool.{false≢true}
use Rattle.decision_model.specs.declared.kinds.Kind.{Kind}
use Rattle.value_cert.specs.Grammar.{has_numbers, next_place, step_of, place_from, has_ended}
use Rattle.value_cert.specs.Kinds.{table_of}
use Rattle.value_cert.specs.Tags.{tag_of}
use Rattle.value_cert.specs.declared.line.CertLine.{CertLine}
use Rattle.value_cert.specs.declared.line.Tag.{Tag}
use Rattle.value_cert.specs.declared.line.Tag.TheVariants as tag
use Rattle.value_cert.specs.declared.place.Place.{Place}
use Rattle.value_cert.specs.declared.place.Place.TheVariants as place

-- the place behind lines and further ones
pub place_from-append : (at : Option Place) (xs ys : List CertLine) → place_from at (xs ++ ys) ≡ place_from (place_from at xs) ys
place_from-append None xs ys = refl
place_from-append (Some at) [] ys = refl
place_from-append (Some at) (x ∷ xs) ys = place_from-append (step_of at x) xs ys

-- a line that may stand somewhere has numbers that may stand there
pub line_has_numbers : (numbers : Bool) (next : Option Place) (lines : List CertLine) (at : Place) →
    place_from (cond numbers next None) lines ≡ Some at → numbers ≡ true
line_has_numbers true next lines at h = refl
line_has_numbers false next lines at h = cc

-- each line of the front of a certificate has numbers that may stand there
pub lines_have_numbers : (from : Option Place) (lines : List CertLine) (at : Place) → place_from from lines ≡ Some at → list_all has_numbers lines ≡ true
lines_have_numbers None lines at h = cc
lines_have_numbers (Some from) [] at h = refl
lines_have_numbers (Some from) (x ∷ xs) at h =
    let here = line_has_numbers (has_numbers x) (next_place from x) xs at h in
    let below : list_all has_numbers xs ≡ true = lines_have_numbers (step_of from x) xs at h in
    rw (here, below) refl

-- a place at which the certificate has ended
pub ended_at : (x : Option Place) → has_ended x ≡ true → (at : Place) × (x ≡ Some at)
ended_at None h = absurd (false≢true h)
ended_at (Some at) h = (at, refl)

-- what a step means for the lines behind it
pub stepped : (numbers : Bool) (next : Option Place) (lines : List CertLine) → has_ended (place_from (cond numbers next None) lines) ≡ true
    → (numbers ≡ true) × (has_ended (place_from next lines) ≡ true)
stepped true next lines h = (refl, h)
stepped false next lines h = absurd (false≢true h)

-- no line may stand there
pub nowhere : {A : Type 0} (numbers : Bool) (lines : List CertLine) → has_ended (place_from (cond numbers None None) lines) ≡ true → A
nowhere true lines h = absurd (false≢true h)
nowhere false lines h = absurd (false≢true h)

-- behind the end stands nothing
pub at_ended : (kind : Kind) → ((next : Tag) → (table_of kind).follows tag.End next ≡ false) → (lines : List CertLine)
    → has_ended (place_from (Some (place.Behind kind tag.End)) lines) ≡ true → lines ≡ []
at_ended kind last [] h = refl
at_ended kind last (x ∷ xs) h =
    let P : Bool → Type 0 = λ b. has_ended (place_from (cond (has_numbers x) (cond b (Some (place.Behind kind (tag_of x))) None) None) xs) ≡ true in
    nowhere (has_numbers x) xs (subst P (last (tag_of x)) h)

-- the place behind lines whose numbers are right
abbrev pub walk_from : Option Place → List CertLine → Option Place
walk_from None lines = None
walk_from (Some at) [] = Some at
walk_from (Some at) (next ∷ lines) = walk_from (next_place at next) lines

pub walk_is : (from : Option Place) (lines : List CertLine) → list_all has_numbers lines ≡ true → place_from from lines ≡ walk_from from lines
walk_is None lines h = refl
walk_is (Some at) [] h = refl
walk_is (Some at) (x ∷ xs) h =
    let tests = split (has_numbers x) (list_all has_numbers xs) h in
    ap (λ b. place_from (cond b (next_place at x) None) xs) tests.0 ∙ walk_is (next_place at x) xs tests.1
  where
    split : (a b : Bool) → (a && b) ≡ true → (a ≡ true) × (b ≡ true)
    split true b h = (refl, h)
    split false b h = absurd (false≢true h)
