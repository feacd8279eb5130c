-- What is proved of the certificates of average costs.
use Rattle.std.proofs.Common.{◌≡◌, ◌<◌, List, [], ◌∷◌, ◌++◌, length, map, true, ◌&&◌, ℤ, pos, Some, refl, ap, sym, arith}
use Rattle.std.specs.Prelude.{unsigned_abs}
use Rattle.std.proofs.lemmas.Bool.{false≢true}
use Rattle.decision_model.specs.declared.kinds.Kind.TheVariants as kind
use Rattle.value_cert.specs.Average.{point_line, average_lines, average_follows}
use Rattle.value_cert.specs.Grammar.{has_numbers, place_from, has_ended}
use Rattle.value_cert.specs.GrammarFacts.{stepped, nowhere, at_ended, walk_from}
use Rattle.value_cert.specs.KindFacts.{HasRest, KindFacts, IsTold, natural_is, no_discount_is, no_discount_small}
use Rattle.value_cert.specs.NumberFacts.{both}
use Rattle.value_cert.specs.Numbers.{is_natural, is_whole}
use Rattle.value_cert.specs.declared.average.AverageCell.{AverageCell}
use Rattle.value_cert.specs.declared.average.AverageCert.{AverageCert}
use Rattle.value_cert.specs.declared.cert.Cert.{Cert}
use Rattle.value_cert.specs.declared.cert.Cert.TheVariants as cert
use Rattle.value_cert.specs.declared.line.CertLine.{CertLine}
use Rattle.value_cert.specs.declared.line.CertLine.TheVariants as line
use Rattle.value_cert.specs.declared.line.Tag.{Tag}
use Rattle.value_cert.specs.declared.line.Tag.TheVariants as tag
use Rattle.value_cert.specs.declared.place.Place.TheVariants as place

-- the positions that lines tell
abbrev points_told : List CertLine → List AverageCell
points_told (line.Point at lower upper ∷ lines) = record { at = at; lower = unsigned_abs lower; upper = unsigned_abs upper } ∷ points_told lines
points_told _ = []

-- the certificate that lines tell
abbrev average_told : List CertLine → AverageCert
average_told (line.Gain num den ∷ line.Pair low high ∷ lines) =
    record { num = unsigned_abs num; den = unsigned_abs den; low = low; high = high; cells = points_told lines }
average_told lines = record { num = 0; den = 0; low = pos 0; high = pos 0; cells = [] }

abbrev pub average_in : ℤ → ℤ → List CertLine → Cert
average_in num den lines = cert.Average (average_told lines)

points_is : (cells : List AverageCell) → points_told (map point_line cells ++ line.End ∷ []) ≡ cells
points_is [] = refl
points_is (cell ∷ cells) = ap (λ t. cell ∷ t) (points_is cells)

average_is : (c : AverageCert) → average_in (pos 1) (pos 1) (average_lines c ++ line.End ∷ []) ≡ cert.Average c
average_is c =
    let put : List AverageCell → Cert = λ cells. cert.Average (record { num = c.num; den = c.den; low = c.low; high = c.high; cells = cells }) in
    ap put (points_is c.cells)

points_walk : (cells : List AverageCell) → has_ended (walk_from (Some (place.Behind kind.Average tag.Point)) (map point_line cells ++ line.End ∷ [])) ≡ true
points_walk [] = refl
points_walk (cell ∷ cells) = points_walk cells

first_points_walk : (cells : List AverageCell) → 0 < length cells
    → has_ended (walk_from (Some (place.Behind kind.Average tag.Pair)) (map point_line cells ++ line.End ∷ [])) ≡ true
first_points_walk [] some = absurd (omega (arith, some))
first_points_walk (cell ∷ cells) some = points_walk cells

average_ends : (c : AverageCert) → 0 < length c.cells
    → has_ended (walk_from (Some (place.Behind kind.Average tag.Head)) (average_lines c ++ line.End ∷ [])) ≡ true
average_ends c complete = first_points_walk c.cells complete

-- behind the pair stands a point, as may stand behind another
record BeginsPoint (lines : List CertLine) : Type 0 where
  next : has_ended (place_from (Some (place.Behind kind.Average tag.Point)) lines) ≡ true
  some : 0 < length (points_told lines)

first_point : (lines : List CertLine) → has_ended (place_from (Some (place.Behind kind.Average tag.Pair)) lines) ≡ true → BeginsPoint lines
first_point [] h = absurd (false≢true h)
first_point (line.Point at lower upper ∷ lines) h = record { next = h; some = omega arith }
first_point (x ∷ xs) h = nowhere (has_numbers x) xs h

points_back : (lines : List CertLine) → has_ended (place_from (Some (place.Behind kind.Average tag.Point)) lines) ≡ true
    → map point_line (points_told lines) ++ line.End ∷ [] ≡ lines
points_back [] h = absurd (false≢true h)
points_back (line.Point at lower upper ∷ lines) h =
    let step = stepped (has_numbers (line.Point at lower upper)) (Some (place.Behind kind.Average tag.Point)) lines h in
    let numbers = both (is_whole at && is_natural lower) (is_natural upper) step.0 in
    let low = (both (is_whole at) (is_natural lower) numbers.0).1 in
    cc (natural_is lower low, natural_is upper numbers.1, points_back lines step.1)
points_back (line.End ∷ lines) h = ap (λ t. line.End ∷ t) (sym (at_ended kind.Average (λ next. refl) lines h))
points_back (x ∷ xs) h = nowhere (has_numbers x) xs h

record TellAverage (lines : List CertLine) : Type 0 where
  some : 0 < length (average_told lines).cells
  is : average_lines (average_told lines) ++ line.End ∷ [] ≡ lines

average_back : (lines : List CertLine) → has_ended (place_from (Some (place.Behind kind.Average tag.Head)) lines) ≡ true → TellAverage lines
average_back [] h = absurd (false≢true h)
average_back (line.Gain num den ∷ []) h =
    absurd (false≢true (stepped (has_numbers (line.Gain num den)) (Some (place.Behind kind.Average tag.Gain)) [] h).1)
average_back (line.Gain num den ∷ line.Pair low high ∷ lines) h =
    let step = stepped (has_numbers (line.Gain num den)) (Some (place.Behind kind.Average tag.Gain)) (line.Pair low high ∷ lines) h in
    let next = stepped (has_numbers (line.Pair low high)) (Some (place.Behind kind.Average tag.Pair)) lines step.1 in
    let numbers = both (is_natural num) (is_natural den) step.0 in
    let begins = first_point lines next.1 in
    record { some = begins.some; is = cc (natural_is num numbers.0, natural_is den numbers.1, points_back lines begins.next) }
average_back (line.Gain num den ∷ x ∷ xs) h =
    nowhere (has_numbers x) xs (stepped (has_numbers (line.Gain num den)) (Some (place.Behind kind.Average tag.Gain)) (x ∷ xs) h).1
average_back (x ∷ xs) h = nowhere (has_numbers x) xs h

behind_point : HasRest (place.Behind kind.Average tag.Point)
behind_point = record { rest = line.End ∷ []; ends = refl }

further : (last next : Tag) → average_follows last next ≡ true → HasRest (place.Behind kind.Average next)
further tag.Head tag.Gain h = record { rest = line.Pair (pos 0) (pos 0) ∷ line.Point (pos 0) (pos 0) (pos 0) ∷ line.End ∷ []; ends = refl }
further tag.Gain tag.Pair h = record { rest = line.Point (pos 0) (pos 0) (pos 0) ∷ line.End ∷ []; ends = refl }
further tag.Pair tag.Point h = behind_point
further tag.Point tag.Point h = behind_point
further tag.Point tag.End h = record { rest = []; ends = refl }
further _ _ h = absurd (false≢true h)

pub average_is_told : (c : AverageCert) → IsTold (cert.Average c) average_in
average_is_told c = record { is = λ complete. average_is c; ends = average_ends c }

pub average_facts : KindFacts kind.Average average_in
average_facts = record {
  discount = no_discount_small;
  plain = λ num den h. refl;
  last = λ next. refl;
  first = λ num den h.
      record { rest = line.Gain (pos 0) (pos 0) ∷ line.Pair (pos 0) (pos 0) ∷ line.Point (pos 0) (pos 0) (pos 0) ∷ line.End ∷ []; ends = refl };
  further = further;
  tells = λ num den lines fits h.
      let one = no_discount_is num den fits in
      let rest = average_back lines h in
      record { complete = rest.some; is = cc (one.0, one.1, rest.is) };
}
