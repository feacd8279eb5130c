-- What is proved of the certificates of finite horizons.
use Rattle.std.proofs.Common.{◌≡◌, ◌<◌, List, [], ◌∷◌, ◌++◌, length, map, true, ℤ, pos, Some, refl, ap, ◌∙◌, sym, arith, append_assoc}
use Rattle.std.specs.Prelude.{unsigned_abs}
use Rattle.std.specs.List.{flat_map}
use Rattle.std.proofs.lemmas.Bool.{false≢true}
use Rattle.std.proofs.lemmas.List.{append-nil}
use Rattle.decision_model.specs.declared.kinds.Kind.TheVariants as kind
use Rattle.value_cert.specs.Contents.{EachIs}
use Rattle.value_cert.specs.Finite.{value_line, row_lines, finite_follows, HasValues, HasRows}
use Rattle.value_cert.specs.Grammar.{has_numbers, place_from, has_ended}
use Rattle.value_cert.specs.GrammarFacts.{stepped, nowhere, at_ended, walk_from}
use Rattle.value_cert.specs.KindFacts.{HasRest, KindFacts, IsTold, natural_is, discount_is}
use Rattle.value_cert.specs.Numbers.{is_natural}
use Rattle.value_cert.specs.declared.cert.Cert.{Cert}
use Rattle.value_cert.specs.declared.cert.Cert.TheVariants as cert
use Rattle.value_cert.specs.declared.finite.FiniteCell.{FiniteCell}
use Rattle.value_cert.specs.declared.finite.FiniteCert.{FiniteCert}
use Rattle.value_cert.specs.declared.finite.FiniteRow.{FiniteRow}
use Rattle.value_cert.specs.declared.line.CertLine.{CertLine}
use Rattle.value_cert.specs.declared.line.CertLine.TheVariants as line
use Rattle.value_cert.specs.declared.line.Tag.{Tag}
use Rattle.value_cert.specs.declared.line.Tag.TheVariants as tag
use Rattle.value_cert.specs.declared.place.Place.TheVariants as place

-- the positions of a period, and the periods behind it
record FiniteLines : Type 0 where
  cells : List FiniteCell
  rows : List FiniteRow

abbrev finite_told : List CertLine → FiniteLines
finite_told (line.Value at to value ∷ lines) =
    let rest = finite_told lines in
    record { cells = record { at = at; to = to; value = value } ∷ rest.cells; rows = rest.rows }
finite_told (line.Period period ∷ lines) =
    let rest = finite_told lines in
    record { cells = []; rows = record { period = unsigned_abs period; cells = rest.cells } ∷ rest.rows }
finite_told _ = record { cells = []; rows = [] }

-- the certificate that lines tell
abbrev pub finite_in : ℤ → ℤ → List CertLine → Cert
finite_in num den lines = cert.Finite (record { discount_num = unsigned_abs num; discount_den = unsigned_abs den; rows = (finite_told lines).rows })

cells_is : (cells : List FiniteCell) (lines : List CertLine)
    → finite_told (map value_line cells ++ lines) ≡ record { cells = cells ++ (finite_told lines).cells; rows = (finite_told lines).rows }
cells_is [] lines = refl
cells_is (cell ∷ cells) lines =
    let put : FiniteLines → FiniteLines = λ told. record { cells = cell ∷ told.cells; rows = told.rows } in
    ap put (cells_is cells lines)

rows_is : (rows : List FiniteRow) → finite_told (flat_map row_lines rows ++ line.End ∷ []) ≡ record { cells = []; rows = rows }
rows_is [] = refl
rows_is (row ∷ rows) =
    let behind = flat_map row_lines rows ++ line.End ∷ [] in
    let join : FiniteLines → FiniteLines = λ told. record { cells = row.cells ++ told.cells; rows = told.rows } in
    let told = ap finite_told (append_assoc (map value_line row.cells) (flat_map row_lines rows) (line.End ∷ []))
    ∙ cells_is row.cells behind ∙ ap join (rows_is rows) in
    let bare : List FiniteCell → FiniteLines = λ cells. record { cells = cells; rows = rows } in
    let put : FiniteLines → FiniteLines = λ told. record { cells = []; rows = record { period = row.period; cells = told.cells } ∷ told.rows } in
    ap put (told ∙ ap bare (append-nil row.cells))

finite_is : (c : FiniteCert) → finite_in (pos c.discount_num) (pos c.discount_den) (flat_map row_lines c.rows ++ line.End ∷ []) ≡ cert.Finite c
finite_is c =
    let put : FiniteLines → Cert = λ told. cert.Finite (record { discount_num = c.discount_num; discount_den = c.discount_den; rows = told.rows }) in
    ap put (rows_is c.rows)

values_walk : (cells : List FiniteCell) (rest : List CertLine)
    → walk_from (Some (place.Behind kind.Finite tag.Value)) (map value_line cells ++ rest) ≡ walk_from (Some (place.Behind kind.Finite tag.Value)) rest
values_walk [] rest = refl
values_walk (cell ∷ cells) rest = values_walk cells rest

first_values_walk : (cells : List FiniteCell) → 0 < length cells → (rest : List CertLine)
    → walk_from (Some (place.Behind kind.Finite tag.Period)) (map value_line cells ++ rest) ≡ walk_from (Some (place.Behind kind.Finite tag.Value)) rest
first_values_walk [] some rest = absurd (omega (arith, some))
first_values_walk (cell ∷ cells) some rest = values_walk cells rest

rows_walk : (rows : List FiniteRow) → EachIs HasValues rows
    → has_ended (walk_from (Some (place.Behind kind.Finite tag.Value)) (flat_map row_lines rows ++ line.End ∷ [])) ≡ true
rows_walk [] each = refl
rows_walk (row ∷ rows) each =
    let rest = flat_map row_lines rows ++ line.End ∷ [] in
    ap (λ t. has_ended (walk_from (Some (place.Behind kind.Finite tag.Period)) t)) (append_assoc (map value_line row.cells) (flat_map row_lines rows) (line.End ∷ []))
    ∙ ap has_ended (first_values_walk row.cells each.0 rest) ∙ rows_walk rows each.1

first_rows_walk : (rows : List FiniteRow) → 0 < length rows → EachIs HasValues rows
    → has_ended (walk_from (Some (place.Behind kind.Finite tag.Head)) (flat_map row_lines rows ++ line.End ∷ [])) ≡ true
first_rows_walk [] some each = absurd (omega (arith, some))
first_rows_walk (row ∷ rows) some each = rows_walk (row ∷ rows) each

finite_ends : (c : FiniteCert) → HasRows c
    → has_ended (walk_from (Some (place.Behind kind.Finite tag.Head)) (flat_map row_lines c.rows ++ line.End ∷ [])) ≡ true
finite_ends c complete = first_rows_walk c.rows complete.some complete.each

-- behind a period stands a value, as may stand behind another
record BeginsValue (lines : List CertLine) : Type 0 where
  next : has_ended (place_from (Some (place.Behind kind.Finite tag.Value)) lines) ≡ true
  some : 0 < length (finite_told lines).cells

first_value : (lines : List CertLine) → has_ended (place_from (Some (place.Behind kind.Finite tag.Period)) lines) ≡ true → BeginsValue lines
first_value [] h = absurd (false≢true h)
first_value (line.Value at to value ∷ lines) h = record { next = h; some = omega arith }
first_value (x ∷ xs) h = nowhere (has_numbers x) xs h

record TellRows (lines : List CertLine) : Type 0 where
  each : EachIs HasValues (finite_told lines).rows
  is : map value_line (finite_told lines).cells ++ (flat_map row_lines (finite_told lines).rows ++ line.End ∷ []) ≡ lines

rows_back : (lines : List CertLine) → has_ended (place_from (Some (place.Behind kind.Finite tag.Value)) lines) ≡ true → TellRows lines
rows_back [] h = absurd (false≢true h)
rows_back (line.Value at to value ∷ lines) h =
    let step = stepped (has_numbers (line.Value at to value)) (Some (place.Behind kind.Finite tag.Value)) lines h in
    let rest = rows_back lines step.1 in
    record { each = rest.each; is = ap (λ t. line.Value at to value ∷ t) rest.is }
rows_back (line.Period period ∷ lines) h =
    let step = stepped (is_natural period) (Some (place.Behind kind.Finite tag.Period)) lines h in
    let told = finite_told lines in
    let begins = first_value lines step.1 in
    let rest = rows_back lines begins.next in
    let is = append_assoc (map value_line told.cells) (flat_map row_lines told.rows) (line.End ∷ []) ∙ rest.is in
    record {
      each = (begins.some, rest.each);
      is = ap (λ t. line.Period (pos (unsigned_abs period)) ∷ t) is ∙ ap (λ p. line.Period p ∷ lines) (natural_is period step.0);
    }
rows_back (line.End ∷ lines) h = record { each = tt; is = ap (λ t. line.End ∷ t) (sym (at_ended kind.Finite (λ next. refl) lines h)) }
rows_back (x ∷ xs) h = nowhere (has_numbers x) xs h

-- behind the head stands a period, as may stand behind a value
record BeginsPeriod (lines : List CertLine) : Type 0 where
  some : 0 < length (finite_told lines).rows
  each : EachIs HasValues (finite_told lines).rows
  is : flat_map row_lines (finite_told lines).rows ++ line.End ∷ [] ≡ lines

first_period : (lines : List CertLine) → has_ended (place_from (Some (place.Behind kind.Finite tag.Head)) lines) ≡ true → BeginsPeriod lines
first_period [] h = absurd (false≢true h)
first_period (line.Period period ∷ lines) h =
    let rest = rows_back (line.Period period ∷ lines) h in
    record { some = omega arith; each = rest.each; is = rest.is }
first_period (x ∷ xs) h = nowhere (has_numbers x) xs h

behind_period : HasRest (place.Behind kind.Finite tag.Period)
behind_period = record { rest = line.Value (pos 0) (pos 0) (pos 0) ∷ line.End ∷ []; ends = refl }

behind_value : HasRest (place.Behind kind.Finite tag.Value)
behind_value = record { rest = line.End ∷ []; ends = refl }

further : (last next : Tag) → finite_follows last next ≡ true → HasRest (place.Behind kind.Finite next)
further tag.Head tag.Period h = behind_period
further tag.Period tag.Value h = behind_value
further tag.Value tag.Value h = behind_value
further tag.Value tag.Period h = behind_period
further tag.Value tag.End h = record { rest = []; ends = refl }
further _ _ h = absurd (false≢true h)

pub finite_is_told : (c : FiniteCert) → IsTold (cert.Finite c) finite_in
finite_is_told c = record { is = λ complete. finite_is c; ends = finite_ends c }

pub finite_facts : KindFacts kind.Finite finite_in
finite_facts = record {
  discount = λ num den h. h;
  plain = λ num den h. refl;
  last = λ next. refl;
  first = λ num den h. record { rest = line.Period (pos 0) ∷ line.Value (pos 0) (pos 0) (pos 0) ∷ line.End ∷ []; ends = refl };
  further = further;
  tells = λ num den lines fits h.
      let numbers = discount_is num den fits in
      let begins = first_period lines h in
      record { complete = record { some = begins.some; each = begins.each }; is = cc (numbers.0, numbers.1, begins.is) };
}
