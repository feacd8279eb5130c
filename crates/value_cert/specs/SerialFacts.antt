-- What is proved of the certificates of serial systems.
use Rattle.std.proofs.Common.{◌≡◌, ◌<◌, List, [], ◌∷◌, ◌++◌, length, map, true, ℤ, pos, Some, refl, ap, ◌∙◌, sym, arith, append_assoc}
use Rattle.std.specs.Prelude.{unsigned_abs}
use Rattle.std.specs.List.{flat_map}
use Rattle.std.proofs.lemmas.Bool.{false≢true}
use Rattle.std.proofs.lemmas.List.{append-nil}
use Rattle.decision_model.specs.declared.kinds.Kind.TheVariants as kind
use Rattle.value_cert.specs.Contents.{EachIs}
use Rattle.value_cert.specs.Grammar.{has_numbers, place_from, has_ended}
use Rattle.value_cert.specs.GrammarFacts.{stepped, nowhere, at_ended, walk_from}
use Rattle.value_cert.specs.KindFacts.{HasRest, KindFacts, IsTold, natural_is, discount_is}
use Rattle.value_cert.specs.NumberFacts.{both}
use Rattle.value_cert.specs.Numbers.{is_natural, is_whole}
use Rattle.value_cert.specs.Serial.{part_line, echelon_lines, period_lines, serial_follows, HasParts, HasEchelons, HasPeriods}
use Rattle.value_cert.specs.declared.cert.Cert.{Cert}
use Rattle.value_cert.specs.declared.cert.Cert.TheVariants as cert
use Rattle.value_cert.specs.declared.line.CertLine.{CertLine}
use Rattle.value_cert.specs.declared.line.CertLine.TheVariants as line
use Rattle.value_cert.specs.declared.line.Tag.{Tag}
use Rattle.value_cert.specs.declared.line.Tag.TheVariants as tag
use Rattle.value_cert.specs.declared.place.Place.TheVariants as place
use Rattle.value_cert.specs.declared.serial.SerialCell.{SerialCell}
use Rattle.value_cert.specs.declared.serial.SerialCert.{SerialCert}
use Rattle.value_cert.specs.declared.serial.SerialPeriod.{SerialPeriod}
use Rattle.value_cert.specs.declared.serial.SerialRow.{SerialRow}

-- the parts of an echelon, the echelons behind it, and the periods behind these
record SerialLines : Type 0 where
  cells : List SerialCell
  rows : List SerialRow
  periods : List SerialPeriod

abbrev serial_told : List CertLine → SerialLines
serial_told (line.Part at value ∷ lines) =
    let rest = serial_told lines in
    record { cells = record { at = at; value = value } ∷ rest.cells; rows = rest.rows; periods = rest.periods }
serial_told (line.Echelon echelon level ∷ lines) =
    let rest = serial_told lines in
    record { cells = []; rows = record { echelon = unsigned_abs echelon; level = level; cells = rest.cells } ∷ rest.rows; periods = rest.periods }
serial_told (line.Period period ∷ lines) =
    let rest = serial_told lines in
    record { cells = []; rows = []; periods = record { period = unsigned_abs period; rows = rest.rows } ∷ rest.periods }
serial_told _ = record { cells = []; rows = []; periods = [] }

-- the certificate that lines tell
abbrev pub serial_in : ℤ → ℤ → List CertLine → Cert
serial_in num den lines =
    cert.Serial (record { discount_num = unsigned_abs num; discount_den = unsigned_abs den; periods = (serial_told lines).periods })

cells_is : (cells : List SerialCell) (lines : List CertLine)
    → serial_told (map part_line cells ++ lines)
    ≡ record { cells = cells ++ (serial_told lines).cells; rows = (serial_told lines).rows; periods = (serial_told lines).periods }
cells_is [] lines = refl
cells_is (cell ∷ cells) lines =
    let put : SerialLines → SerialLines = λ told. record { cells = cell ∷ told.cells; rows = told.rows; periods = told.periods } in
    ap put (cells_is cells lines)

rows_is : (rows : List SerialRow) (lines : List CertLine) (periods : List SerialPeriod)
    → serial_told lines ≡ record { cells = []; rows = []; periods = periods }
    → serial_told (flat_map echelon_lines rows ++ lines) ≡ record { cells = []; rows = rows; periods = periods }
rows_is [] lines periods h = h
rows_is (row ∷ rows) lines periods h =
    let behind = flat_map echelon_lines rows ++ lines in
    let join : SerialLines → SerialLines = λ told. record { cells = row.cells ++ told.cells; rows = told.rows; periods = told.periods } in
    let told = ap serial_told (append_assoc (map part_line row.cells) (flat_map echelon_lines rows) lines)
    ∙ cells_is row.cells behind ∙ ap join (rows_is rows lines periods h) in
    let bare : List SerialCell → SerialLines = λ cells. record { cells = cells; rows = rows; periods = periods } in
    let put : SerialLines → SerialLines = λ told.
    record { cells = []; rows = record { echelon = row.echelon; level = row.level; cells = told.cells } ∷ told.rows; periods = told.periods } in
    ap put (told ∙ ap bare (append-nil row.cells))

periods_is : (periods : List SerialPeriod) → serial_told (flat_map period_lines periods ++ line.End ∷ []) ≡ record { cells = []; rows = []; periods = periods }
periods_is [] = refl
periods_is (period ∷ periods) =
    let behind = flat_map period_lines periods ++ line.End ∷ [] in
    let told = ap serial_told (append_assoc (flat_map echelon_lines period.rows) (flat_map period_lines periods) (line.End ∷ []))
    ∙ rows_is period.rows behind periods (periods_is periods) in
    let put : SerialLines → SerialLines = λ told.
    record { cells = []; rows = []; periods = record { period = period.period; rows = told.rows } ∷ told.periods } in
    ap put told

serial_is : (c : SerialCert)
    → serial_in (pos c.discount_num) (pos c.discount_den) (flat_map period_lines c.periods ++ line.End ∷ []) ≡ cert.Serial c
serial_is c =
    let put : SerialLines → Cert = λ told. cert.Serial (record { discount_num = c.discount_num; discount_den = c.discount_den; periods = told.periods }) in
    ap put (periods_is c.periods)

parts_walk : (cells : List SerialCell) (rest : List CertLine)
    → walk_from (Some (place.Behind kind.Serial tag.Part)) (map part_line cells ++ rest) ≡ walk_from (Some (place.Behind kind.Serial tag.Part)) rest
parts_walk [] rest = refl
parts_walk (cell ∷ cells) rest = parts_walk cells rest

first_parts_walk : (cells : List SerialCell) → 0 < length cells → (rest : List CertLine)
    → walk_from (Some (place.Behind kind.Serial tag.Echelon)) (map part_line cells ++ rest) ≡ walk_from (Some (place.Behind kind.Serial tag.Part)) rest
first_parts_walk [] some rest = absurd (omega (arith, some))
first_parts_walk (cell ∷ cells) some rest = parts_walk cells rest

rows_walk : (rows : List SerialRow) → EachIs HasParts rows → (rest : List CertLine)
    → walk_from (Some (place.Behind kind.Serial tag.Part)) (flat_map echelon_lines rows ++ rest) ≡ walk_from (Some (place.Behind kind.Serial tag.Part)) rest
rows_walk [] each rest = refl
rows_walk (row ∷ rows) each rest =
    ap (walk_from (Some (place.Behind kind.Serial tag.Echelon))) (append_assoc (map part_line row.cells) (flat_map echelon_lines rows) rest)
    ∙ first_parts_walk row.cells each.0 (flat_map echelon_lines rows ++ rest) ∙ rows_walk rows each.1 rest

first_rows_walk : (rows : List SerialRow) → 0 < length rows → EachIs HasParts rows → (rest : List CertLine)
    → walk_from (Some (place.Behind kind.Serial tag.Period)) (flat_map echelon_lines rows ++ rest) ≡ walk_from (Some (place.Behind kind.Serial tag.Part)) rest
first_rows_walk [] some each rest = absurd (omega (arith, some))
first_rows_walk (row ∷ rows) some each rest = rows_walk (row ∷ rows) each rest

periods_walk : (periods : List SerialPeriod) → EachIs HasEchelons periods
    → has_ended (walk_from (Some (place.Behind kind.Serial tag.Part)) (flat_map period_lines periods ++ line.End ∷ [])) ≡ true
periods_walk [] each = refl
periods_walk (period ∷ periods) each =
    let rest = flat_map period_lines periods ++ line.End ∷ [] in
    ap (λ t. has_ended (walk_from (Some (place.Behind kind.Serial tag.Period)) t))
    (append_assoc (flat_map echelon_lines period.rows) (flat_map period_lines periods) (line.End ∷ []))
    ∙ ap has_ended (first_rows_walk period.rows each.0.some each.0.each rest) ∙ periods_walk periods each.1

first_periods_walk : (periods : List SerialPeriod) → 0 < length periods → EachIs HasEchelons periods
    → has_ended (walk_from (Some (place.Behind kind.Serial tag.Head)) (flat_map period_lines periods ++ line.End ∷ [])) ≡ true
first_periods_walk [] some each = absurd (omega (arith, some))
first_periods_walk (period ∷ periods) some each = periods_walk (period ∷ periods) each

serial_ends : (c : SerialCert) → HasPeriods c
    → has_ended (walk_from (Some (place.Behind kind.Serial tag.Head)) (flat_map period_lines c.periods ++ line.End ∷ [])) ≡ true
serial_ends c complete = first_periods_walk c.periods complete.some complete.each

-- behind an echelon stands a part, as may stand behind another
record BeginsPart (lines : List CertLine) : Type 0 where
  next : has_ended (place_from (Some (place.Behind kind.Serial tag.Part)) lines) ≡ true
  some : 0 < length (serial_told lines).cells

first_part : (lines : List CertLine) → has_ended (place_from (Some (place.Behind kind.Serial tag.Echelon)) lines) ≡ true → BeginsPart lines
first_part [] h = absurd (false≢true h)
first_part (line.Part at value ∷ lines) h = record { next = h; some = omega arith }
first_part (x ∷ xs) h = nowhere (has_numbers x) xs h

-- behind a period stands an echelon, as may stand behind a part
record BeginsEchelon (lines : List CertLine) : Type 0 where
  next : has_ended (place_from (Some (place.Behind kind.Serial tag.Part)) lines) ≡ true
  bare : (serial_told lines).cells ≡ []
  some : 0 < length (serial_told lines).rows

first_echelon : (lines : List CertLine) → has_ended (place_from (Some (place.Behind kind.Serial tag.Period)) lines) ≡ true → BeginsEchelon lines
first_echelon [] h = absurd (false≢true h)
first_echelon (line.Echelon echelon level ∷ lines) h = record { next = h; bare = refl; some = omega arith }
first_echelon (x ∷ xs) h = nowhere (has_numbers x) xs h

record TellPeriods (lines : List CertLine) : Type 0 where
  parts : EachIs HasParts (serial_told lines).rows
  echelons : EachIs HasEchelons (serial_told lines).periods
  is :
      map part_line (serial_told lines).cells
      ++ (flat_map echelon_lines (serial_told lines).rows ++ (flat_map period_lines (serial_told lines).periods ++ line.End ∷ [])) ≡ lines

periods_back : (lines : List CertLine) → has_ended (place_from (Some (place.Behind kind.Serial tag.Part)) lines) ≡ true → TellPeriods lines
periods_back [] h = absurd (false≢true h)
periods_back (line.Part at value ∷ lines) h =
    let step = stepped (has_numbers (line.Part at value)) (Some (place.Behind kind.Serial tag.Part)) lines h in
    let rest = periods_back lines step.1 in
    record { parts = rest.parts; echelons = rest.echelons; is = ap (λ t. line.Part at value ∷ t) rest.is }
periods_back (line.Echelon echelon level ∷ lines) h =
    let step = stepped (has_numbers (line.Echelon echelon level)) (Some (place.Behind kind.Serial tag.Echelon)) lines h in
    let told = serial_told lines in
    let begins = first_part lines step.1 in
    let rest = periods_back lines begins.next in
    let numbers = both (is_natural echelon) (is_whole level) step.0 in
    let is = append_assoc (map part_line told.cells) (flat_map echelon_lines told.rows) (flat_map period_lines told.periods ++ line.End ∷ []) ∙ rest.is in
    record {
      parts = (begins.some, rest.parts);
      echelons = rest.echelons;
      is = ap (λ t. line.Echelon (pos (unsigned_abs echelon)) level ∷ t) is ∙ ap (λ e. line.Echelon e level ∷ lines) (natural_is echelon numbers.0);
    }
periods_back (line.Period period ∷ lines) h =
    let step = stepped (is_natural period) (Some (place.Behind kind.Serial tag.Period)) lines h in
    let told = serial_told lines in
    let begins = first_echelon lines step.1 in
    let rest = periods_back lines begins.next in
    let behind = flat_map period_lines told.periods ++ line.End ∷ [] in
    let is = append_assoc (flat_map echelon_lines told.rows) (flat_map period_lines told.periods) (line.End ∷ [])
    ∙ ap (λ cells. map part_line cells ++ (flat_map echelon_lines told.rows ++ behind)) (sym begins.bare) ∙ rest.is in
    record {
      parts = tt;
      echelons = (record { some = begins.some; each = rest.parts }, rest.echelons);
      is = ap (λ t. line.Period (pos (unsigned_abs period)) ∷ t) is ∙ ap (λ p. line.Period p ∷ lines) (natural_is period step.0);
    }
periods_back (line.End ∷ lines) h =
    record { parts = tt; echelons = tt; is = ap (λ t. line.End ∷ t) (sym (at_ended kind.Serial (λ next. refl) lines h)) }
periods_back (x ∷ xs) h = nowhere (has_numbers x) xs h

-- behind the head stands a period, as may stand behind a part
record BeginsPeriod (lines : List CertLine) : Type 0 where
  some : 0 < length (serial_told lines).periods
  each : EachIs HasEchelons (serial_told lines).periods
  is : flat_map period_lines (serial_told lines).periods ++ line.End ∷ [] ≡ lines

first_period : (lines : List CertLine) → has_ended (place_from (Some (place.Behind kind.Serial tag.Head)) lines) ≡ true → BeginsPeriod lines
first_period [] h = absurd (false≢true h)
first_period (line.Period period ∷ lines) h =
    let rest = periods_back (line.Period period ∷ lines) h in
    record { some = omega arith; each = rest.echelons; is = rest.is }
first_period (x ∷ xs) h = nowhere (has_numbers x) xs h

behind_period : HasRest (place.Behind kind.Serial tag.Period)
behind_period = record { rest = line.Echelon (pos 0) (pos 0) ∷ line.Part (pos 0) (pos 0) ∷ line.End ∷ []; ends = refl }

behind_echelon : HasRest (place.Behind kind.Serial tag.Echelon)
behind_echelon = record { rest = line.Part (pos 0) (pos 0) ∷ line.End ∷ []; ends = refl }

behind_part : HasRest (place.Behind kind.Serial tag.Part)
behind_part = record { rest = line.End ∷ []; ends = refl }

further : (last next : Tag) → serial_follows last next ≡ true → HasRest (place.Behind kind.Serial next)
further tag.Head tag.Period h = behind_period
further tag.Period tag.Echelon h = behind_echelon
further tag.Echelon tag.Part h = behind_part
further tag.Part tag.Part h = behind_part
further tag.Part tag.Echelon h = behind_echelon
further tag.Part tag.Period h = behind_period
further tag.Part tag.End h = record { rest = []; ends = refl }
further _ _ h = absurd (false≢true h)

pub serial_is_told : (c : SerialCert) → IsTold (cert.Serial c) serial_in
serial_is_told c = record { is = λ complete. serial_is c; ends = serial_ends c }

pub serial_facts : KindFacts kind.Serial serial_in
serial_facts = record {
  discount = λ num den h. h;
  plain = λ num den h. refl;
  last = λ next. refl;
  first = λ num den h.
      record { rest = line.Period (pos 0) ∷ line.Echelon (pos 0) (pos 0) ∷ line.Part (pos 0) (pos 0) ∷ line.End ∷ []; ends = refl };
  further = further;
  tells = λ num den lines fits h.
      let numbers = discount_is num den fits in
      let begins = first_period lines h in
      record { complete = record { some = begins.some; each = begins.each }; is = cc (numbers.0, numbers.1, begins.is) };
}
