-- Which lines may stand behind one another, by the tables of the kinds.
use Rattle.std.specs.Prelude.{List, Bool, true, false, ◌&&◌, if◌then◌else◌, ℤ, Option, Some, None}
use Rattle.decision_model.specs.declared.kinds.Kind.{Kind}
use Rattle.line_text.specs.Grammar.{walk, is_end}
use Rattle.value_cert.specs.Kinds.{table_of}
use Rattle.value_cert.specs.Numbers.{is_natural, is_whole}
use Rattle.value_cert.specs.Tags.{tag_of}
use Rattle.value_cert.specs.declared.line.CertLine.{CertLine}
use Rattle.value_cert.specs.declared.line.CertLine.TheVariants as line
use Rattle.value_cert.specs.declared.line.Tag.TheVariants as tag
use Rattle.value_cert.specs.declared.place.Place.{Place}
use Rattle.value_cert.specs.declared.place.Place.TheVariants as place

-- a kind has no discount, or one that it may have
abbrev pub takes_discount : Kind → ℤ → ℤ → Bool
takes_discount kind num den = (table_of kind).discount num den

-- each number of a line is one that may stand there
abbrev pub has_numbers : CertLine → Bool
has_numbers (line.Head kind num den) = takes_discount kind num den
has_numbers (line.Level level) = is_natural level
has_numbers (line.Order order dual) = is_natural order && is_natural dual
has_numbers (line.Cost cost) = is_natural cost
has_numbers (line.Period period) = is_natural period
has_numbers (line.Value at to value) = is_whole at && is_whole to && is_natural value
has_numbers (line.Gain num den) = is_natural num && is_natural den
has_numbers (line.Pair low high) = is_whole low && is_whole high
has_numbers (line.Point at lower upper) = is_whole at && is_natural lower && is_natural upper
has_numbers (line.Echelon echelon level) = is_natural echelon && is_whole level
has_numbers (line.Part at value) = is_whole at && is_whole value
has_numbers line.End = true

-- the place behind a first line: the head of a kind
abbrev pub first_place : CertLine → Option Place
first_place (line.Head kind num den) = Some (place.Behind kind tag.Head)
first_place _ = None

-- the place behind a line that may stand at a place, its numbers aside
abbrev pub next_place : Place → CertLine → Option Place
next_place place.Start next = first_place next
next_place (place.Behind kind tag) next = if (table_of kind).follows tag (tag_of next) then Some (place.Behind kind (tag_of next)) else None

-- the place behind a line that may stand at a place
abbrev pub step_of : Place → CertLine → Option Place
step_of at next = if has_numbers next then next_place at next else None

-- the place behind lines that may stand one behind the other, the first of them at a place
abbrev pub place_from : Option Place → List CertLine → Option Place
place_from at lines = walk step_of at lines

-- the place behind lines that are the front of a certificate
abbrev pub place_after : List CertLine → Option Place
place_after lines = place_from (Some place.Start) lines

-- the place is that behind an end
abbrev pub is_ended : Place → Bool
is_ended (place.Behind kind tag.End) = true
is_ended _ = false

abbrev pub has_ended : Option Place → Bool
has_ended at = is_end is_ended at
