use Rattle.std.proofs.Common.{◌≡◌, Option, Some, None, IsSome, refl}
use Rattle.value_cert.specs.FlatFacts.{front_from_place, place_from_front, ended_is_whole, whole_ends}
use Rattle.value_cert.specs.FlatLines.{place_after}
use Rattle.value_cert.specs.declared.flat_line.FlatPlace.{FlatPlace}
use Rattle.value_cert.proofs.laws.flat_fronts_have_places.Goals as goal

some_place : (x : Option FlatPlace) (at : FlatPlace) → x ≡ Some at → IsSome x
some_place None at h = cc
some_place (Some other) at h = refl

pub returns-clause-front : goal.returns-clause-front
returns-clause-front c = front_from_place

pub returns-clause-place : goal.returns-clause-place
returns-clause-place c = λ lines front. let found = place_from_front lines front in some_place (place_after lines) found.0 found.1

pub returns-clause-ended : goal.returns-clause-ended
returns-clause-ended c = ended_is_whole

pub returns-clause-whole : goal.returns-clause-whole
returns-clause-whole c = whole_ends
