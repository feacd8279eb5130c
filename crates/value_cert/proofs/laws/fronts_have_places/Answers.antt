use Rattle.value_cert.specs.CertFacts.{front_from_place, place_from_front, ended_is_whole, whole_ends}
use Rattle.value_cert.proofs.laws.fronts_have_places.Goals as goal

pub returns-clause-front : goal.returns-clause-front
returns-clause-front c = front_from_place

pub returns-clause-place : goal.returns-clause-place
returns-clause-place c = place_from_front

pub returns-clause-ended : goal.returns-clause-ended
returns-clause-ended c = ended_is_whole

pub returns-clause-whole : goal.returns-clause-whole
returns-clause-whole c = whole_ends
