-- What is proved of the texts of all kinds.
use Rattle.std.proofs.Common.{◌≡◌, ℕ, List, Some, Ok, Option, refl, ap, ◌∙◌}
use Rattle.std.specs.Str.{IsUtf8}
use Rattle.std.proofs.lemmas.Str.{is_utf8-from_IsUtf8}
use Rattle.serde_json.specs.Read.{read}
use Rattle.decision_model.specs.declared.kinds.Kind.{Kind}
use Rattle.decision_model.specs.declared.instance.Instance.{Instance}
use Rattle.decision_model.specs.declared.instance.Instance.TheVariants.{News, Lots, Finite, Average, Serial, Network}
use Rattle.decision_model.specs.Valid.{IsValid}
use Rattle.instance_json.specs.Kinds.{text_of}
use Rattle.instance_json.specs.Rules.{rules_of}
use Rattle.instance_json.specs.Reads.{some_kind, instance_in, fields_in, reads}
use Rattle.instance_json.specs.Written.{instance_data}
use Rattle.instance_json.proofs.Proven.{Proven}
use Rattle.instance_json.proofs.ProvenNews.{news_proven}
use Rattle.instance_json.proofs.ProvenLots.{lots_proven}
use Rattle.instance_json.proofs.ProvenFinite.{finite_proven}
use Rattle.instance_json.proofs.ProvenAverage.{average_proven}
use Rattle.instance_json.proofs.ProvenSerial.{serial_proven}
use Rattle.instance_json.proofs.ProvenNetwork.{network_proven}

pub proven : (instance : Instance) → Proven instance
proven (News news) = news_proven news
proven (Lots lots) = lots_proven lots
proven (Finite finite) = finite_proven finite
proven (Average average) = average_proven average
proven (Serial serial) = serial_proven serial
proven (Network net) = network_proven net

-- the text of a valid instance has its fields
fields_back : (bytes : List ℕ) (instance : Instance) → IsUtf8 bytes → read bytes ≡ Some (instance_data instance) → (text_of instance).typed → IsValid instance → fields_in bytes ≡ Ok instance
unfolding fields_in
fields_back bytes instance utf8 says typed valid =
    let its = proven instance in
    let again : instance_in (instance_data instance) ≡ Ok instance = ap (λ (k : Option Kind). some_kind k (instance_data instance)) its.kind ∙ its.back typed valid in
    rw (is_utf8-from_IsUtf8 bytes utf8, says) again

rules_met : (instance : Instance) → IsValid instance → rules_of instance ≡ Ok tt
unfolding rules_of
rules_met instance valid = let its = proven instance in rw (its.met valid, its.grid valid, its.width valid) refl

-- the text of a valid instance says that instance
pub reads_back : (bytes : List ℕ) (instance : Instance) → IsUtf8 bytes → read bytes ≡ Some (instance_data instance) → (text_of instance).typed → IsValid instance → reads bytes ≡ Ok instance
unfolding reads
reads_back bytes instance utf8 says typed valid =
    let fields = fields_back bytes instance utf8 says typed valid in
    rw (fields, rules_met instance valid) refl
