-- What is proved of the text of each kind, at one of its instances.
use Rattle.std.proofs.Common.{◌≡◌, true, Some, Ok, refl}
use Rattle.decision_model.specs.declared.instance.Instance.{Instance}
use Rattle.decision_model.specs.Kind.{kind_of}
use Rattle.decision_model.specs.Valid.{IsReadable, GridFits, grid_fits, IsRegular, WidthFits, width_fits, IsValid}
use Rattle.instance_json.specs.KindText.{TextOf, read_by}
use Rattle.json_forms.specs.Keys.{has_keys}
use Rattle.instance_json.specs.Kinds.{read_as, of_kind, text_of}
use Rattle.instance_json.specs.Reads.{kind_in}
use Rattle.json_forms.proofs.Plain.{IsPlain}

pub record Proven (instance : Instance) : Type 0 where
  -- what is written says its kind, and has no float and at most six levels
  pub kind : kind_in (text_of instance).written ≡ Some (kind_of instance)
  pub plain : IsPlain 6 (text_of instance).written
  -- it is read back
  pub back : (text_of instance).typed → IsValid instance → of_kind (kind_of instance) (text_of instance).written ≡ Ok instance
  -- the rules make an instance valid
  pub regular : IsReadable instance → (text_of instance).meets → GridFits instance → IsRegular instance
  pub valid : IsRegular instance → WidthFits instance → IsValid instance
  -- a valid instance meets them
  pub readable : IsValid instance → IsReadable instance
  pub met : IsValid instance → (text_of instance).broken ≡ Ok tt
  pub grid : IsValid instance → grid_fits instance ≡ true
  pub width : IsValid instance → width_fits instance ≡ true

-- an instance is read back where its keys and its values are
pub again : {A : Type 0} (variant : A → Instance) (text : TextOf A) (a : A) → has_keys text.keys (text.written a) ≡ Ok tt → text.reading (text.written a) ≡ Ok a → read_as variant text (text.written a) ≡ Ok (variant a)
unfolding read_by
again variant text a keys values = rw (keys, values) refl
