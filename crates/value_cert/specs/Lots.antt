-- The certificate of a lot plan.
use Rattle.std.specs.Prelude.{◌≡◌, ◌<◌, ℕ, List, [], ◌∷◌, ◌++◌, length, Bool, true, false, pos}
use Rattle.decision_model.specs.declared.kinds.Kind.TheVariants as kind
use Rattle.value_cert.specs.Contents.{Contents, Table}
use Rattle.value_cert.specs.Headings.{plain_heading}
use Rattle.value_cert.specs.Numbers.{is_no_discount}
use Rattle.value_cert.specs.declared.line.CertLine.{CertLine}
use Rattle.value_cert.specs.declared.line.CertLine.TheVariants.{Order, Cost}
use Rattle.value_cert.specs.declared.line.Tag.{Tag}
use Rattle.value_cert.specs.declared.line.Tag.TheVariants as tag
use Rattle.value_cert.specs.declared.lots.LotCert.{LotCert}

-- each period's order and its dual
abbrev pub order_lines : List ℕ → List ℕ → List CertLine
order_lines (order ∷ orders) (dual ∷ duals) = Order (pos order) (pos dual) ∷ order_lines orders duals
order_lines _ _ = []

-- the lines between the head and the end
abbrev pub lot_lines : LotCert → List CertLine
lot_lines c = order_lines c.orders c.duals ++ Cost (pos c.cost) ∷ []

-- the plan has some orders, and one dual an order
pub record HasOrders (c : LotCert) : Type 0 where
  pub some : 0 < length c.orders
  pub each : length c.duals ≡ length c.orders

abbrev pub lot_contents : LotCert → Contents
lot_contents c = record { head = plain_heading kind.Lots; lines = lot_lines c; complete = HasOrders c }

abbrev pub lot_follows : Tag → Tag → Bool
lot_follows tag.Head tag.Order = true
lot_follows tag.Order tag.Order = true
lot_follows tag.Order tag.Cost = true
lot_follows tag.Cost tag.End = true
lot_follows _ _ = false

abbrev pub lot_table : Table
lot_table = record { discount = is_no_discount; follows = lot_follows }
