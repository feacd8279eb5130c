-- What is proved of the certificates of lot plans.
use Rattle.std.proofs.Common.{◌≡◌, ℕ, ◌<◌, List, [], ◌∷◌, ◌++◌, length, true, ◌&&◌, ℤ, pos, Some, refl, ap, ◌∙◌, arith, append_assoc}
use Rattle.std.specs.Prelude.{unsigned_abs}
use Rattle.std.proofs.lemmas.Bool.{false≢true}
use Rattle.decision_model.specs.declared.kinds.Kind.TheVariants as kind
use Rattle.value_cert.specs.Grammar.{has_numbers, place_from, has_ended}
use Rattle.value_cert.specs.GrammarFacts.{stepped, nowhere, at_ended, walk_from}
use Rattle.value_cert.specs.KindFacts.{HasRest, KindFacts, IsTold, natural_is, no_discount_is, no_discount_small}
use Rattle.value_cert.specs.Lots.{order_lines, lot_lines, lot_follows, HasOrders}
use Rattle.value_cert.specs.NumberFacts.{both}
use Rattle.value_cert.specs.Numbers.{is_natural}
use Rattle.value_cert.specs.declared.cert.Cert.{Cert}
use Rattle.value_cert.specs.declared.cert.Cert.TheVariants as cert
use Rattle.value_cert.specs.declared.line.CertLine.{CertLine}
use Rattle.value_cert.specs.declared.line.CertLine.TheVariants as line
use Rattle.value_cert.specs.declared.line.Tag.{Tag}
use Rattle.value_cert.specs.declared.line.Tag.TheVariants as tag
use Rattle.value_cert.specs.declared.lots.LotCert.{LotCert}
use Rattle.value_cert.specs.declared.place.Place.TheVariants as place

-- the certificate that lines tell
abbrev lots_told : List CertLine → LotCert
lots_told (line.Order order dual ∷ lines) =
    let rest = lots_told lines in
    record { orders = unsigned_abs order ∷ rest.orders; duals = unsigned_abs dual ∷ rest.duals; cost = rest.cost }
lots_told (line.Cost cost ∷ lines) = record { orders = []; duals = []; cost = unsigned_abs cost }
lots_told _ = record { orders = []; duals = []; cost = 0 }

abbrev pub lots_in : ℤ → ℤ → List CertLine → Cert
lots_in num den lines = cert.Lots (lots_told lines)

orders_is : (orders duals : List ℕ) (cost : ℕ) → length duals ≡ length orders
    → lots_told ((order_lines orders duals ++ line.Cost (pos cost) ∷ []) ++ line.End ∷ []) ≡ record { orders = orders; duals = duals; cost = cost }
orders_is [] [] cost each = refl
orders_is [] (dual ∷ duals) cost each = absurd (omega (arith, each))
orders_is (order ∷ orders) [] cost each = absurd (omega (arith, each))
orders_is (order ∷ orders) (dual ∷ duals) cost each =
    let put : LotCert → LotCert = λ told. record { orders = order ∷ told.orders; duals = dual ∷ told.duals; cost = told.cost } in
    ap put (orders_is orders duals cost (omega (arith, each)))

lots_is : (c : LotCert) → HasOrders c → lots_in (pos 1) (pos 1) (lot_lines c ++ line.End ∷ []) ≡ cert.Lots c
lots_is c complete = ap cert.Lots (orders_is c.orders c.duals c.cost complete.each)

-- behind an order the lines of further ones lead to where they begin
orders_walk : (orders duals : List ℕ) (rest : List CertLine)
    → walk_from (Some (place.Behind kind.Lots tag.Order)) (order_lines orders duals ++ rest) ≡ walk_from (Some (place.Behind kind.Lots tag.Order)) rest
orders_walk [] duals rest = refl
orders_walk (order ∷ orders) [] rest = refl
orders_walk (order ∷ orders) (dual ∷ duals) rest = orders_walk orders duals rest

plan_ends : (orders duals : List ℕ) (cost : ℕ) → 0 < length orders → length duals ≡ length orders
    → has_ended (walk_from (Some (place.Behind kind.Lots tag.Head)) ((order_lines orders duals ++ line.Cost (pos cost) ∷ []) ++ line.End ∷ [])) ≡ true
plan_ends [] duals cost some each = absurd (omega (arith, some))
plan_ends (order ∷ orders) [] cost some each = absurd (omega (arith, each))
plan_ends (order ∷ orders) (dual ∷ duals) cost some each =
    ap (λ t. has_ended (walk_from (Some (place.Behind kind.Lots tag.Order)) t)) (append_assoc (order_lines orders duals) (line.Cost (pos cost) ∷ []) (line.End ∷ []))
    ∙ ap has_ended (orders_walk orders duals (line.Cost (pos cost) ∷ line.End ∷ []))

lots_ends : (c : LotCert) → HasOrders c → has_ended (walk_from (Some (place.Behind kind.Lots tag.Head)) (lot_lines c ++ line.End ∷ [])) ≡ true
lots_ends c complete = plan_ends c.orders c.duals c.cost complete.some complete.each

end_behind : (lines : List CertLine) → has_ended (place_from (Some (place.Behind kind.Lots tag.Cost)) lines) ≡ true → lines ≡ line.End ∷ []
end_behind [] h = absurd (false≢true h)
end_behind (line.End ∷ xs) h = ap (λ t. line.End ∷ t) (at_ended kind.Lots (λ next. refl) xs h)
end_behind (x ∷ xs) h = nowhere (has_numbers x) xs h

record TellOrders (lines : List CertLine) : Type 0 where
  each : length (lots_told lines).duals ≡ length (lots_told lines).orders
  is : lot_lines (lots_told lines) ++ line.End ∷ [] ≡ lines

orders_back : (lines : List CertLine) → has_ended (place_from (Some (place.Behind kind.Lots tag.Order)) lines) ≡ true → TellOrders lines
orders_back [] h = absurd (false≢true h)
orders_back (line.Order order dual ∷ lines) h =
    let step = stepped (is_natural order && is_natural dual) (Some (place.Behind kind.Lots tag.Order)) lines h in
    let numbers = both (is_natural order) (is_natural dual) step.0 in
    let rest = orders_back lines step.1 in
    record { each = omega (arith, rest.each); is = cc (natural_is order numbers.0, natural_is dual numbers.1, rest.is) }
orders_back (line.Cost cost ∷ lines) h =
    let step = stepped (is_natural cost) (Some (place.Behind kind.Lots tag.Cost)) lines h in
    record { each = refl; is = cc (natural_is cost step.0, end_behind lines step.1) }
orders_back (x ∷ xs) h = nowhere (has_numbers x) xs h

-- behind the head stands an order, as may stand behind another
record BeginsOrder (lines : List CertLine) : Type 0 where
  next : has_ended (place_from (Some (place.Behind kind.Lots tag.Order)) lines) ≡ true
  some : 0 < length (lots_told lines).orders

first_order : (lines : List CertLine) → has_ended (place_from (Some (place.Behind kind.Lots tag.Head)) lines) ≡ true → BeginsOrder lines
first_order [] h = absurd (false≢true h)
first_order (line.Order order dual ∷ lines) h = record { next = h; some = omega arith }
first_order (x ∷ xs) h = nowhere (has_numbers x) xs h

behind_order : HasRest (place.Behind kind.Lots tag.Order)
behind_order = record { rest = line.Cost (pos 0) ∷ line.End ∷ []; ends = refl }

further : (last next : Tag) → lot_follows last next ≡ true → HasRest (place.Behind kind.Lots next)
further tag.Head tag.Order h = behind_order
further tag.Order tag.Order h = behind_order
further tag.Order tag.Cost h = record { rest = line.End ∷ []; ends = refl }
further tag.Cost tag.End h = record { rest = []; ends = refl }
further _ _ h = absurd (false≢true h)

pub lots_is_told : (c : LotCert) → IsTold (cert.Lots c) lots_in
lots_is_told c = record { is = lots_is c; ends = lots_ends c }

pub lot_facts : KindFacts kind.Lots lots_in
lot_facts = record {
  discount = no_discount_small;
  plain = λ num den h. refl;
  last = λ next. refl;
  first = λ num den h. record { rest = line.Order (pos 0) (pos 0) ∷ line.Cost (pos 0) ∷ line.End ∷ []; ends = refl };
  further = further;
  tells = λ num den lines fits h.
      let one = no_discount_is num den fits in
      let begins = first_order lines h in
      let rest = orders_back lines begins.next in
      record { complete = record { some = begins.some; each = rest.each }; is = cc (one.0, one.1, rest.is) };
}
