-- The table of a calendar, span by span.
use Rattle.std.proofs.Common.{◌≡◌, ℕ, ◌+◌, ◌<◌, List, length, get_or, take, Bool, true, false, ◌&&◌, ◌||◌, Option, Some, None, refl, sym, ◌∙◌, ap, arith}
use Rattle.std.specs.List.{list_any, list_all}
use Rattle.std.proofs.lemmas.List.Folds.{list_any_more, list_all_more}
use Rattle.network_model.specs.declared.network.Span.{Span}
use Rattle.network_model.specs.declared.network.Pause.{Pause}
use Rattle.network_model.specs.Pauses.{holds, are_apart, no_span, overlapping_span}
use Rattle.network_model.specs.NetworkFacts.{apart_at}
use Rattle.disruption.specs.Tables.{IsTable, IsTableOf, HasOneMore}
use Rattle.disruption.proofs.TableFacts.{both, by_absurd, holds_means}

pub none_of : (found : Option ℕ) → ((place : ℕ) → found ≡ Some place → ⊥) → found ≡ None
none_of None not = refl
none_of (Some place) not = absurd (not place refl)

-- a span is apart from those in the table of the earlier ones
pub apart_new : (spans table : List Span) (i : ℕ) → overlapping_span spans ≡ None → i < length spans → IsTableOf (take i spans) table → list_all (are_apart (get_or spans i no_span)) table ≡ true
apart_new spans table i none lt of = of.each (are_apart (get_or spans i no_span)) (apart_at spans none i lt)

or_turned : (a b : Bool) → (a || b) ≡ (b || a)
or_turned true true = refl
or_turned true false = refl
or_turned false true = refl
or_turned false false = refl

and_true : (a b : Bool) → a ≡ true → b ≡ true → (a && b) ≡ true
and_true a b is also = ap (λ x. x && b) is ∙ also

or_false : (a b : Bool) → b ≡ false → (a || b) ≡ a
or_false true b e = refl
or_false false b e = e

-- one span that holds a period is put into it
pub added : (spans table after : List Span) (i : ℕ) → i < length spans → IsTableOf (take i spans) table → IsTable after → HasOneMore (get_or spans i no_span) table after → IsTableOf (take (i + 1) spans) after
added spans table after i lt of ordered more = record {
  ordered = ordered;
  alike = λ what node t. alike (holds what node t) (of.alike what node t);
  each = each;
}
  where
    alike : (p : Span → Bool) → list_any p table ≡ list_any p (take i spans) → list_any p after ≡ list_any p (take (i + 1) spans)
    alike p same =
        more.some p
        ∙ ap (λ b. p (get_or spans i no_span) || b) same
        ∙ or_turned (p (get_or spans i no_span)) (list_any p (take i spans))
        ∙ sym (list_any_more p spans i no_span lt)

    each : (p : Span → Bool) → list_all p (take (i + 1) spans) ≡ true → list_all p after ≡ true
    each p all =
        let parts = both (list_all p (take i spans)) (p (get_or spans i no_span)) (sym (list_all_more p spans i no_span lt) ∙ all) in
        more.each p ∙ and_true (p (get_or spans i no_span)) (list_all p table) parts.1 (of.each p parts.0)

-- one that holds none is left out
pub left_out : (spans table : List Span) (i : ℕ) → i < length spans → (get_or spans i no_span).to < (get_or spans i no_span).from → IsTableOf (take i spans) table → IsTableOf (take (i + 1) spans) table
left_out spans table i lt empty of = record {
  ordered = of.ordered;
  alike = λ what node t. of.alike what node t ∙ sym (or_false (list_any (holds what node t) (take i spans)) (holds what node t (get_or spans i no_span)) (holds_none what node t)) ∙ sym (list_any_more (holds what node t) spans i no_span lt);
  each = λ p all. of.each p (both (list_all p (take i spans)) (p (get_or spans i no_span)) (sym (list_all_more p spans i no_span lt) ∙ all)).0;
}
  where
    holds_none : (what : Pause) (node t : ℕ) → holds what node t (get_or spans i no_span) ≡ false
    holds_none what node t = by_absurd (holds what node t (get_or spans i no_span)) (λ e. let means = holds_means what node t (get_or spans i no_span) e in omega (arith, means.1, means.2))
