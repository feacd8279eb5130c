use Rattle.std.proofs.Common.{◌≡◌, suc, true, false, length, take, option_map, ap, sym, ◌∙◌, arith}
use Rattle.std.proofs.lemmas.List.{get_or_default}
use Rattle.std.specs.List.{list_all}
use Rattle.network_model.specs.Pauses.{are_apart, no_span, is_apart_at, overlapping_span}
use Rattle.network_model.proofs.Failing.{none_more, found_from_one}
use Rattle.network_model.proofs.pauses.overlapping_span.Goals as goal

pub loop-place-preserved : goal.loop-place-preserved
loop-place-preserved c =
    let spans = c.args.spans.now in
    let place = c.loop-place.place in
    let here : is_apart_at spans place ≡ true = ap (λ s. list_all (are_apart s) (take place spans)) (get_or_default spans place no_span _ c.loop-place-test.true) ∙ sym c.is_apart_from.ensures ∙ c.if-not-is_apart_from.false in
    none_more (is_apart_at spans) place c.loop-place.invariant here

pub returns-then-not-is_apart_from : goal.returns-then-not-is_apart_from
unfolding overlapping_span
returns-then-not-is_apart_from c =
    let spans = c.args.spans.now in
    let place = c.loop-place.place in
    let here : is_apart_at spans place ≡ false = ap (λ s. list_all (are_apart s) (take place spans)) (get_or_default spans place no_span _ c.loop-place-test.true) ∙ sym c.is_apart_from.ensures ∙ c.if-not-is_apart_from.true in
    sym (found_from_one (is_apart_at spans) place (length spans) c.loop-place.invariant here c.loop-place-test.true)

pub returns : goal.returns
unfolding overlapping_span
returns c =
    let ended : c.loop-place.place ≡ length c.args.spans.now = omega arith in
    sym (ap (option_map suc) (rw ended at c.loop-place.invariant))
