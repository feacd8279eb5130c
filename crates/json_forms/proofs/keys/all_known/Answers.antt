use Rattle.std.proofs.Common.{map, List, string_bytes, sym, ap, ◌∙◌}
use Rattle.json_forms.specs.Keys.{Row, row_of, all_known, each_known}
use Rattle.json_forms.proofs.Named.{member_names-members_view, each_known-unknown, each_known-known, gives_unknown}
use Rattle.json_forms.proofs.keys.all_known.Goals as goal

pub loop-key-init : goal.loop-key-init
loop-key-init c =
    let rows : List Row = map row_of c.args.rows.now in
    ap (all_known rows) (sym c.in-Some.ensures)
    ∙ ap (each_known rows) (member_names-members_view c.in-Some.members.now.entries ∙ ap (map string_bytes) (sym (c.into_iter-key-iterator.ensures.into_iter_gives ∙ c.keys-key-items.ensures.rest)))

pub returns-then-not-is_named : goal.returns-then-not-is_named
returns-then-not-is_named c =
    let rows : List Row = map row_of c.args.rows.now in
    gives_unknown _ _ _ c.unknown.ensures
    (c.loop-key.invariant ∙ ap (λ ks. each_known rows (map string_bytes ks)) c.in-Some-key.ensures.steps
    ∙ each_known-unknown rows _ _ _ c.as_str-name.ensures.value (sym c.is_named.ensures ∙ c.if-not-is_named.true))

pub loop-key-preserved : goal.loop-key-preserved
loop-key-preserved c =
    let rows : List Row = map row_of c.args.rows.now in
    c.loop-key.invariant ∙ ap (λ ks. each_known rows (map string_bytes ks)) c.in-Some-key.ensures.steps
    ∙ each_known-known rows _ _ _ c.as_str-name.ensures.value (sym c.is_named.ensures ∙ c.if-not-is_named.false)
