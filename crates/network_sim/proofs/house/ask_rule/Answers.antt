use Rattle.std.proofs.Common.{rules, ℕ, ℤ, List, [], ◌∷◌, map, slice_index_or, slice_set, w64, SFits, sym, ◌∙◌, ap, get_or}
use Rattle.std.proofs.lemmas.Int.{to_z-of_z}
use Rattle.node_state.specs.Handed.{rule_at}
use Rattle.network_sim.proofs.Boxes.{meant_other, asked_at}
use Rattle.network_sim.proofs.house.ask_rule.Goals as goal

pub returns-clause-answer : goal.returns-clause-answer
returns-clause-answer g c =
    let fits : SFits w64 c.args.position = search rules in
    sym (ap (λ (xs : List ℕ). get_or xs 0 0)
    (asked_at (λ b. (g.dyn-1.0.entry b.vtable).1.meaning b.value) c.args.rules.now c.args.index c.index-rules-index.result c.ask_box.new.rule (record { position = c.args.position; seen = c.args.seen }) [] c.ask_box.result c.requires.rule
    (ap (λ (p : ℤ). ((g.dyn-1.0.entry (slice_index_or c.args.rules.now c.args.index c.index-rules-index.result).vtable).1.meaning (slice_index_or c.args.rules.now c.args.index c.index-rules-index.result).value).replies (record { position = p; seen = c.args.seen } ∷ [])) (sym (to_z-of_z w64 c.args.position fits))
    ∙ c.ask_box.ensures [])))

pub returns-clause-asked : goal.returns-clause-asked
returns-clause-asked g c rest =
    let fits : SFits w64 c.args.position = search rules in
    let now = map (λ b. (g.dyn-1.0.entry b.vtable).1.meaning b.value) (slice_set c.args.rules.now c.args.index c.ask_box.new.rule) in
    asked_at (λ b. (g.dyn-1.0.entry b.vtable).1.meaning b.value) c.args.rules.now c.args.index c.index-rules-index.result c.ask_box.new.rule (record { position = c.args.position; seen = c.args.seen }) rest c.ask_box.result c.requires.rule
    (ap (λ (p : ℤ). ((g.dyn-1.0.entry (slice_index_or c.args.rules.now c.args.index c.index-rules-index.result).vtable).1.meaning (slice_index_or c.args.rules.now c.args.index c.index-rules-index.result).value).replies (record { position = p; seen = c.args.seen } ∷ rest)) (sym (to_z-of_z w64 c.args.position fits))
    ∙ c.ask_box.ensures rest)
    ∙ ap (λ n. n ∷ (rule_at now c.args.index).replies rest) (returns-clause-answer g c)

pub returns-clause-others : goal.returns-clause-others
returns-clause-others g c k ne = meant_other _ c.args.rules.now c.args.index k c.ask_box.new.rule ne
