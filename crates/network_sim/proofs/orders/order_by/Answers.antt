use Rattle.std.proofs.Common.{rules, ◌≡◌, w64, SFits, to_z, of_z, map, sym, ◌∙◌, ap, subst, arith}
use Rattle.std.proofs.lemmas.Int.{to_z-of_z}
use Rattle.node_state.specs.Handed.{rule_at, reply_to}
use Rattle.network_sim.specs.Machine.{ask_of}
use Rattle.network_sim.specs.Asks.{HasReplied}
use Rattle.network_sim.proofs.Ruled.{house_rule, house_ordered}
use Rattle.network_sim.proofs.Replied.{asked_one}
use Rattle.network_sim.proofs.Boxes.{map_length}
use Rattle.network_sim.proofs.orders.order_by.Goals as goal

pub returns-clause-order : goal.returns-clause-order
returns-clause-order g c =
    let handed = map (λ b. (g.dyn-1.0.entry b.vtable).1.meaning b.value) c.args.rules.now in
    let rule = house_rule c.args.station.now.rule c.in-Some.index (sym c.house.ensures ∙ c.in-Some.is) in
    let fits : SFits w64 c.position-position.result = search rules in
    let same : record { position = to_z w64 (of_z w64 c.position-position.result); seen = c.seen.result } ≡ ask_of c.args.station.now c.args.demanded.now c.args.node.now = λ j. record { position = (to_z-of_z w64 c.position-position.result fits ∙ c.position-position.ensures.value) j; seen = c.seen.ensures j } in
    house_ordered c.args.station.now c.args.demanded.now handed c.args.node.now c.in-Some.index rule.0 c.ask_rule-answer.result rule.1
    (c.ask_rule-answer.ensures.answer ∙ ap (λ a. reply_to (rule_at handed c.in-Some.index) a) same)
    (let a = c.requires.rule.within c.in-Some.index rule.0 rule.1 in let b = c.if-answer-cap.false in omega arith)

pub returns-clause-asked : goal.returns-clause-asked
returns-clause-asked g c =
    let before = map (λ b. (g.dyn-1.0.entry b.vtable).1.meaning b.value) c.args.rules.now in
    let now = map (λ b. (g.dyn-1.0.entry b.vtable).1.meaning b.value) c.ask_rule-answer.new.rules in
    let rule = house_rule c.args.station.now.rule c.in-Some.index (sym c.house.ensures ∙ c.in-Some.is) in
    let fits : SFits w64 c.position-position.result = search rules in
    let same : record { position = to_z w64 (of_z w64 c.position-position.result); seen = c.seen.result } ≡ ask_of c.args.station.now c.args.demanded.now c.args.node.now = λ j. record { position = (to_z-of_z w64 c.position-position.result fits ∙ c.position-position.ensures.value) j; seen = c.seen.ensures j } in
    asked_one c.args.station.now.rule c.in-Some.index rule.0 before now (ask_of c.args.station.now c.args.demanded.now c.args.node.now) rule.1
    (map_length _ c.ask_rule-answer.new.rules ∙ c.ask_rule-answer.ensures.all ∙ sym (map_length _ c.args.rules.now))
    (subst (λ a. HasReplied (rule_at before c.in-Some.index) (rule_at now c.in-Some.index) a) same c.ask_rule-answer.ensures.asked)
    c.ask_rule-answer.ensures.others
