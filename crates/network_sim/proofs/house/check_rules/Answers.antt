use Rattle.std.proofs.Common.{◌≡◌, ◌+◌, rules, length, map, arith, subst, refl, None}
use Rattle.network_sim.specs.Houses.{refusal_before}
use Rattle.network_sim.proofs.Refused.{next_none, next_some, refusal_stays}
use Rattle.network_sim.proofs.house.check_rules.Goals as goal

pub loop-i-init : goal.loop-i-init
loop-i-init g c = refl

pub returns-in_err-check_rule-clause-refused : goal.returns-in_err-check_rule-clause-refused
returns-in_err-check_rule-clause-refused g c =
    let handed = map (λ b. (g.dyn-1.0.entry b.vtable).1.meaning b.value) c.args.rules.now in
    let r = refusal_stays c.args.nodes.now handed (c.loop-i.i + 1) (length c.args.nodes.now) _ (let a = c.loop-i-test.true in omega arith)
    (next_some c.args.nodes.now handed c.loop-i.i _ c.loop-i.invariant c.in_err-check_rule.ensures.refused) in
    search rules

pub loop-i-preserved : goal.loop-i-preserved
loop-i-preserved g c = next_none c.args.nodes.now (map (λ b. (g.dyn-1.0.entry b.vtable).1.meaning b.value) c.args.rules.now) c.loop-i.i c.loop-i.invariant c.in_ok-check_rule.ensures.fit

pub returns-clause-fit : goal.returns-clause-fit
returns-clause-fit g c =
    let handed = map (λ b. (g.dyn-1.0.entry b.vtable).1.meaning b.value) c.args.rules.now in
    let last : c.loop-i.i ≡ length c.args.nodes.now = let a = c.loop-i-test.false in let b = c.loop-i.auto.i-end in omega arith in
    subst (λ n. refusal_before c.args.nodes.now handed n ≡ None) last c.loop-i.invariant
