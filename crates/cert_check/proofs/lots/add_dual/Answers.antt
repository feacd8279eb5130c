use Rattle.std.proofs.Common.{ℕ, ◌+◌, ◌-◌, ◌≡◌, sym, ◌∙◌, ap, subst, arith}
use Rattle.std.specs.Prelude.{ℤ}
use Rattle.std.proofs.lemmas.List.{length-set}
use Rattle.value_cert.specs.LotPlans.{holding_between}
use Rattle.cert_check.proofs.LotBounds.{holding_between_small, holding_small}
use Rattle.cert_check.proofs.LotCells.{IsRaised, ended_early, held_more, raised_more}
use Rattle.cert_check.proofs.lots.add_dual.Goals as goal

pub overflow_add-held : goal.overflow_add-held
overflow_add-held c =
    let item = c.args.lots.now in
    let readable = c.requires.valid.readable in
    let held = c.loop-start.invariant.held_is in
    let small = holding_between_small item readable c.loop-start.start c.args.period in
    let one = holding_small item readable (c.loop-start.start - 1) (omega (arith, c.loop-start.invariant.from)) in
    rw c.as_slice-holding.ensures (omega (arith, held, small, one))

pub cost_of_serving-cost-requires-in-loop-start-clause-held : goal.cost_of_serving-cost-requires-in-loop-start-clause-held
cost_of_serving-cost-requires-in-loop-start-clause-held c =
    let item = c.args.lots.now in
    let start = c.loop-start.start - 1 in
    let at : start + 1 ≡ c.loop-start.start = omega arith in
    let held : c.loop-start.held ≡ holding_between item (start + 1) c.args.period = c.loop-start.invariant.held_is ∙ ap (λ t. holding_between item t c.args.period) (sym at) in
    rw c.as_slice-holding.ensures (held_more item start c.args.period c.loop-start.held (omega (arith, c.loop-start.invariant.from)) (omega (arith, c.requires.valid.readable.holding_each)) held)

pub loop-start-preserved : goal.loop-start-preserved
loop-start-preserved c =
    let item = c.args.lots.now in
    let start = c.loop-start.start - 1 in
    let at : start + 1 ≡ c.loop-start.start = omega arith in
    let P : ℕ → Type 0 = λ t. IsRaised item c.args.excesses.now c.loop-start.excesses c.args.period c.args.dual t c.loop-start.held in
    let raised = raised_more item c.args.excesses.now c.loop-start.excesses c.add_excess-in-loop-start.new.excesses c.args.period c.args.dual start c.loop-start.held c.cost_of_serving-cost-in-loop-start.result
    (subst P (sym at) c.loop-start.invariant) (omega (arith, c.loop-start.auto.excesses, c.add_excess.auto.excesses, length-set {A = ℤ}, c.loop-start.invariant.from)) (omega (arith, c.requires.valid.readable.holding_each))
    c.cost_of_serving-cost-in-loop-start.ensures (sym c.add_excess-in-loop-start.ensures.passes ∙ c.if-not-add_excess-2.false)
    (rw c.if-not-add_excess-2.false at c.add_excess-in-loop-start.ensures.cells) in
    rw c.as_slice-holding.ensures raised

-- the walk ends early
pub returns-then-dual-from-clause-within : goal.returns-then-dual-from-clause-within
returns-then-dual-from-clause-within c =
    let start = c.loop-start.start - 1 in
    let at : start + 1 ≡ c.loop-start.start = omega arith in
    let P : ℕ → Type 0 = λ t. IsRaised c.args.lots.now c.args.excesses.now c.loop-start.excesses c.args.period c.args.dual t c.loop-start.held in
    λ yes. (ended_early c.args.lots.now c.requires.valid c.args.excesses.now c.loop-start.excesses c.args.period c.args.dual start c.loop-start.held c.cost_of_serving-cost-in-loop-start.result
    (subst P (sym at) c.loop-start.invariant) c.requires.period c.cost_of_serving-cost-in-loop-start.ensures (omega (arith, c.if-dual-from.true, c.from.ensures))).within

pub returns-then-dual-from-clause-cells : goal.returns-then-dual-from-clause-cells
returns-then-dual-from-clause-cells c =
    let start = c.loop-start.start - 1 in
    let at : start + 1 ≡ c.loop-start.start = omega arith in
    let P : ℕ → Type 0 = λ t. IsRaised c.args.lots.now c.args.excesses.now c.loop-start.excesses c.args.period c.args.dual t c.loop-start.held in
    λ yes. (ended_early c.args.lots.now c.requires.valid c.args.excesses.now c.loop-start.excesses c.args.period c.args.dual start c.loop-start.held c.cost_of_serving-cost-in-loop-start.result
    (subst P (sym at) c.loop-start.invariant) c.requires.period c.cost_of_serving-cost-in-loop-start.ensures (omega (arith, c.if-dual-from.true, c.from.ensures))).raised
