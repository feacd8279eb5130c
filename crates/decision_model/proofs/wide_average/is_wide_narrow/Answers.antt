use Rattle.std.proofs.Common.{◌≡◌, ◌≤◌, ℕ, ◌+◌, ◌^◌, ◌∙◌, max, sum, subst, sym}
use Rattle.decision_model.specs.Average.{average_cost_bound}
use Rattle.decision_model.specs.WideAverage.{wide_width}
use Rattle.decision_model.proofs.Narrow.{refused, decided}
use Rattle.decision_model.proofs.WideNarrow.{wide_weights_fit, regroup_wide}
use Rattle.decision_model.proofs.wide_average.is_wide_narrow.Goals as goal

pub returns-in_default : goal.returns-in_default
returns-in_default c =
    let average = c.args.average.now in
    refused _ _ c.max.result (wide_width average) c.total.ensures c.in_default.ensures (λ fits. subst (λ (e : ℕ). sum average.law ^ e ≤ 2 ^ 120) (sym c.max.ensures) (wide_weights_fit average c.requires fits))

pub returns : goal.returns
returns c =
    let average = c.args.average.now in
    let cost : c.from.result + c.average_cost_bound.result ≡ average.setup + average_cost_bound average = λ i. c.from.ensures i + c.average_cost_bound.ensures.bound i in
    let weights : c.in-Some.weights ≡ sum average.law ^ max (average.lead + 1) 2 = rw (c.total.ensures, c.max.ensures) at c.in-Some.ensures.1 in
    decided c.within.result _ (wide_width average) c.within.ensures (regroup_wide average _ _ _ (c.from-positions.ensures ∙ c.positions.ensures.positions) cost weights)
