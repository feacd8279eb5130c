use Rattle.std.proofs.Common.{◌≡◌, ◌+◌, ◌-◌, ◌*◌, ◌^◌, ◌≤◌, ℕ, ℤ, List, pos, ◌+ℤ◌, ◌*ℤ◌, sum, take, sym, ◌∙◌, ap, subst, arith, slice_index_or}
use Rattle.std.proofs.lemmas.Nat.{mul-le}
use Rattle.std.specs.Prelude.{unsigned_abs}
use Rattle.demand_law.specs.Law.{weighted}
use Rattle.demand_law.specs.WeightedSums.{weighted_more}
use Rattle.serial_lemmas.specs.Sizes.{entry_most, weighted_within}
use Rattle.serial_recursion.specs.Rows.{row_at, value_at}
use Rattle.serial_recursion.proofs.orders.sum_demands.Goals as goal

pub add_demand-requires-clause-small : goal.add_demand-requires-clause-small
add_demand-requires-clause-small c = λ k lt.
    let f : ℕ → ℤ = λ d. value_at c.args.values.now (c.args.top + k - d) in
    subst (λ (z : ℤ). unsigned_abs z ≤ 2 ^ 120) (sym (c.loop-demand.invariant.1 k lt)) (weighted_within (2 ^ 120) c.args.weights.now f c.loop-demand.demand (λ d less. c.requires.small k d lt less))

-- the value that the demand leads to from a place
there : (values : List ℤ) (top d k : ℕ) → d ≤ top → row_at values (top - d) k ≡ value_at values (top + k - d)
there values top d k le = ap (value_at values) (omega (arith, le))

pub add_demand-requires-clause-products : goal.add_demand-requires-clause-products
add_demand-requires-clause-products c = λ k lt.
    let d = c.loop-demand.demand in
    let v = value_at c.args.values.now (c.args.top + k - d) in
    let ws = c.args.weights.now in
    let one = mul-le (slice_index_or ws d 0) (unsigned_abs v) (sum ws) (unsigned_abs v) (entry_most ws d) (omega arith) in
    subst (λ (z : ℤ). slice_index_or ws d 0 * unsigned_abs z ≤ 2 ^ 120) (sym (there c.args.values.now c.args.top d k (omega (arith, c.loop-demand-test.true, c.requires.demands)))) (omega (arith, one, c.requires.small k d lt c.loop-demand-test.true))

pub loop-demand-preserved : goal.loop-demand-preserved
loop-demand-preserved c = (
  c.add_demand.ensures.same ∙ c.loop-demand.invariant.0,
  λ k lt.
      let d = c.loop-demand.demand in
      let ws = c.args.weights.now in
      let f : ℕ → ℤ = λ d. value_at c.args.values.now (c.args.top + k - d) in
      c.add_demand.ensures.sums k lt
      ∙ ap (λ z. z +ℤ pos (slice_index_or ws d 0) *ℤ row_at c.args.values.now (c.args.top - d) k) (c.loop-demand.invariant.1 k lt)
      ∙ ap (λ z. weighted (take d ws) f +ℤ pos (slice_index_or ws d 0) *ℤ z) (there c.args.values.now c.args.top d k (omega (arith, c.loop-demand-test.true, c.requires.demands)))
      ∙ sym (weighted_more ws d f c.loop-demand-test.true),
)
