use Rattle.std.proofs.Common.{◌≡◌, ℕ, ◌+◌, ◌-◌, ◌<◌, ◌≤◌, true, false, nat_lt, length, Some, slice_index, ap, sym, ◌∙◌, arith, rules}
use Rattle.std.proofs.lemmas.Bool.Decides.{nat_tests}
use Rattle.decision_model.specs.Lots.{is_speculative, speculative_period_of}
use Rattle.decision_model.proofs.Searched.{find-none, find-first}
use Rattle.decision_model.proofs.lots.speculative_period.Goals as goal

passes : (a b : ℕ) → a < b → nat_lt a b ≡ true
passes a b h = grind (arith, nat_tests)

fails : (a b : ℕ) → b ≤ a → nat_lt a b ≡ false
fails a b h = grind (arith, nat_tests)

pub returns-then-unit-period-clause-exact : goal.returns-then-unit-period-clause-exact
unfolding speculative_period_of
returns-then-unit-period-clause-exact c =
    let lots = c.args.lots.now in
    let period = c.loop-period.period in
    let after_first : 1 + (period - 1) ≡ period = omega (arith, c.loop-period.auto.period) in
    let not_last : period < length lots.unit = rw c.as_slice-unit.ensures at c.loop-period-test.true in
    let cheaper : slice_index lots.unit (period - 1) + slice_index lots.holding (period - 1) < slice_index lots.unit period = rw (c.as_slice-unit.ensures, c.as_slice-holding.ensures) at c.if-unit-period.true in
    let found : is_speculative lots (1 + (period - 1)) ≡ true = rw after_first (passes _ _ cheaper) in
    sym (find-first (is_speculative lots) 1 (period - 1) (length lots.unit - 1) (omega arith) (λ j lt. fails _ _ (c.loop-period.invariant (1 + j) (omega arith) (omega arith))) found ∙ ap Some after_first)

pub returns-clause-exact : goal.returns-clause-exact
unfolding speculative_period_of
returns-clause-exact c =
    let lots = c.args.lots.now in
    let same = c.as_slice-unit.ensures in
    let ended : length lots.unit ≤ c.loop-period.period = rw (← same) (search rules) in
    sym (find-none (is_speculative lots) 1 (length lots.unit - 1) (λ j lt. fails _ _ (c.loop-period.invariant (1 + j) (omega arith) (omega arith))))
