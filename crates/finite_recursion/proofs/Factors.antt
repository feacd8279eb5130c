-- The factors of a period's costs, as they are computed.
use Rattle.std.proofs.Common.{◌≡◌, ℕ, suc, ◌-◌, ◌*◌, ◌^◌, ◌≤◌, ◌∙◌, ap, arith}
use Rattle.decision_model.specs.declared.finite.Finite.{Finite}
use Rattle.decision_model.specs.DemandLaws.{common_total}
use Rattle.value_cert.specs.FiniteValues.{scale, stock_scale}

-- one row has one before it, or is the first
pub rows_are : (rows : ℕ) → 1 ≤ rows → rows ≡ suc (rows - 1)
rows_are rows some = omega (arith, some)

-- the factor on the cost of stock
pub stock_told : (finite : Finite) (rows den total discounts weights : ℕ) → 1 ≤ rows → den ≡ finite.discount_den → total ≡ common_total finite.laws → discounts ≡ den ^ rows → weights ≡ total ^ (rows - 1) → discounts * weights ≡ stock_scale finite (rows - 1)
unfolding stock_scale
stock_told finite rows den total discounts weights some is_den is_total is_discounts is_weights =
    ap (λ k. k * weights) (is_discounts ∙ ap (λ b. b ^ rows) is_den ∙ ap (λ k. finite.discount_den ^ k) (rows_are rows some))
    ∙ ap (λ k. finite.discount_den ^ suc (rows - 1) * k) (is_weights ∙ ap (λ b. b ^ (rows - 1)) is_total)

-- a cost by the scale of a period
pub scaled_told : (finite : Finite) (rows scaled cost told : ℕ) → 1 ≤ rows → scaled ≡ scale finite rows → told ≡ cost → scaled * told ≡ scale finite (suc (rows - 1)) * cost
scaled_told finite rows scaled cost told some is_scaled is_told =
    ap (λ k. k * told) (is_scaled ∙ ap (scale finite) (rows_are rows some)) ∙ ap (λ k. scale finite (suc (rows - 1)) * k) is_told
