-- The cost of serving periods from one order, as it adds up.
use Rattle.std.proofs.Common.{◌≡◌, ℕ, zero, suc, ◌+◌, ◌*◌, ◌<◌, ◌≤◌, List, length, slice_index, sum, take, drop, sym, ◌∙◌, ap, arith, add-zero}
use Rattle.std.proofs.lemmas.List.{take-take, drop-take}
use Rattle.std.proofs.lemmas.List.Sums.{sum_by-take-drop, sum_by_more}
use Rattle.decision_model.specs.declared.lots.LotSize.{LotSize}
use Rattle.value_cert.specs.LotPlans.{demand_upto, holding_between, serving_cost}
use Rattle.lot_lemmas.specs.LotSums.{sum_from, sum_from-first, sum_from-last, stretch-none, stretch-first}

-- the demand of n periods from t on
abbrev pub served : LotSize → ℕ → ℕ → ℕ
served item t n = sum_from (slice_index item.demand) t n

-- what holding the demand of n periods from k on costs, ordered in t
abbrev pub held_from : LotSize → ℕ → ℕ → ℕ → ℕ
held_from item t k n = sum_from (λ j. slice_index item.demand j * holding_between item t j) k n

-- the same, ordered in the first of them
abbrev pub held : LotSize → ℕ → ℕ → ℕ
held item t n = held_from item t t n

pub served-is : (item : LotSize) (t n : ℕ) → t + n ≤ length item.demand → demand_upto item t + served item t n ≡ demand_upto item (t + n)
served-is item t zero inside = add-zero (demand_upto item t) ∙ ap (demand_upto item) (sym (add-zero t))
served-is item t (suc n) inside =
    let one_more : t + n + 1 ≡ t + suc n = omega arith in
    omega (arith, sum_from-last (slice_index item.demand) t n, served-is item t n (omega arith), sum_by_more (λ x. x) item.demand (t + n) 0 (omega arith), ap (demand_upto item) one_more)

pub serving-parts : (item : LotSize) (t k n : ℕ) → sum_from (serving_cost item t) k n ≡ slice_index item.unit t * served item k n + held_from item t k n
serving-parts item t k zero = omega arith
serving-parts item t k (suc n) =
    let unit : ℕ = slice_index item.unit t in
    let sums : unit * served item k (suc n) ≡ unit * (slice_index item.demand k + served item (k + 1) n) = ap (λ x. unit * x) (sum_from-first (slice_index item.demand) k n) in
    omega (arith, sums, sum_from-first (serving_cost item t) k n, sum_from-first (λ j. slice_index item.demand j * holding_between item t j) k n, serving-parts item t (k + 1) n)

held_from-first : (item : LotSize) (t k n : ℕ) → t < k → k + n ≤ length item.holding → held_from item t k n ≡ slice_index item.holding t * served item k n + held_from item (t + 1) k n
held_from-first item t k zero after inside = omega arith
held_from-first item t k (suc n) after inside =
    let holding : ℕ = slice_index item.holding t in
    let sums : holding * served item k (suc n) ≡ holding * (slice_index item.demand k + served item (k + 1) n) = ap (λ x. holding * x) (sum_from-first (slice_index item.demand) k n) in
    let first : slice_index item.demand k * holding_between item t k ≡ slice_index item.demand k * (holding + holding_between item (t + 1) k) = ap (λ x. slice_index item.demand k * x) (stretch-first item.holding t k after (omega arith)) in
    omega (arith, sums, first, sum_from-first (λ j. slice_index item.demand j * holding_between item t j) k n, sum_from-first (λ j. slice_index item.demand j * holding_between item (t + 1) j) k n, held_from-first item t (k + 1) n (omega arith) (omega arith))

-- from one period to the next all that is not yet served is held
pub held-first : (item : LotSize) (t n : ℕ) → t + suc n ≤ length item.holding → held item t (suc n) ≡ slice_index item.holding t * served item (t + 1) n + held item (t + 1) n
held-first item t n inside =
    let own : slice_index item.demand t * holding_between item t t ≡ slice_index item.demand t * 0 = ap (λ x. slice_index item.demand t * x) (stretch-none item.holding t) in
    omega (arith, own, sum_from-first (λ j. slice_index item.demand j * holding_between item t j) t n, held_from-first item t (t + 1) n (omega arith) (omega arith))

-- a stretch of a list behind its front
pub stretch-after : (xs : List ℕ) (t m : ℕ) → sum (take t xs) + sum (take m (drop t xs)) ≡ sum (take (t + m) xs)
stretch-after xs t m =
    ap (λ ys. sum ys + sum (take m (drop t xs))) (sym (take-take t (t + m) xs (omega arith)))
    ∙ ap (λ ys. sum (take t (take (t + m) xs)) + sum ys) (sym (drop-take t m xs))
    ∙ sum_by-take-drop (λ x. x) (take (t + m) xs) t
