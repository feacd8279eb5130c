-- What `solve` prints of lot sizes.
use Rattle.std.specs.Prelude.{ℕ, ◌+◌, List, ◌++◌, codes, decimal, length, slice_index}
use Rattle.std.specs.List.{flat_map, range_with_len}

-- the line of a period's order, the period from 1
abbrev pub order_report : ℕ → ℕ → List ℕ
order_report period order = codes "period " ++ decimal period ++ codes " order " ++ decimal order ++ codes "\n"

-- a line for the order of each period
abbrev pub orders_report : List ℕ → List ℕ
orders_report orders = flat_map (λ place. order_report (place + 1) (slice_index orders place)) (range_with_len 0 (length orders))

-- the orders of a plan
abbrev pub plan_lines : List ℕ → List ℕ
plan_lines orders = codes "kind lots\n" ++ orders_report orders
