-- What is chosen at a position, of staying there and of the best order.
use Rattle.std.specs.Prelude.{ℤ, ◌+ℤ◌, ◌-ℤ◌, ◌*ℤ◌, int_lt, if◌then◌else◌, Option, None, Some}

-- the value of an order from a position, by the cost of what it leads to with the units up to there
abbrev pub order_value : ℤ → ℤ → ℤ → ℤ → ℤ
order_value setup unit at cost = cost +ℤ setup -ℤ unit *ℤ at

-- the best order where it costs less than staying
abbrev pub chosen_to : ℤ → ℤ → ℤ → ℤ → Option (ℤ × ℤ) → ℤ
chosen_to setup unit stay at None = at
chosen_to setup unit stay at (Some best) = if int_lt (order_value setup unit at best.1) stay then best.0 else at

-- its value
abbrev pub chosen_value : ℤ → ℤ → ℤ → ℤ → Option (ℤ × ℤ) → ℤ
chosen_value setup unit stay at None = stay
chosen_value setup unit stay at (Some best) = if int_lt (order_value setup unit at best.1) stay then order_value setup unit at best.1 else stay
