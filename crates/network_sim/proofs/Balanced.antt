-- What came in is held or went out; what was ordered is under way, owed, in transit, held or made.
use Rattle.std.proofs.Common.{◌≡◌, ℕ, ◌+◌, ◌-◌, ◌<◌, ◌≤◌, length, arith, get_or, All}
use Rattle.network_model.specs.declared.network.Link.{Link}
use Rattle.node_state.specs.Holdings.{total}
use Rattle.node_state.specs.Totals.{Setting, spec_at, before, stock, made, shipped, received, IsShaped}
use Rattle.node_state.specs.Table.{orders_of_run, served_of_run}
use Rattle.network_sim.specs.Steady.{IsSteady, IsSteadyLeg, received_most, least_most}
use Rattle.network_sim.specs.Runs.{steady}
use Rattle.network_sim.proofs.Loads.{earlier}
use Rattle.network_sim.specs.TableRun.{table_is_run}

steady_at : (s : Setting) (i : ℕ) → IsShaped s.network.nodes → i < length s.network.nodes → IsSteady s (orders_of_run s) (served_of_run s) i
steady_at s i shaped lt = steady s (orders_of_run s) (served_of_run s) (table_is_run s shaped) shaped i lt

pub node_balances : (s : Setting) (i t : ℕ) → IsShaped s.network.nodes → i < length s.network.nodes →
    (spec_at s i).initial + made s (orders_of_run s) (served_of_run s) i t ≡ stock s (orders_of_run s) (served_of_run s) i t + total (served_of_run s i t)
node_balances s i t shaped lt = let a = (steady_at s i shaped lt).stocked t in omega arith

pub links_balance : (s : Setting) (i t : ℕ) → IsShaped s.network.nodes → i < length s.network.nodes →
    All (λ (l : Link). orders_of_run s i t ≡ (orders_of_run s i t - orders_of_run s i (before l.order_lead t))
    + (orders_of_run s i (before l.order_lead t) - shipped s (orders_of_run s) (served_of_run s) i l t)
    + (shipped s (orders_of_run s) (served_of_run s) i l t - shipped s (orders_of_run s) (served_of_run s) i l (before l.lead t))
    + (shipped s (orders_of_run s) (served_of_run s) i l (before l.lead t) - received s (orders_of_run s) (served_of_run s) i l t)
    + (received s (orders_of_run s) (served_of_run s) i l t - made s (orders_of_run s) (served_of_run s) i t)
    + made s (orders_of_run s) (served_of_run s) i t) (spec_at s i).sources
links_balance s i t shaped lt = λ k d less.
    one (get_or (spec_at s i).sources k d) ((steady_at s i shaped lt).legs k d less) (least_most (λ l. received s (orders_of_run s) (served_of_run s) i l t) (spec_at s i).sources k d less)
  where
    one : (l : Link) → IsSteadyLeg s (orders_of_run s) (served_of_run s) i l → made s (orders_of_run s) (served_of_run s) i t ≤ received s (orders_of_run s) (served_of_run s) i l t →
        orders_of_run s i t ≡ (orders_of_run s i t - orders_of_run s i (before l.order_lead t))
        + (orders_of_run s i (before l.order_lead t) - shipped s (orders_of_run s) (served_of_run s) i l t)
        + (shipped s (orders_of_run s) (served_of_run s) i l t - shipped s (orders_of_run s) (served_of_run s) i l (before l.lead t))
        + (shipped s (orders_of_run s) (served_of_run s) i l (before l.lead t) - received s (orders_of_run s) (served_of_run s) i l t)
        + (received s (orders_of_run s) (served_of_run s) i l t - made s (orders_of_run s) (served_of_run s) i t)
        + made s (orders_of_run s) (served_of_run s) i t
    one l p few =
        let a = earlier (orders_of_run s i) (steady_at s i shaped lt).orders_up l.order_lead t in
        let b = p.shipped_most t in
        let c = earlier (shipped s (orders_of_run s) (served_of_run s) i l) p.shipped_up l.lead t in
        let d = received_most s (orders_of_run s) (served_of_run s) i l p t in
        omega arith
