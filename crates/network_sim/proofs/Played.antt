-- What a simulator holds once it has run a period.
use Rattle.std.proofs.Common.{◌≡◌, ℕ, zero, suc, ◌+◌, ◌-◌, ◌*◌, ◌^◌, ◌<◌, ◌≤◌, List, [], ◌∷◌, length, slice_index, sym, ◌∙◌, ap, subst, arith, get_or, ◌⊎◌, inl, inr}
use Rattle.std.proofs.lemmas.Bool.{cases_lt}
use Rattle.network_model.specs.declared.network.NodeSpec.{NodeSpec}
use Rattle.network_model.specs.Nodes.{top_of}
use Rattle.network_model.specs.Pauses.{is_paused}
use Rattle.network_model.specs.declared.network.Pause.TheVariants.{Orders, Shipments, Receipts}
use Rattle.node_state.specs.Handed.{Handed}
use Rattle.node_state.specs.Holdings.{Holding, total_due}
use Rattle.node_state.specs.Totals.{Setting, Line, spec_at, line, IsRun}
use Rattle.node_state.specs.Table.{orders_of_run, served_of_run, row, lines_from, costs}
use Rattle.node_state.specs.Stands.{at_rest}
use Rattle.network_sim.specs.declared.station.Station.{Station}
use Rattle.network_sim.specs.declared.pauses.Paused.{Paused}
use Rattle.network_sim.specs.declared.state.State.{State}
use Rattle.network_sim.specs.Machine.{node, station, flag_at, no_line, line_of}
use Rattle.network_sim.specs.Simulated.{IsFed, Holds, AreDemanded, AreDemands, ArePaused, IsReady, AreStationsOf, AreFit, IsStateAfter}
use Rattle.network_sim.specs.Runs.{steady, orders_up}
use Rattle.network_sim.specs.Balance.{row_is}
use Rattle.network_sim.specs.TableRun.{table_is_run, lines_length}
use Rattle.network_sim.proofs.Lists.{same_lines}
use Rattle.network_sim.proofs.Loads.{noted_most}

line_at : (s : Setting) (t i : ℕ) (specs : List NodeSpec) (k m : ℕ) → m ≡ i + k → k < length specs → get_or (lines_from s t i specs) k no_line ≡ line s (orders_of_run s) (served_of_run s) m t
line_at s t i [] k m e lt = absurd (omega arith)
line_at s t i (x ∷ xs) zero m e lt = let same : i ≡ m = omega arith in ap (λ n. line s (orders_of_run s) (served_of_run s) n t) same
line_at s t i (x ∷ xs) (suc k) m e lt = line_at s t (suc i) xs k m (omega arith) (omega arith)

line_same : (st : Station) (ordered before : ℕ) (h at : Holding) (holding stockout : ℕ) → ordered ≡ before → h ≡ at → st.holding ≡ holding → st.stockout ≡ stockout →
    line_of st ordered h ≡ record {
      units_seen = at.seen;
      order = at.ordered - before;
      units_made = at.made;
      stock = at.stock;
      owed = at.owed;
      due = total_due at.claims;
      cost = holding * at.stock + stockout * at.owed;
    }
line_same st ordered before h at holding stockout e f p q = λ j. record {
  units_seen = (f j).seen;
  order = (f j).ordered - e j;
  units_made = (f j).made;
  stock = (f j).stock;
  owed = (f j).owed;
  due = total_due (f j).claims;
  cost = p j * (f j).stock + q j * (f j).owed;
}

module _ (s : Setting) (n : ℕ) (state : State) (after : IsStateAfter s n state) (left : suc n ≤ s.network.periods) (units : List ℕ) (given : AreDemands s (suc n) units) where
  fed_next : IsFed s (suc n)
  fed_next i t lt le = by (cases_lt t n)
    where
      by : (t < n) ⊎ (n ≤ t) → s.demand i (suc t) ≤ top_of (spec_at s i).demand
      by (inl old) = after.fed i t lt old
      by (inr new) = let same : n ≡ t = omega arith in subst (λ u. s.demand i (suc u) ≤ top_of (spec_at s i).demand) same (given.few i lt)

  pub demanded_next : (new : List ℕ) → length new ≡ length state.demanded.items → ((k : ℕ) → k < length state.demanded.items → slice_index new k ≡ slice_index state.demanded.items k + slice_index units k) →
      AreDemanded s (suc n) new
  demanded_next new e h = record {
    all = e ∙ after.demanded.all;
    each = λ k lt. (let a = h k (let b = after.demanded.all in omega arith) in let c = after.demanded.each k lt in let d = given.each k lt in omega arith);
  }

  pub paused_next : (new : Paused) →
      length new.orders.items ≡ length state.paused.orders.items →
      length new.receipts.items ≡ length state.paused.receipts.items →
      length new.shipments.items ≡ length state.paused.shipments.items →
      ((k : ℕ) → k < length state.paused.orders.items → flag_at new.orders.items k ≡ is_paused state.calendar Orders k (state.played + 1)) →
      ((k : ℕ) → k < length state.paused.receipts.items → flag_at new.receipts.items k ≡ is_paused state.calendar Receipts k (state.played + 1)) →
      ((k : ℕ) → k < length state.paused.shipments.items → flag_at new.shipments.items k ≡ is_paused state.calendar Shipments k (state.played + 1)) →
      ArePaused s (suc n) new
  paused_next new a b c d e f =
      let period : state.played + 1 ≡ suc n = (let x = after.played in omega arith) in
      record {
        all_orders = a ∙ after.orders_room;
        all_receipts = b ∙ after.receipts_room;
        all_shipments = c ∙ after.shipments_room;
        orders = λ k lt. d k (let x = after.orders_room in omega arith) ∙ after.pauses Orders k (state.played + 1) ∙ ap (λ u. is_paused s.network.pauses Orders k u) period;
        receipts = λ k lt. e k (let x = after.receipts_room in omega arith) ∙ after.pauses Receipts k (state.played + 1) ∙ ap (λ u. is_paused s.network.pauses Receipts k u) period;
        shipments = λ k lt. f k (let x = after.shipments_room in omega arith) ∙ after.pauses Shipments k (state.played + 1) ∙ ap (λ u. is_paused s.network.pauses Shipments k u) period;
      }

  pub ready : (so_far : List ℕ) (paused : Paused) → AreDemanded s (suc n) so_far → ArePaused s (suc n) paused → (now : List Handed) (caps : List ℕ) → AreFit s n now caps → IsReady s n state.nodes.items state.stations.items so_far units paused now caps
  ready so_far paused d p now caps fit = record {
    shaped = after.shaped;
    loaded = after.loaded;
    fed = fed_next;
    left = left;
    holds = after.holds;
    stations = after.stations;
    demanded = d;
    demands = given;
    paused = p;
    few_nodes = after.few_nodes;
    fit = fit;
  }

  run : IsRun s (orders_of_run s) (served_of_run s)
  run = table_is_run s after.shaped

  -- orders never fall
  pub rising : (new : List Holding) → Holds s (suc n) new → (k : ℕ) → k < length s.network.nodes → (node state.nodes.items k).ordered ≤ (node new k).ordered
  rising new h k lt =
      let a = ap (λ (x : Holding). x.ordered) (after.holds.each k lt) in
      let b = ap (λ (x : Holding). x.ordered) (h.each k lt) in
      let c = orders_up s (orders_of_run s) (served_of_run s) run after.shaped k lt n in
      omega arith

  -- the lines are those of the row
  pub row_is_written : (new : List Holding) (ordered : List ℕ) (lines : List Line) → Holds s (suc n) new →
      ((k : ℕ) → k < length s.network.nodes → slice_index ordered k ≡ (node state.nodes.items k).ordered) →
      length lines ≡ length s.network.nodes →
      ((k : ℕ) → k < length s.network.nodes → get_or lines k no_line ≡ line_of (station state.stations.items k) (slice_index ordered k) (node new k)) →
      lines ≡ row s n
  row_is_written new ordered lines h o all each =
      same_lines lines (row s n) (all ∙ sym (lines_length s n 0 s.network.nodes))
      (λ k less. (let lt : k < length s.network.nodes = omega arith in
      each k lt
      ∙ line_same (station state.stations.items k) (slice_index ordered k) (at_rest s (orders_of_run s) (served_of_run s) n k).ordered (node new k) (at_rest s (orders_of_run s) (served_of_run s) (suc n) k) (spec_at s k).holding (spec_at s k).stockout
      (o k lt ∙ ap (λ (x : Holding). x.ordered) (after.holds.each k lt)) (h.each k lt) (after.stations.each k lt).holding (after.stations.each k lt).stockout
      ∙ sym (row_is s (orders_of_run s) (served_of_run s) k (steady s (orders_of_run s) (served_of_run s) run after.shaped k lt) n)
      ∙ sym (line_at s n 0 s.network.nodes k k (omega arith) lt)))

  -- what customers have demanded stays small
  pub demand_room : (k : ℕ) → k < length state.demanded.items → slice_index state.demanded.items k + slice_index units k < 2 ^ 64
  demand_room k less =
      let lt : k < length s.network.nodes = (let a = after.demanded.all in omega arith) in
      let a = noted_most s (orders_of_run s) (served_of_run s) run after.shaped after.loaded (suc n) left fed_next (suc n) (omega arith) k lt in
      let b = after.loaded.light k lt in
      let c = after.demanded.each k lt in
      let d = given.each k lt in
      omega arith

  pub ready_now : (nodes : List Holding) (known : List Station) (so_far new : List ℕ) (paused : Paused) → nodes ≡ state.nodes.items → known ≡ state.stations.items → so_far ≡ new →
      AreDemanded s (suc n) new → ArePaused s (suc n) paused → (now : List Handed) (caps : List ℕ) → AreFit s n now caps → IsReady s n nodes known so_far units paused now caps
  ready_now nodes known so_far new paused e f g d p now caps fit =
      subst (λ ns. IsReady s n ns known so_far units paused now caps) (sym e)
      (subst (λ ks. IsReady s n state.nodes.items ks so_far units paused now caps) (sym f)
      (subst (λ xs. IsReady s n state.nodes.items state.stations.items xs units paused now caps) (sym g) (ready new paused d p now caps fit)))

  -- the simulator after the period
  pub next : (new : State) →
      Holds s (suc n) new.nodes.items →
      new.stations.items ≡ state.stations.items →
      new.calendar ≡ state.calendar →
      AreDemanded s (suc n) new.demanded.items →
      length new.ordered.items ≡ length state.ordered.items →
      ArePaused s (suc n) new.paused →
      new.periods ≡ state.periods →
      new.played ≡ state.played + 1 →
      (cost : ℕ) → cost ≡ costs (row s n) → cost ≤ 2 ^ 92 →
      new.total ≡ state.total + cost →
      IsStateAfter s (suc n) new
  next new holds stations calendar so_far ordered paused periods played cost is small total = record {
    shaped = after.shaped;
    loaded = after.loaded;
    few_nodes = after.few_nodes;
    few_periods = after.few_periods;
    fed = fed_next;
    within = left;
    holds = holds;
    stations = subst (AreStationsOf s.network) (sym stations) after.stations;
    demanded = so_far;
    pauses = λ what i t. ap (λ spans. is_paused spans what i t) calendar ∙ after.pauses what i t;
    ordered_room = ordered ∙ after.ordered_room;
    orders_room = paused.all_orders;
    receipts_room = paused.all_receipts;
    shipments_room = paused.all_shipments;
    periods = periods ∙ after.periods;
    played = (let a = after.played in omega arith);
    total = (let a = after.total in omega arith);
    few_total = (let a = after.few_total in omega arith);
  }
