-- What a simulator knows and holds, as functions of a network and of what its customers demand.
use Rattle.std.specs.Prelude.{◌≡◌, ℕ, suc, ◌*◌, ◌^◌, ◌<◌, ◌≤◌, List, length, map, Some, None, IsSome}
use Rattle.std.proofs.Common.{get_or}
use Rattle.network_model.specs.declared.network.Network.{Network}
use Rattle.network_model.specs.declared.network.Pause.{Pause}
use Rattle.network_model.specs.Pauses.{is_paused}
use Rattle.network_model.specs.Nodes.{node_at, top_of, IsReadableDemand}
use Rattle.node_state.specs.Holdings.{Holding}
use Rattle.node_state.specs.Totals.{Setting, Line, spec_at, demanded, orders_paused, receipts_paused, shipments_paused, IsShaped, IsLoaded}
use Rattle.node_state.specs.Table.{orders_of_run, served_of_run, setting_of, total_cost}
use Rattle.node_state.specs.Draws.{after_words, network_generator, words_of}
use Rattle.node_state.specs.Handed.{Handed}
use Rattle.node_state.specs.Stands.{at_rest}
use Rattle.network_sim.specs.declared.station.Station.{Station}
use Rattle.network_sim.specs.declared.pauses.Paused.{Paused}
use Rattle.network_sim.specs.declared.state.State.{State}
use Rattle.network_sim.specs.declared.sim.Sim.{Sim}
use Rattle.network_sim.specs.Machine.{node, station, flag_at, AreCallersOf, IsEchelonOf}
use Rattle.network_sim.specs.Supply.{AreSuppliersOf}
use Rattle.network_sim.specs.declared.errors.RuleOver.{RuleOver}
use Rattle.network_sim.specs.Houses.{rules_refusal, period_over, HaveAnswered}

-- in the first n periods no node's customers demand more than its top
abbrev pub IsFed : Setting → ℕ → Type 0
IsFed setting n = (i t : ℕ) → i < length setting.network.nodes → t < n → setting.demand i (suc t) ≤ top_of (spec_at setting i).demand

-- a station is that of node i
pub record IsStationOf (net : Network) (i : ℕ) (s : Station) : Type 0 where
  pub rule : s.rule ≡ (node_at net.nodes i).rule
  pub holding : s.holding ≡ (node_at net.nodes i).holding
  pub stockout : s.stockout ≡ (node_at net.nodes i).stockout
  pub rates : (s.holding ≤ 10 ^ 6) × (s.stockout ≤ 10 ^ 6)
  pub callers : AreCallersOf net.nodes i s.callers
  pub suppliers : AreSuppliersOf net.nodes i s.suppliers
  pub echelon : IsEchelonOf net.nodes i s.initial s.below
  pub demand : s.demand ≡ (node_at net.nodes i).demand
  pub demanded : IsReadableDemand net.periods s.demand

pub record AreStationsOf (net : Network) (stations : List Station) : Type 0 where
  pub all : length stations ≡ length net.nodes
  pub each : (i : ℕ) → i < length net.nodes → IsStationOf net i (station stations i)

-- ---- rules of the caller's own
-- they fit the network, have answered for t periods, and may answer at most these
pub record AreFit (setting : Setting) (t : ℕ) (now : List Handed) (most : List ℕ) : Type 0 where
  pub ready : rules_refusal setting.network.nodes setting.handed ≡ None
  pub answered : HaveAnswered setting t 0 now
  pub caps : most ≡ map (λ (r : Handed). r.most) setting.handed

-- ---- one period
-- the nodes hold what the network's nodes hold after period t
pub record Holds (setting : Setting) (t : ℕ) (nodes : List Holding) : Type 0 where
  pub all : length nodes ≡ length setting.network.nodes
  pub each : (k : ℕ) → k < length setting.network.nodes → node nodes k ≡ at_rest setting (orders_of_run setting) (served_of_run setting) t k

-- all that customers have demanded up to period t
pub record AreDemanded (setting : Setting) (t : ℕ) (so_far : List ℕ) : Type 0 where
  pub all : length so_far ≡ length setting.network.nodes
  pub each : (k : ℕ) → k < length setting.network.nodes → get_or so_far k 0 ≡ demanded setting k t

-- the demands of period t, each at most its node's top
pub record AreDemands (setting : Setting) (t : ℕ) (demands : List ℕ) : Type 0 where
  pub all : length demands ≡ length setting.network.nodes
  pub each : (k : ℕ) → k < length setting.network.nodes → get_or demands k 0 ≡ setting.demand k t
  pub few : (k : ℕ) → k < length setting.network.nodes → setting.demand k t ≤ top_of (spec_at setting k).demand

-- what pauses in period t
pub record ArePaused (setting : Setting) (t : ℕ) (paused : Paused) : Type 0 where
  pub all_orders : length paused.orders.items ≡ length setting.network.nodes
  pub all_receipts : length paused.receipts.items ≡ length setting.network.nodes
  pub all_shipments : length paused.shipments.items ≡ length setting.network.nodes
  pub orders : (k : ℕ) → k < length setting.network.nodes → flag_at paused.orders.items k ≡ orders_paused setting k t
  pub receipts : (k : ℕ) → k < length setting.network.nodes → flag_at paused.receipts.items k ≡ receipts_paused setting k t
  pub shipments : (k : ℕ) → k < length setting.network.nodes → flag_at paused.shipments.items k ≡ shipments_paused setting k t

-- all is at hand for period suc t
pub record IsReady (setting : Setting) (t : ℕ) (nodes : List Holding) (known : List Station) (so_far units : List ℕ) (pauses : Paused) (now : List Handed) (caps : List ℕ) : Type 0 where
  pub shaped : IsShaped setting.network.nodes
  pub loaded : IsLoaded setting.network
  pub fed : IsFed setting (suc t)
  pub left : suc t ≤ setting.network.periods
  pub holds : Holds setting t nodes
  pub stations : AreStationsOf setting.network known
  pub demanded : AreDemanded setting (suc t) so_far
  pub demands : AreDemands setting (suc t) units
  pub paused : ArePaused setting (suc t) pauses
  pub few_nodes : length setting.network.nodes ≤ 64
  pub fit : AreFit setting t now caps

pub record CanRun (nodes : List Holding) (known : List Station) (so_far units : List ℕ) (pauses : Paused) (now : List Handed) (caps : List ℕ) : Type 0 where
  pub setting : Setting
  pub played : ℕ
  pub ready : IsReady setting played nodes known so_far units pauses now caps

-- what a period leaves behind where an answer ended it
pub record IsCutShort (setting : Setting) (t : ℕ) (over : RuleOver) (now : List Handed) : Type 0 where
  pub first : period_over setting t ≡ Some over
  pub answered : HaveAnswered setting t over.node now

-- ---- the simulator
-- the state is the network's after n periods
pub record IsStateAfter (setting : Setting) (n : ℕ) (state : State) : Type 0 where
  pub shaped : IsShaped setting.network.nodes
  pub loaded : IsLoaded setting.network
  pub few_nodes : length setting.network.nodes ≤ 64
  pub few_periods : setting.network.periods ≤ 10000
  pub fed : IsFed setting n
  pub within : n ≤ setting.network.periods
  pub holds : Holds setting n state.nodes.items
  pub stations : AreStationsOf setting.network state.stations.items
  pub demanded : AreDemanded setting n state.demanded.items
  pub pauses : (what : Pause) (i t : ℕ) → is_paused state.calendar what i t ≡ is_paused setting.network.pauses what i t
  pub ordered_room : length state.ordered.items ≡ length setting.network.nodes
  pub orders_room : length state.paused.orders.items ≡ length setting.network.nodes
  pub receipts_room : length state.paused.receipts.items ≡ length setting.network.nodes
  pub shipments_room : length state.paused.shipments.items ≡ length setting.network.nodes
  pub periods : state.periods ≡ setting.network.periods
  pub played : state.played ≡ n
  pub total : state.total ≡ total_cost setting n
  pub few_total : state.total ≤ n * 2 ^ 92

-- a period is left, and these are its demands and lines enough for its row
pub record CanAdvance (state : State) (units : List ℕ) (room : List Line) (now : List Handed) (caps : List ℕ) : Type 0 where
  pub setting : Setting
  pub played : ℕ
  pub after : IsStateAfter setting played state
  pub fit : AreFit setting played now caps
  pub left : suc played ≤ setting.network.periods
  pub demands : AreDemands setting (suc played) units
  pub lines : length room ≡ length setting.network.nodes

-- ---- with rules of the caller's own; what is left of them now stands beside the simulator
-- it has run n periods and knows what they cost
pub record HasRun {I : Type 0} {D : I → Type 0} (setting : Setting) (n : ℕ) (sim : Sim I D) : Type 0 where
  pub periods : sim.state.periods ≡ setting.network.periods
  pub played : sim.state.played ≡ n
  pub total : sim.state.total ≡ total_cost setting n

-- the simulator stands for the first n periods of a network whose customers demand so much, with these rules; each rule has been asked once a period
pub record IsAfter {I : Type 0} {D : I → Type 0} (setting : Setting) (n : ℕ) (sim : Sim I D) (now : List Handed) : Type 0 where
  pub going : sim.over ≡ None
  pub state : IsStateAfter setting n sim.state
  pub drawn_room : length sim.drawn.items ≡ length setting.network.nodes
  pub caps : sim.caps.items ≡ map (λ (r : Handed). r.most) setting.handed
  pub ready : rules_refusal setting.network.nodes setting.handed ≡ None
  pub answered : HaveAnswered setting n 0 now

-- an answer ended the run in period suc n: no further one was asked for, and what was run before stays
pub record IsOver {I : Type 0} {D : I → Type 0} (setting : Setting) (n : ℕ) (over : RuleOver) (sim : Sim I D) (now : List Handed) : Type 0 where
  pub is : sim.over ≡ Some over
  pub first : period_over setting n ≡ Some over
  pub ran : HasRun setting n sim
  pub answered : HaveAnswered setting n over.node now

-- all words so far were drawn for the first n periods
pub record HasDrawn {I : Type 0} {D : I → Type 0} (net : Network) (n : ℕ) (sim : Sim I D) : Type 0 where
  pub words : sim.words ≡ after_words (network_generator net.seed) (words_of net n)

-- a period is left, these are its demands, one a node and each at most its top, and there is a line for each node
pub record CanPlay {I : Type 0} {D : I → Type 0} (sim : Sim I D) (now : List Handed) (units : List ℕ) (room : List Line) : Type 0 where
  pub setting : Setting
  pub played : ℕ
  pub after : IsAfter setting played sim now
  pub left : suc played ≤ setting.network.periods
  pub demands : AreDemands setting (suc played) units
  pub lines : length room ≡ length setting.network.nodes

-- a period is left, all so far had the network's own demands, and there is a line for each node
pub record CanDraw {I : Type 0} {D : I → Type 0} (sim : Sim I D) (now : List Handed) (room : List Line) : Type 0 where
  pub network : Network
  pub handed : List Handed
  pub played : ℕ
  pub after : IsAfter (setting_of network handed) played sim now
  pub drawn : HasDrawn network played sim
  pub left : suc played ≤ network.periods
  pub lines : length room ≡ length network.nodes

-- a run that an answer ended may be asked again, without end
abbrev pub IsEnded : {I : Type 0} → {D : I → Type 0} → Sim I D → Type 0
IsEnded sim = IsSome sim.over
