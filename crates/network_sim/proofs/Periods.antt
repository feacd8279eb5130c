-- Both passes of a period, over what a simulator knows.
use Rattle.std.proofs.Common.{◌≡◌, ℕ, zero, suc, ◌+◌, ◌^◌, ◌<◌, ◌≤◌, ◌-◌, pos, ◌-ℤ◌, Bool, true, false, cond, nat_lt, List, length, ◌⊎◌, inl, inr, slice_index, refl, sym, ◌∙◌, ap, subst, arith, get_or}
use Rattle.std.proofs.Math.ListN.{set}
use Rattle.network_model.specs.Nodes.{is_echelon}
use Rattle.network_model.specs.Load.{echelon_sum, own_load, need_most}
use Rattle.network_model.specs.Shape.{is_below}
use Rattle.node_state.specs.Holdings.{Holding}
use Rattle.std.proofs.lemmas.Bool.{cases_lt, lt-ltb, le-ltb}
use Rattle.network_model.specs.declared.network.Rule.TheVariants.{House}
use Rattle.node_state.specs.Handed.{Handed, rule_at}
use Rattle.node_state.specs.Totals.{Setting, spec_at, seen, demanded, position, orders_paused, receipts_paused, shipments_paused, ask, asks, answer, order_by, IsRun}
use Rattle.node_state.specs.Table.{orders_of_run, served_of_run}
use Rattle.node_state.specs.Stands.{at_seen}
use Rattle.network_sim.specs.declared.links.Caller.{Caller}
use Rattle.network_sim.specs.declared.links.Supplier.{Supplier}
use Rattle.network_sim.specs.declared.station.Station.{Station}
use Rattle.network_sim.specs.declared.pauses.Paused.{Paused}
use Rattle.network_sim.specs.Machine.{node, station, order_at, callers_at, flag_at, sum_at, position_of, noted_node, ordered_node, ask_of, replies_of, CanOrder, IsInReach, after_orders}
use Rattle.network_sim.specs.Supply.{supplied_node, supply_down, CanSupplyDown, suppliers_at}
use Rattle.network_sim.specs.Houses.{is_named, over_of, first_over, over_by, period_over, HasAnswered, HaveAnswered}
use Rattle.network_sim.specs.Asks.{Pass, asked_in, rule_in, over_in, HasReplied, HaveReplied, HaveRules}
use Rattle.network_sim.specs.Simulated.{IsReady, Holds}
use Rattle.network_sim.proofs.Ruled.{order_same, over_same, plain_limit, echelon_plain}
use Rattle.network_sim.proofs.Answered.{Fits, fits, refused_none, named_before, most_at, had, answer_is, answered_more}
use Rattle.network_sim.proofs.Replied.{first_same}
use Rattle.network_sim.proofs.Boxes.{map_length}
use Rattle.network_sim.proofs.Loads.{echelon_demand, echelon_initial}
use Rattle.network_sim.proofs.Passes.{HaveOrdered, noted_is, pass_is, pass_can}
use Rattle.network_sim.proofs.SupplyPasses.{HaveSupplied, down_is, down_can}
use Rattle.network_sim.specs.TableRun.{table_is_run}

-- a pass looks at no node past those that it goes over
after_same : (n : ℕ) (f : ℕ → Holding → ℕ) (cs : ℕ → List Caller) (d e : ℕ → ℕ) (a b : ℕ → Bool) (ns : List Holding) →
    ((k : ℕ) → k < n → d k ≡ e k) → ((k : ℕ) → k < n → a k ≡ b k) → (i : ℕ) → i ≤ n →
    after_orders f cs d a ns i ≡ after_orders f cs e b ns i
after_same n f cs d e a b ns q s zero le = refl
after_same n f cs d e a b ns q s (suc i) le =
    λ j. set (after_same n f cs d e a b ns q s i (omega arith) j) i
    (ordered_node (f i) (after_same n f cs d e a b ns q s i (omega arith) j) i (cs i) (q i (omega arith) j) (s i (omega arith) j))

down_same : (n : ℕ) (cs : ℕ → List Supplier) (a b c d : ℕ → Bool) →
    ((k : ℕ) → k < n → a k ≡ b k) → ((k : ℕ) → k < n → c k ≡ d k) → (i : ℕ) (ns : List Holding) → i ≤ n →
    supply_down cs a c ns i ≡ supply_down cs b d ns i
down_same n cs a b c d p q zero ns le = refl
down_same n cs a b c d p q (suc i) ns le =
    ap (λ ms. supply_down cs a c ms i) (λ j. set ns i (supplied_node ns i (cs i) (p i (omega arith) j) (q i (omega arith) j)))
    ∙ down_same n cs a b c d p q i _ (omega arith)

can_down_same : (n : ℕ) (cs : ℕ → List Supplier) (a b c d : ℕ → Bool) →
    ((k : ℕ) → k < n → a k ≡ b k) → ((k : ℕ) → k < n → c k ≡ d k) → (i : ℕ) (ns : List Holding) → i ≤ n →
    CanSupplyDown cs b d ns i → CanSupplyDown cs a c ns i
can_down_same n cs a b c d p q zero ns le can = tt
can_down_same n cs a b c d p q (suc i) ns le can = (
  can.0,
  can_down_same n cs a b c d p q i (set ns i (supplied_node ns i (cs i) (a i) (c i))) (omega arith)
      (subst (λ ms. CanSupplyDown cs b d ms i) (λ j. set ns i (supplied_node ns i (cs i) (sym (p i (omega arith)) j) (sym (q i (omega arith)) j))) can.1),
)

-- sums of what is the same below n are the same
echelon_same : (setting : Setting) (i : ℕ) (f g : ℕ → ℕ) (j : ℕ) → ((k : ℕ) → k < j → f k ≡ g k) → echelon_sum setting.network.nodes i f j ≡ echelon_sum setting.network.nodes i g j
echelon_same setting i f g zero h = refl
echelon_same setting i f g (suc j) h = λ m. echelon_same setting i f g j (λ k lt. h k (omega arith)) m + cond (is_below setting.network.nodes i j) (h j (omega arith) m) 0

module _ (s : Setting) (t : ℕ) (nodes : List Holding) (known : List Station) (so_far units : List ℕ) (pauses : Paused) (now : List Handed) (caps : List ℕ) (ready : IsReady s t nodes known so_far units pauses now caps) where
  run : IsRun s (orders_of_run s) (served_of_run s)
  run = table_is_run s ready.shaped

  gone_is : (i : ℕ) → i < length s.network.nodes → sum_at (station known i).below so_far ≡ echelon_sum s.network.nodes i (λ j. demanded s j (suc t)) (suc i)
  gone_is i lt =
      (ready.stations.each i lt).echelon.places so_far
      ∙ echelon_same s i (λ j. get_or so_far j 0) (λ j. demanded s j (suc t)) (suc i) (λ k less. ready.demanded.each k (omega arith))

  -- what a station's rule looks at is the definition's
  position_at : (i : ℕ) → i < length s.network.nodes → position_of (station known i) so_far (at_seen s (orders_of_run s) (served_of_run s) t i) ≡ position s (orders_of_run s) i t
  position_at i lt =
      let e = (ready.stations.each i lt).rule in
      let a = (ready.stations.each i lt).echelon.stock in
      λ j. cond (is_echelon (e j))
      (pos (a j + orders_of_run s i t) -ℤ pos (gone_is i lt j))
      (pos ((spec_at s i).initial + orders_of_run s i t) -ℤ pos (seen s (orders_of_run s) i (suc t)))

  ask_at : (i : ℕ) → i < length s.network.nodes → ask_of (station known i) so_far (at_seen s (orders_of_run s) (served_of_run s) t i) ≡ ask s (orders_of_run s) i t
  ask_at i lt = λ j. record { position = position_at i lt j; seen = seen s (orders_of_run s) i (suc t) - seen s (orders_of_run s) i t }

  answer_at : (i : ℕ) → i < length s.network.nodes → (index cap : ℕ) → (spec_at s i).rule ≡ House index cap → replies_of now (ask s (orders_of_run s) i t) index ≡ answer s (orders_of_run s) i index t
  answer_at i lt index cap e = answer_is s (orders_of_run s) t i index (rule_at now index) (had s t now ready.fit.answered i index cap lt e)

  -- a station's order is the rule's at the definition's position
  is_order : (i : ℕ) → i < length s.network.nodes → order_at known so_far now i (at_seen s (orders_of_run s) (served_of_run s) t i) ≡ order_by (spec_at s i).rule (position s (orders_of_run s) i t) (λ index. answer s (orders_of_run s) i index t)
  is_order i lt =
      (λ j. order_by ((ready.stations.each i lt).rule j) (position_at i lt j) (replies_of now (ask_at i lt j)))
      ∙ order_same (spec_at s i).rule (position s (orders_of_run s) i t) (replies_of now (ask s (orders_of_run s) i t)) (λ index. answer s (orders_of_run s) i index t) (answer_at i lt)

  pub in_reach : (i : ℕ) → i < length nodes → IsInReach (station known i) so_far
  in_reach i less = record {
    initial = λ e. (let a = (ready.stations.each i lt).echelon.stock in let b = small e in let c = echelon_initial s (orders_of_run s) (served_of_run s) run ready.shaped ready.loaded (suc t) ready.left ready.fed i in omega arith);
    places = λ k d in_list. (let a = (ready.stations.each i lt).echelon.known k d in_list in let b = ready.demanded.all in omega arith);
    gone = λ e. (let a = gone_is i lt in let b = small e in let c = echelon_demand s (orders_of_run s) (served_of_run s) run ready.shaped ready.loaded (suc t) ready.left ready.fed (suc t) i lt (omega arith) in omega arith);
  }
    where
      lt : i < length s.network.nodes
      lt = let a = ready.holds.all in omega arith

      small : is_echelon (station known i).rule ≡ true → echelon_sum s.network.nodes i (own_load s.network) (suc i) ≤ 10 ^ 12
      small e =
          let b : is_echelon (spec_at s i).rule ≡ true = ap is_echelon (sym (ready.stations.each i lt).rule) ∙ e in
          let a = ready.loaded.light i lt in
          let c = ready.loaded.limit_is i lt ∙ plain_limit (spec_at s i).rule s.network.periods (need_most s.network i + (spec_at s i).initial) (echelon_sum s.network.nodes i (own_load s.network) (suc i)) (echelon_plain (spec_at s i).rule b) in
          let d = ap (λ x. cond x (echelon_sum s.network.nodes i (own_load s.network) (suc i)) (need_most s.network i + (spec_at s i).initial)) b in
          omega arith

  abbrev demand : ℕ → ℕ
  demand k = s.demand k (suc t)

  abbrev no_orders : ℕ → Bool
  no_orders k = orders_paused s k (suc t)

  abbrev no_receipts : ℕ → Bool
  no_receipts k = receipts_paused s k (suc t)

  abbrev no_shipments : ℕ → Bool
  no_shipments k = shipments_paused s k (suc t)

  same_orders : (i : ℕ) → i ≤ length s.network.nodes →
      after_orders (order_at known so_far now) (callers_at known) (slice_index units) (flag_at pauses.orders.items) nodes i ≡ after_orders (order_at known so_far now) (callers_at known) demand no_orders nodes i
  same_orders i le = after_same (length s.network.nodes) (order_at known so_far now) (callers_at known) (slice_index units) demand (flag_at pauses.orders.items) no_orders nodes ready.demands.each ready.paused.orders i le

  start : HaveOrdered s (orders_of_run s) (served_of_run s) run ready.shaped ready.loaded t ready.left ready.fed (order_at known so_far now) is_order (callers_at known) (λ i lt. (ready.stations.each i lt).callers) 0 nodes
  start = record { all = ready.holds.all; done = λ k less in_k. absurd (omega arith); resting = λ k more in_k. ready.holds.each k in_k }

  pub can_order : (i : ℕ) → i < length nodes →
      CanOrder (order_at known so_far now i) (after_orders (order_at known so_far now) (callers_at known) (slice_index units) (flag_at pauses.orders.items) nodes i) i (callers_at known i) (slice_index units i) (flag_at pauses.orders.items i)
  can_order i less =
      let lt : i < length s.network.nodes = let a = ready.holds.all in omega arith in
      subst (λ ns. CanOrder (order_at known so_far now i) ns i (callers_at known i) (slice_index units i) (flag_at pauses.orders.items i)) (sym (same_orders i (omega arith)))
      (subst (λ d. CanOrder (order_at known so_far now i) (after_orders (order_at known so_far now) (callers_at known) demand no_orders nodes i) i (callers_at known i) d (flag_at pauses.orders.items i)) (sym (ready.demands.each i lt))
      (subst (λ b. CanOrder (order_at known so_far now i) (after_orders (order_at known so_far now) (callers_at known) demand no_orders nodes i) i (callers_at known i) (demand i) b) (sym (ready.paused.orders i lt))
      (pass_can s (orders_of_run s) (served_of_run s) run ready.shaped ready.loaded t ready.left ready.fed (order_at known so_far now) is_order (callers_at known) (λ i lt. (ready.stations.each i lt).callers) nodes start i lt)))

  -- ---- rules of the caller's own
  abbrev pub pass : Pass
  pass = record { nodes = nodes; stations = known; demanded = so_far; demands = units; paused = pauses.orders.items; handed = now; caps = caps }

  asked_is : (i : ℕ) → i < length s.network.nodes → asked_in pass i ≡ ask s (orders_of_run s) i t
  asked_is i lt =
      (λ j. ask_of (station known i) so_far (noted_node (same_orders i (omega arith) j) i (callers_at known i) (ready.demands.each i lt j)))
      ∙ ap (ask_of (station known i) so_far)
      (noted_is s (orders_of_run s) (served_of_run s) run ready.shaped ready.loaded t ready.left ready.fed (order_at known so_far now) is_order (callers_at known) (λ i lt. (ready.stations.each i lt).callers) i lt
      (after_orders (order_at known so_far now) (callers_at known) demand no_orders nodes i)
      (pass_is s (orders_of_run s) (served_of_run s) run ready.shaped ready.loaded t ready.left ready.fed (order_at known so_far now) is_order (callers_at known) (λ i lt. (ready.stations.each i lt).callers) nodes start i (omega arith)))
      ∙ ask_at i lt

  -- the answer that ends the pass is the one that ends the period
  over_is : (i : ℕ) → i < length s.network.nodes → over_in pass i ≡ over_by s t i
  over_is i lt =
      (λ j. over_of i ((ready.stations.each i lt).rule j) (replies_of now (asked_is i lt j)) (λ index. get_or caps index 0))
      ∙ over_same i (spec_at s i).rule (replies_of now (ask s (orders_of_run s) i t)) (λ index. answer s (orders_of_run s) i index t) (λ index. get_or caps index 0) (λ index. (rule_at s.handed index).most)
      (answer_at i lt) (λ index. ap (λ xs. get_or xs index 0) ready.fit.caps ∙ most_at s.handed index)

  pub first_is : first_over (over_in pass) (length nodes) ≡ period_over s t
  first_is = ap (first_over (over_in pass)) ready.holds.all ∙ first_same (over_in pass) (over_by s t) (length s.network.nodes) over_is

  fit_at : (k index cap : ℕ) → k < length s.network.nodes → rule_in pass k ≡ House index cap → Fits s.network.nodes s.handed k index cap
  fit_at k index cap lt e =
      fits s.network.nodes s.handed k index cap (spec_at s k).rule (sym (ready.stations.each k lt).rule ∙ e)
      (refused_none s.network.nodes s.handed (length s.network.nodes) k ready.fit.ready lt)

  -- no two nodes have one rule
  apart : (j k index some other : ℕ) → k < length s.network.nodes → j < k → rule_in pass j ≡ House index some → rule_in pass k ≡ House index other → ⊥
  apart j k index some other lt less e f =
      let a = named_before s.network.nodes index some j k less (sym (ready.stations.each j (omega arith)).rule ∙ e) in
      let b = (fit_at k index other lt f).new_name in
      cc

  pub rules_fit : HaveRules pass (length nodes)
  rules_fit = record {
    caps = ap length ready.fit.caps ∙ map_length (λ (r : Handed). r.most) s.handed ∙ sym ready.fit.answered.all;
    each = λ k less. record {
      there = λ index cap e. (let a = (fit_at k index cap (let b = ready.holds.all in omega arith) e).there in let d = ready.fit.answered.all in omega arith);
      within = λ index cap e. (let a = (fit_at k index cap (let b = ready.holds.all in omega arith) e).within in let d = ap (λ xs. get_or xs index 0) ready.fit.caps ∙ most_at s.handed index in omega arith);
    };
    apart = λ j k index some other in_j in_k e f. by j k index some other (let b = ready.holds.all in omega arith) (let b = ready.holds.all in omega arith) e f (cases_lt j k) (cases_lt k j);
  }
    where
      by : (j k index some other : ℕ) → j < length s.network.nodes → k < length s.network.nodes → rule_in pass j ≡ House index some → rule_in pass k ≡ House index other → (j < k) ⊎ (k ≤ j) → (k < j) ⊎ (j ≤ k) → j ≡ k
      by j k index some other in_j in_k e f (inl less) y = absurd (apart j k index some other in_k less e f)
      by j k index some other in_j in_k e f (inr ge) (inl more) = absurd (apart k j index other some in_j more f e)
      by j k index some other in_j in_k e f (inr ge) (inr le) = omega arith

  -- each rule that was asked in the pass has answered the ask of the period
  pub answered_upto : (i : ℕ) (new : List Handed) → HaveReplied pass (length nodes) i new → HaveAnswered s t i new
  answered_upto i new h = record {
    all = h.all ∙ ready.fit.answered.all;
    each = λ k index cap lt e. by k index cap lt e (sym (sym e ∙ sym (ready.stations.each k lt).rule)) (cases_lt k i);
    unnamed = λ index none. h.unnamed index (λ k cap lt e. no_node index k cap none (let b = ready.holds.all in omega arith) e) ∙ ready.fit.answered.unnamed index none;
  }
    where
      no_node : (index k cap : ℕ) → is_named s.network.nodes index (length s.network.nodes) ≡ false → k < length s.network.nodes → rule_in pass k ≡ House index cap → ⊥
      no_node index k cap none lt e =
          let named = named_before s.network.nodes index cap k (length s.network.nodes) lt (sym (ready.stations.each k lt).rule ∙ e) in
          cc

      by : (k index cap : ℕ) → k < length s.network.nodes → (spec_at s k).rule ≡ House index cap → rule_in pass k ≡ House index cap → (k < i) ⊎ (i ≤ k) →
          HasAnswered (rule_at s.handed index) (rule_at new index) (asks s (orders_of_run s) k (cond (nat_lt k i) (suc t) t))
      by k index cap lt e f (inl less) =
          subst (λ b. HasAnswered (rule_at s.handed index) (rule_at new index) (asks s (orders_of_run s) k (cond b (suc t) t))) (sym (lt-ltb k i less))
          (answered_more (rule_at s.handed index) (rule_at now index) (rule_at new index) (asks s (orders_of_run s) k t) (ask s (orders_of_run s) k t)
          (had s t now ready.fit.answered k index cap lt e)
          (subst (λ a. HasReplied (rule_at now index) (rule_at new index) a) (asked_is k lt) (h.done k index cap less (let b = ready.holds.all in omega arith) f)))
      by k index cap lt e f (inr more) =
          subst (λ b. HasAnswered (rule_at s.handed index) (rule_at new index) (asks s (orders_of_run s) k (cond b (suc t) t))) (sym (le-ltb k i more))
          (subst (λ (r : Handed). HasAnswered (rule_at s.handed index) r (asks s (orders_of_run s) k t)) (sym (h.left k index cap more (let b = ready.holds.all in omega arith) f))
          (had s t now ready.fit.answered k index cap lt e))

  -- ---- units
  ordered : HaveSupplied s (orders_of_run s) (served_of_run s) run ready.shaped t (suppliers_at known) (λ i lt. (ready.stations.each i lt).suppliers) (length s.network.nodes)
      (after_orders (order_at known so_far now) (callers_at known) (slice_index units) (flag_at pauses.orders.items) nodes (length s.network.nodes))
  ordered =
      let h = pass_is s (orders_of_run s) (served_of_run s) run ready.shaped ready.loaded t ready.left ready.fed (order_at known so_far now) is_order (callers_at known) (λ i lt. (ready.stations.each i lt).callers) nodes start (length s.network.nodes) (omega arith) in
      let e = same_orders (length s.network.nodes) (omega arith) in
      record {
        all = ap length e ∙ h.all;
        waiting = λ k less in_k. ap (λ ns. node ns k) e ∙ h.done k less in_k;
        done = λ k more in_k. absurd (omega arith);
      }

  pub can_supply : CanSupplyDown (suppliers_at known) (flag_at pauses.receipts.items) (flag_at pauses.shipments.items)
      (after_orders (order_at known so_far now) (callers_at known) (slice_index units) (flag_at pauses.orders.items) nodes (length nodes)) (length nodes)
  can_supply =
      subst (λ n. CanSupplyDown (suppliers_at known) (flag_at pauses.receipts.items) (flag_at pauses.shipments.items) (after_orders (order_at known so_far now) (callers_at known) (slice_index units) (flag_at pauses.orders.items) nodes n) n) (sym ready.holds.all)
      (can_down_same (length s.network.nodes) (suppliers_at known) (flag_at pauses.receipts.items) no_receipts (flag_at pauses.shipments.items) no_shipments ready.paused.receipts ready.paused.shipments (length s.network.nodes) (after_orders (order_at known so_far now) (callers_at known) (slice_index units) (flag_at pauses.orders.items) nodes (length s.network.nodes)) (omega arith)
      (down_can s (orders_of_run s) (served_of_run s) run ready.shaped t (suppliers_at known) (λ i lt. (ready.stations.each i lt).suppliers) (length s.network.nodes) (after_orders (order_at known so_far now) (callers_at known) (slice_index units) (flag_at pauses.orders.items) nodes (length s.network.nodes)) (omega arith) ordered))

  pub period_holds : Holds s (suc t) (supply_down (suppliers_at known) (flag_at pauses.receipts.items) (flag_at pauses.shipments.items)
      (after_orders (order_at known so_far now) (callers_at known) (slice_index units) (flag_at pauses.orders.items) nodes (length nodes)) (length nodes))
  period_holds =
      subst (λ n. Holds s (suc t) (supply_down (suppliers_at known) (flag_at pauses.receipts.items) (flag_at pauses.shipments.items) (after_orders (order_at known so_far now) (callers_at known) (slice_index units) (flag_at pauses.orders.items) nodes n) n)) (sym ready.holds.all)
      (let h = down_is s (orders_of_run s) (served_of_run s) run ready.shaped t (suppliers_at known) (λ i lt. (ready.stations.each i lt).suppliers) (length s.network.nodes) (after_orders (order_at known so_far now) (callers_at known) (slice_index units) (flag_at pauses.orders.items) nodes (length s.network.nodes)) (omega arith) ordered in
      let e = down_same (length s.network.nodes) (suppliers_at known) (flag_at pauses.receipts.items) no_receipts (flag_at pauses.shipments.items) no_shipments ready.paused.receipts ready.paused.shipments (length s.network.nodes) (after_orders (order_at known so_far now) (callers_at known) (slice_index units) (flag_at pauses.orders.items) nodes (length s.network.nodes)) (omega arith) in
      record { all = ap length e ∙ h.all; each = λ k in_k. ap (λ ns. node ns k) e ∙ h.done k (omega arith) in_k })
