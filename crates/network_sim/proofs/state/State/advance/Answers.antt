use Rattle.std.proofs.Common.{rules, map, ◌≡◌, ℕ, suc, ◌+◌, ◌<◌, ◌^◌, List, arith, length, slice_index, subst, sym, ap, ◌∙◌, refl}
use Rattle.std.proofs.lemmas.List.{with_items_is}
use Rattle.node_state.specs.Holdings.{Holding}
use Rattle.node_state.specs.Table.{costs, row}
use Rattle.network_sim.specs.Machine.{node, station, line_of}
use Rattle.network_sim.specs.Simulated.{Holds, AreDemanded}
use Rattle.network_sim.proofs.Played.{demand_room, demanded_next, paused_next, ready_now, rising, row_is_written, next}
use Rattle.network_sim.proofs.state.State.advance.Goals as goal

pub add_demands-requires-clause-few : goal.add_demands-requires-clause-few
add_demands-requires-clause-few g c =
    let q = c.requires in
    subst (λ (xs : List ℕ). (k : ℕ) → k < length xs → slice_index xs k + slice_index c.args.demands.now k < 2 ^ 64) (sym c.deref_mut-2.ensures.value)
    (demand_room q.setting q.played c.args.self.now q.after q.left c.args.demands.now q.demands)

pub run_period-requires : goal.run_period-requires
run_period-requires g c =
    let q = c.requires in
    let paused = paused_next q.setting q.played c.args.self.now q.after q.left c.args.demands.now q.demands c.note.new.self c.note.ensures.all_orders c.note.ensures.all_receipts c.note.ensures.all_shipments c.note.ensures.orders c.note.ensures.receipts c.note.ensures.shipments in
    let demanded = demanded_next q.setting q.played c.args.self.now q.after q.left c.args.demands.now q.demands c.add_demands.new.demanded (c.add_demands.ensures.all ∙ ap length c.deref_mut-2.ensures.value)
    (subst (λ (xs : List ℕ). (k : ℕ) → k < length xs → slice_index c.add_demands.new.demanded k ≡ slice_index xs k + slice_index c.args.demands.now k) c.deref_mut-2.ensures.value c.add_demands.ensures.each) in
    record {
      setting = q.setting;
      played = q.played;
      ready = ready_now q.setting q.played c.args.self.now q.after q.left c.args.demands.now q.demands c.deref_mut-3.result.now c.deref-2.result.now c.deref-3.result.now c.add_demands.new.demanded c.note.new.self
          c.deref_mut-3.ensures.value c.deref-2.ensures.value (c.deref-3.ensures.value ∙ with_items_is c.args.self.now.demanded c.add_demands.new.demanded (c.add_demands.ensures.all ∙ c.deref_mut-2.ensures.len))
          demanded paused (map (λ b. (g.dyn-1.0.entry b.vtable).1.meaning b.value) c.args.rules.now) c.args.caps.now q.fit;
    }

pub write_lines-requires-clause-rising : goal.write_lines-requires-clause-rising
write_lines-requires-clause-rising g c = λ k less.
    let q = c.requires in
    let paused = paused_next q.setting q.played c.args.self.now q.after q.left c.args.demands.now q.demands c.note.new.self c.note.ensures.all_orders c.note.ensures.all_receipts c.note.ensures.all_shipments c.note.ensures.orders c.note.ensures.receipts c.note.ensures.shipments in
    let demanded = demanded_next q.setting q.played c.args.self.now q.after q.left c.args.demands.now q.demands c.add_demands.new.demanded (c.add_demands.ensures.all ∙ ap length c.deref_mut-2.ensures.value)
    (subst (λ (xs : List ℕ). (k : ℕ) → k < length xs → slice_index c.add_demands.new.demanded k ≡ slice_index xs k + slice_index c.args.demands.now k) c.deref_mut-2.ensures.value c.add_demands.ensures.each) in
    let so_far = with_items_is c.args.self.now.demanded c.add_demands.new.demanded (c.add_demands.ensures.all ∙ c.deref_mut-2.ensures.len) in
    let holds = c.in_ok-run_period.ensures.holds q.setting q.played
    (ready_now q.setting q.played c.args.self.now q.after q.left c.args.demands.now q.demands c.deref_mut-3.result.now c.deref-2.result.now c.deref-3.result.now c.add_demands.new.demanded c.note.new.self
    c.deref_mut-3.ensures.value c.deref-2.ensures.value (c.deref-3.ensures.value ∙ so_far) demanded paused (map (λ b. (g.dyn-1.0.entry b.vtable).1.meaning b.value) c.args.rules.now) c.args.caps.now q.fit) in
    let nodes = with_items_is c.args.self.now.nodes c.run_period.new.nodes (c.in_ok-run_period.ensures.all ∙ c.deref_mut-3.ensures.len) in
    let ordered = with_items_is c.args.self.now.ordered c.note_ordered.new.ordered (c.note_ordered.ensures.all ∙ c.deref_mut.ensures.len) in
    let before : (k : ℕ) → k < length c.args.self.now.nodes.items → slice_index c.note_ordered.new.ordered k ≡ (node c.args.self.now.nodes.items k).ordered =
    subst (λ (xs : List Holding). (k : ℕ) → k < length xs → slice_index c.note_ordered.new.ordered k ≡ (node xs k).ordered) c.deref.ensures.value c.note_ordered.ensures.each in
    let lt : k < length q.setting.network.nodes = let a = holds.all in let b = ap length (c.deref-4.ensures.value ∙ nodes) in omega arith in
    let a = before k (let x = q.after.holds.all in omega arith) in
    let b = rising q.setting q.played c.args.self.now q.after q.left c.args.demands.now q.demands c.run_period.new.nodes holds k lt in
    let d = ap (λ (xs : List ℕ). slice_index xs k) (c.deref-6.ensures.value ∙ ordered) in
    let e = ap (λ (xs : List Holding). (node xs k).ordered) (c.deref-4.ensures.value ∙ nodes) in
    omega arith

pub returns-clause-row : goal.returns-clause-row
returns-clause-row g c = λ s n after fit left given.
    let paused = paused_next s n c.args.self.now after left c.args.demands.now given c.note.new.self c.note.ensures.all_orders c.note.ensures.all_receipts c.note.ensures.all_shipments c.note.ensures.orders c.note.ensures.receipts c.note.ensures.shipments in
    let demanded = demanded_next s n c.args.self.now after left c.args.demands.now given c.add_demands.new.demanded (c.add_demands.ensures.all ∙ ap length c.deref_mut-2.ensures.value)
    (subst (λ (xs : List ℕ). (k : ℕ) → k < length xs → slice_index c.add_demands.new.demanded k ≡ slice_index xs k + slice_index c.args.demands.now k) c.deref_mut-2.ensures.value c.add_demands.ensures.each) in
    let so_far = with_items_is c.args.self.now.demanded c.add_demands.new.demanded (c.add_demands.ensures.all ∙ c.deref_mut-2.ensures.len) in
    let holds = c.in_ok-run_period.ensures.holds s n
    (ready_now s n c.args.self.now after left c.args.demands.now given c.deref_mut-3.result.now c.deref-2.result.now c.deref-3.result.now c.add_demands.new.demanded c.note.new.self
    c.deref_mut-3.ensures.value c.deref-2.ensures.value (c.deref-3.ensures.value ∙ so_far) demanded paused (map (λ b. (g.dyn-1.0.entry b.vtable).1.meaning b.value) c.args.rules.now) c.args.caps.now fit) in
    let nodes = with_items_is c.args.self.now.nodes c.run_period.new.nodes (c.in_ok-run_period.ensures.all ∙ c.deref_mut-3.ensures.len) in
    let ordered = with_items_is c.args.self.now.ordered c.note_ordered.new.ordered (c.note_ordered.ensures.all ∙ c.deref_mut.ensures.len) in
    let before : (k : ℕ) → k < length c.args.self.now.nodes.items → slice_index c.note_ordered.new.ordered k ≡ (node c.args.self.now.nodes.items k).ordered =
    subst (λ (xs : List Holding). (k : ℕ) → k < length xs → slice_index c.note_ordered.new.ordered k ≡ (node xs k).ordered) c.deref.ensures.value c.note_ordered.ensures.each in
    let count = after.holds.all in
    let long : length c.write_lines.new.lines ≡ length c.args.row.now.lines.items = c.write_lines.ensures.all ∙ ap length c.deref_mut-4.ensures.value in
    let same_row : c.write_lines.new.lines ≡ row s n =
    row_is_written s n c.args.self.now after left c.args.demands.now given c.run_period.new.nodes c.note_ordered.new.ordered c.write_lines.new.lines holds
    (λ k lt. before k (omega arith))
    (let a = c.requires.lines in let b = c.requires.after.holds.all in omega arith)
    (λ k lt. c.write_lines.ensures.each k (let a = holds.all in let b = ap length (c.deref-4.ensures.value ∙ nodes) in omega arith)
    ∙ (λ j. line_of (station (c.deref-5.ensures.value j) k) (slice_index ((c.deref-6.ensures.value ∙ ordered) j) k) (node ((c.deref-4.ensures.value ∙ nodes) j) k))) in
    with_items_is c.args.row.now.lines c.write_lines.new.lines (c.write_lines.ensures.all ∙ c.deref_mut-4.ensures.len) ∙ same_row

pub returns-clause-stands : goal.returns-clause-stands
returns-clause-stands g c = λ s n after fit left given.
    let paused = paused_next s n c.args.self.now after left c.args.demands.now given c.note.new.self c.note.ensures.all_orders c.note.ensures.all_receipts c.note.ensures.all_shipments c.note.ensures.orders c.note.ensures.receipts c.note.ensures.shipments in
    let demanded = demanded_next s n c.args.self.now after left c.args.demands.now given c.add_demands.new.demanded (c.add_demands.ensures.all ∙ ap length c.deref_mut-2.ensures.value)
    (subst (λ (xs : List ℕ). (k : ℕ) → k < length xs → slice_index c.add_demands.new.demanded k ≡ slice_index xs k + slice_index c.args.demands.now k) c.deref_mut-2.ensures.value c.add_demands.ensures.each) in
    let so_far = with_items_is c.args.self.now.demanded c.add_demands.new.demanded (c.add_demands.ensures.all ∙ c.deref_mut-2.ensures.len) in
    let holds = c.in_ok-run_period.ensures.holds s n
    (ready_now s n c.args.self.now after left c.args.demands.now given c.deref_mut-3.result.now c.deref-2.result.now c.deref-3.result.now c.add_demands.new.demanded c.note.new.self
    c.deref_mut-3.ensures.value c.deref-2.ensures.value (c.deref-3.ensures.value ∙ so_far) demanded paused (map (λ b. (g.dyn-1.0.entry b.vtable).1.meaning b.value) c.args.rules.now) c.args.caps.now fit) in
    let nodes = with_items_is c.args.self.now.nodes c.run_period.new.nodes (c.in_ok-run_period.ensures.all ∙ c.deref_mut-3.ensures.len) in
    let ordered = with_items_is c.args.self.now.ordered c.note_ordered.new.ordered (c.note_ordered.ensures.all ∙ c.deref_mut.ensures.len) in
    let before : (k : ℕ) → k < length c.args.self.now.nodes.items → slice_index c.note_ordered.new.ordered k ≡ (node c.args.self.now.nodes.items k).ordered =
    subst (λ (xs : List Holding). (k : ℕ) → k < length xs → slice_index c.note_ordered.new.ordered k ≡ (node xs k).ordered) c.deref.ensures.value c.note_ordered.ensures.each in
    let count = after.holds.all in
    let long : length c.write_lines.new.lines ≡ length c.args.row.now.lines.items = c.write_lines.ensures.all ∙ ap length c.deref_mut-4.ensures.value in
    let same_row : c.write_lines.new.lines ≡ row s n =
    row_is_written s n c.args.self.now after left c.args.demands.now given c.run_period.new.nodes c.note_ordered.new.ordered c.write_lines.new.lines holds
    (λ k lt. before k (omega arith))
    (let a = c.requires.lines in let b = c.requires.after.holds.all in omega arith)
    (λ k lt. c.write_lines.ensures.each k (let a = holds.all in let b = ap length (c.deref-4.ensures.value ∙ nodes) in omega arith)
    ∙ (λ j. line_of (station (c.deref-5.ensures.value j) k) (slice_index ((c.deref-6.ensures.value ∙ ordered) j) k) (node ((c.deref-4.ensures.value ∙ nodes) j) k))) in
    let cost : c.sum_costs.result ≡ costs (row s n) = c.sum_costs.ensures.value ∙ ap costs (c.deref-7.ensures.value ∙ with_items_is c.args.row.now.lines c.write_lines.new.lines (c.write_lines.ensures.all ∙ c.deref_mut-4.ensures.len) ∙ same_row) in
    next s n c.args.self.now after left c.args.demands.now given _
    (subst (λ ns. Holds s (suc n) ns) (sym nodes) holds)
    refl
    refl
    (subst (λ xs. AreDemanded s (suc n) xs) (sym so_far) demanded)
    (ap length ordered ∙ c.note_ordered.ensures.all ∙ ap length c.deref_mut.ensures.value)
    paused
    refl
    refl
    c.sum_costs.result cost c.sum_costs.ensures.small
    refl

pub returns-clause-within : goal.returns-clause-within
returns-clause-within g c = λ s n after fit left given.
    let paused = paused_next s n c.args.self.now after left c.args.demands.now given c.note.new.self c.note.ensures.all_orders c.note.ensures.all_receipts c.note.ensures.all_shipments c.note.ensures.orders c.note.ensures.receipts c.note.ensures.shipments in
    let demanded = demanded_next s n c.args.self.now after left c.args.demands.now given c.add_demands.new.demanded (c.add_demands.ensures.all ∙ ap length c.deref_mut-2.ensures.value)
    (subst (λ (xs : List ℕ). (k : ℕ) → k < length xs → slice_index c.add_demands.new.demanded k ≡ slice_index xs k + slice_index c.args.demands.now k) c.deref_mut-2.ensures.value c.add_demands.ensures.each) in
    let so_far = with_items_is c.args.self.now.demanded c.add_demands.new.demanded (c.add_demands.ensures.all ∙ c.deref_mut-2.ensures.len) in
    c.in_ok-run_period.ensures.within s n
    (ready_now s n c.args.self.now after left c.args.demands.now given c.deref_mut-3.result.now c.deref-2.result.now c.deref-3.result.now c.add_demands.new.demanded c.note.new.self
    c.deref_mut-3.ensures.value c.deref-2.ensures.value (c.deref-3.ensures.value ∙ so_far) demanded paused (map (λ b. (g.dyn-1.0.entry b.vtable).1.meaning b.value) c.args.rules.now) c.args.caps.now fit)

pub returns-clause-answered : goal.returns-clause-answered
returns-clause-answered g c = λ s n after fit left given.
    let paused = paused_next s n c.args.self.now after left c.args.demands.now given c.note.new.self c.note.ensures.all_orders c.note.ensures.all_receipts c.note.ensures.all_shipments c.note.ensures.orders c.note.ensures.receipts c.note.ensures.shipments in
    let demanded = demanded_next s n c.args.self.now after left c.args.demands.now given c.add_demands.new.demanded (c.add_demands.ensures.all ∙ ap length c.deref_mut-2.ensures.value)
    (subst (λ (xs : List ℕ). (k : ℕ) → k < length xs → slice_index c.add_demands.new.demanded k ≡ slice_index xs k + slice_index c.args.demands.now k) c.deref_mut-2.ensures.value c.add_demands.ensures.each) in
    let so_far = with_items_is c.args.self.now.demanded c.add_demands.new.demanded (c.add_demands.ensures.all ∙ c.deref_mut-2.ensures.len) in
    c.in_ok-run_period.ensures.answered s n
    (ready_now s n c.args.self.now after left c.args.demands.now given c.deref_mut-3.result.now c.deref-2.result.now c.deref-3.result.now c.add_demands.new.demanded c.note.new.self
    c.deref_mut-3.ensures.value c.deref-2.ensures.value (c.deref-3.ensures.value ∙ so_far) demanded paused (map (λ b. (g.dyn-1.0.entry b.vtable).1.meaning b.value) c.args.rules.now) c.args.caps.now fit)

pub returns-in_err-run_period-clause-over : goal.returns-in_err-run_period-clause-over
returns-in_err-run_period-clause-over g c = λ s n after fit left given.
    let paused = paused_next s n c.args.self.now after left c.args.demands.now given c.note.new.self c.note.ensures.all_orders c.note.ensures.all_receipts c.note.ensures.all_shipments c.note.ensures.orders c.note.ensures.receipts c.note.ensures.shipments in
    let demanded = demanded_next s n c.args.self.now after left c.args.demands.now given c.add_demands.new.demanded (c.add_demands.ensures.all ∙ ap length c.deref_mut-2.ensures.value)
    (subst (λ (xs : List ℕ). (k : ℕ) → k < length xs → slice_index c.add_demands.new.demanded k ≡ slice_index xs k + slice_index c.args.demands.now k) c.deref_mut-2.ensures.value c.add_demands.ensures.each) in
    let so_far = with_items_is c.args.self.now.demanded c.add_demands.new.demanded (c.add_demands.ensures.all ∙ c.deref_mut-2.ensures.len) in
    let is = c.in_err-run_period.ensures.over s n
    (ready_now s n c.args.self.now after left c.args.demands.now given c.deref_mut-3.result.now c.deref-2.result.now c.deref-3.result.now c.add_demands.new.demanded c.note.new.self
    c.deref_mut-3.ensures.value c.deref-2.ensures.value (c.deref-3.ensures.value ∙ so_far) demanded paused (map (λ b. (g.dyn-1.0.entry b.vtable).1.meaning b.value) c.args.rules.now) c.args.caps.now fit) in
    search rules
