-- What a simulation writes, period by period.
use Rattle.std.proofs.Common.{◌≡◌, ℕ, zero, suc, ◌+◌, ◌-◌, ◌≤◌, ◌<◌, List, [], ◌++◌, length, take, Bool, true, false, if◌then◌else◌, ◌==◌, Result, Ok, Err, Some, None, OnOk, IfErr, append_assoc, refl, sym, ap, ◌∙◌, subst, arith}
use Rattle.std.specs.declared.option.Option.{Option}
use Rattle.std.specs.Io.KnownBytes.{Appends}
use Rattle.std.proofs.lemmas.Bool.Decides.{nat_tests}
use Rattle.std.proofs.lemmas.List.{append-nil}
use Rattle.std.proofs.Math.Seq.{take-append-add}
use Rattle.network_model.specs.declared.network.Network.{Network}
use Rattle.decision_model.specs.declared.instance.Instance.TheVariants as variant
use Rattle.decision_model.specs.Network.{IsValidNetwork}
use Rattle.node_state.specs.Handed.{Handed}
use Rattle.node_state.specs.Table.{network_row, network_total, setting_of, orders_of_run, served_of_run}
use Rattle.node_state.specs.Totals.{Setting, Line}
use Rattle.report_text.specs.Network.{period_lines, total_line, first_periods, table_text}
use Rattle.network_sim.specs.Houses.{period_over}
use Rattle.network_sim.specs.Simulated.{IsAfter, HasRun, CanDraw}
use Rattle.network_sim.specs.TableRun.{lines_length, row_lines, table_is_run}
use Rattle.network_sim.specs.ValidNetworks.{shaped_nodes}
use Rattle.network_sim.specs.declared.errors.RuleOver.{RuleOver}
use Rattle.network_sim.specs.declared.sim.Sim.{Sim}
use Rattle.stock_edge.specs.Causes.{AppendsPrefix}
use Rattle.stock_edge.specs.Known.{appends_more, prefix_longer, prefix_whole}
use Rattle.stock_cli.specs.Claims.{IsTable}
use Rattle.stock_cli.specs.Runs.{Run, run_of, run_text, run_further, lines_and_total, IsCut, IsCutShort, RanAll, RanPeriod, Stands, StandsForSome}
use Rattle.stock_cli.specs.declared.runs.RunErr.{RunErr}
use Rattle.stock_cli.specs.declared.runs.RunErr.TheVariants.{Over, Write, Memory}

-- ---- one period
pub can_draw : {I : Type 0} {D : I → Type 0} (net : Network) (t : ℕ) (sim : Sim I D) (now : List Handed) (lines : List Line) → StandsForSome net t sim now → t < net.periods → length lines ≡ length net.nodes → CanDraw sim now lines
can_draw net t sim now lines stands left each =
    record { network = net; handed = stands.handed; played = t; after = stands.stands.after; drawn = stands.stands.drawn; left = omega (arith, left); lines = each }

-- what was run, and what it cost
pub has_run : {I : Type 0} {D : I → Type 0} (s : Setting) (n : ℕ) (sim : Sim I D) (now : List Handed) → IsAfter s n sim now → HasRun s n sim
has_run s n sim now after = record { periods = after.state.periods; played = after.state.played; total = after.state.total }

-- the row of a period has a line for each node
pub drawn_length : (net : Network) (handed : List Handed) (t : ℕ) (lines : List Line) → lines ≡ network_row net handed t → length lines ≡ length net.nodes
drawn_length net handed t lines e = ap length e ∙ lines_length (setting_of net handed) t 0 net.nodes

-- a period that ran, by what was written of its lines
pub ran_period : {I : Type 0} {D : I → Type 0} (net : Network) (handed : List Handed) (t n : ℕ) (sim : Sim I D) (now : List Handed) (lines : List Line) (old new : Option (List ℕ)) {T : Type 0} (r : Result T RunErr) →
    Stands net handed (suc t) sim now → period_over (setting_of net handed) t ≡ None → lines ≡ network_row net handed t → n ≡ suc t →
    OnOk r (Appends old new (period_lines n net.nodes lines)) → AppendsPrefix old new (period_lines n net.nodes lines) → IfErr r IsCutShort →
    RanPeriod net handed t sim now old new r
ran_period net handed t n sim now lines old new (Ok v) stands none e same whole part short =
    let A : List ℕ → Type 0 = Appends old new in
    (stands, none, subst A ((λ j. period_lines (same j) net.nodes (e j))) whole)
ran_period net handed t n sim now lines old new (Err (Over over)) stands none e same whole part short = absurd short
ran_period net handed t n sim now lines old new (Err Write) stands none e same whole part short =
    let P : List ℕ → Type 0 = AppendsPrefix old new in
    (stands, none, subst P (λ j. period_lines (same j) net.nodes (e j)) part)
ran_period net handed t n sim now lines old new (Err Memory) stands none e same whole part short =
    let P : List ℕ → Type 0 = AppendsPrefix old new in
    (stands, none, subst P (λ j. period_lines (same j) net.nodes (e j)) part)

-- ---- how far a run goes
-- a period in which no answer is too large is run
pub run_on : (net : Network) (handed : List Handed) (t : ℕ) → run_of net handed t ≡ record { ran = t; over = None } → period_over (setting_of net handed) t ≡ None →
    run_of net handed (suc t) ≡ record { ran = suc t; over = None }
run_on net handed t here none = (λ j. run_further (here j) (here j).over t (none j))

pub run_over : (net : Network) (handed : List Handed) (t : ℕ) (over : RuleOver) → run_of net handed t ≡ record { ran = t; over = None } → period_over (setting_of net handed) t ≡ Some over →
    run_of net handed (suc t) ≡ record { ran = t; over = Some over }
run_over net handed t over here some = (λ j. run_further (here j) (here j).over t (some j))

-- a run that was ended stays so
stays_over : (net : Network) (handed : List Handed) (t n : ℕ) (over : RuleOver) (k : ℕ) → run_of net handed t ≡ record { ran = k; over = Some over } → run_of net handed (n + t) ≡ record { ran = k; over = Some over }
stays_over net handed t zero over k here =
    let R : ℕ → Type 0 = λ n. run_of net handed n ≡ record { ran = k; over = Some over } in
    let same : t ≡ 0 + t = omega arith in
    subst R same here
stays_over net handed t (suc n) over k here =
    let R : ℕ → Type 0 = λ m. run_of net handed m ≡ record { ran = k; over = Some over } in
    let before = stays_over net handed t n over k here in
    let same : suc (n + t) ≡ suc n + t = omega arith in
    subst R same (λ j. run_further (before j) (before j).over (n + t) (period_over (setting_of net handed) (n + t)))

pub over_at_end : (net : Network) (handed : List Handed) (t : ℕ) (over : RuleOver) → suc t ≤ net.periods → run_of net handed (suc t) ≡ record { ran = t; over = Some over } →
    run_of net handed net.periods ≡ record { ran = t; over = Some over }
over_at_end net handed t over le here =
    let R : ℕ → Type 0 = λ n. run_of net handed n ≡ record { ran = t; over = Some over } in
    let all : (net.periods - suc t) + suc t ≡ net.periods = omega (arith, le) in
    subst R all (stays_over net handed (suc t) (net.periods - suc t) over t here)

-- where a run that goes on after k periods has come to n periods later
pub record HasCome (k n : ℕ) (run : Run) : Type 0 where
  pub some : (over : RuleOver) → run.over ≡ Some over → (k ≤ run.ran) × (run.ran < n)

further : (run : Run) (before next : Option RuleOver) (k n : ℕ) → run.over ≡ before → k ≤ n → HasCome k n run → HasCome k (suc n) (run_further run before n next)
further run (Some earlier) next k n e le h = record { some = λ over is. let both = h.some over is in (both.0, let a = both.1 in omega arith) }
further run None None k n e le h = record { some = λ over is. absurd (cc is) }
further run None (Some over) k n e le h = record { some = λ other is. (le, omega arith) }

pub has_come : (net : Network) (handed : List Handed) (k n : ℕ) → run_of net handed k ≡ record { ran = k; over = None } → HasCome k (n + k) (run_of net handed (n + k))
has_come net handed k zero here =
    let H : Run → Type 0 = HasCome k k in
    let R : ℕ → Type 0 = λ m. HasCome k m (run_of net handed m) in
    let same : k ≡ 0 + k = omega arith in
    subst R same (subst H (sym here) (record { some = λ over is. absurd (cc is) }))
has_come net handed k (suc n) here =
    let R : ℕ → Type 0 = λ m. HasCome k m (run_of net handed m) in
    let same : suc (n + k) ≡ suc n + k = omega arith in
    subst R same (further (run_of net handed (n + k)) (run_of net handed (n + k)).over (period_over (setting_of net handed) (n + k)) k (n + k) refl (omega arith) (has_come net handed k n here))

-- ---- all periods
-- a simulation whose period t + 1 was run and whose lines were written in part
pub cut_in_lines : (net : Network) (handed : List Handed) (t : ℕ) (old mid new : Option (List ℕ)) → suc t ≤ net.periods → Appends old mid (first_periods net handed t) →
    AppendsPrefix mid new (period_lines (suc t) net.nodes (network_row net handed t)) → IsCut net handed (suc t) old new
cut_in_lines net handed t old mid new within whole part =
    let more = prefix_longer mid new (period_lines (suc t) net.nodes (network_row net handed t)) (if suc t == net.periods then total_line (network_total net handed net.periods) else []) part in
    record { within = within; count = more.count; appended = appends_more old mid new (first_periods net handed t) (take more.count (lines_and_total net handed t)) whole more.appended }

same_number : (a b : ℕ) → a ≡ b → (a == b) ≡ true
same_number a b e = grind (arith, nat_tests)

other_number : (a b : ℕ) → (a == b) ≡ true → a ≡ b
other_number a b e = grind (arith, nat_tests)

different_number : (a b : ℕ) → a < b → (a == b) ≡ false
different_number a b e = grind (arith, nat_tests)

-- a simulation whose total was written in part
cut_in_total : (net : Network) (handed : List Handed) (t : ℕ) (old mid new : Option (List ℕ)) → suc t ≡ net.periods → Appends old mid (first_periods net handed net.periods) →
    AppendsPrefix mid new (total_line (network_total net handed net.periods)) → IsCut net handed net.periods old new
cut_in_total net handed t old mid new e whole part =
    let P : ℕ → Type 0 = λ k. IsCut net handed k old new in
    let A : List ℕ → Type 0 = Appends old new in
    let W : ℕ → Type 0 = λ k. Appends old mid (first_periods net handed k) in
    let total = total_line (network_total net handed net.periods) in
    let before = first_periods net handed t in
    let lines = period_lines (suc t) net.nodes (network_row net handed t) in
    let last : lines_and_total net handed t ≡ lines ++ total = ap (λ (b : Bool). lines ++ (if b then total else [])) (same_number (suc t) net.periods e) in
    let both : Appends old new ((before ++ lines) ++ take part.count total) = appends_more old mid new (before ++ lines) (take part.count total) (subst W (sym e) whole) part.appended in
    let front : take (length lines + part.count) (lines_and_total net handed t) ≡ lines ++ take part.count total = ap (take (length lines + part.count)) last ∙ take-append-add lines total part.count in
    let regrouped : (before ++ lines) ++ take part.count total ≡ before ++ take (length lines + part.count) (lines_and_total net handed t) = append_assoc before lines (take part.count total) ∙ ap (λ xs. before ++ xs) (sym front) in
    subst P e (record { within = omega (arith, e); count = length lines + part.count; appended = subst A regrouped both })

cut_at_end : (net : Network) (handed : List Handed) (old mid new : Option (List ℕ)) → 1 ≤ net.periods → Appends old mid (first_periods net handed net.periods) →
    AppendsPrefix mid new (total_line (network_total net handed net.periods)) → IsCut net handed net.periods old new
cut_at_end net handed old mid new some whole part = cut_in_total net handed (net.periods - 1) old mid new (omega (arith, some)) whole part

-- a run that goes on behind period suc t
pub ran_further : {I : Type 0} {D : I → Type 0} (net : Network) (handed : List Handed) (t n : ℕ) (sim : Sim I D) (now : List Handed) (old mid new : Option (List ℕ)) →
    n ≡ suc t → run_of net handed t ≡ record { ran = t; over = None } → Appends old mid (first_periods net handed t) →
    Stands net handed (suc t) sim now → period_over (setting_of net handed) t ≡ None → Appends mid new (period_lines (suc t) net.nodes (network_row net handed t)) →
    Stands net handed n sim now × (run_of net handed n ≡ record { ran = n; over = None }) × Appends old new (first_periods net handed n)
ran_further net handed t n sim now old mid new same here whole stands none lines =
    let R : ℕ → Type 0 = λ m. Stands net handed m sim now × (run_of net handed m ≡ record { ran = m; over = None }) × Appends old new (first_periods net handed m) in
    subst R (sym same) (stands, run_on net handed t here none, appends_more old mid new (first_periods net handed t) (period_lines (suc t) net.nodes (network_row net handed t)) whole lines)

-- a run that ends in period suc t, by how that period ended
pub ran_error : {I : Type 0} {D : I → Type 0} (net : Network) (handed : List Handed) (t : ℕ) (sim : Sim I D) (now : List Handed) (old mid new : Option (List ℕ)) (T U : Type 0) (e : RunErr) →
    suc t ≤ net.periods → run_of net handed t ≡ record { ran = t; over = None } → Appends old mid (first_periods net handed t) →
    RanPeriod net handed t sim now mid new {T = T} (Err e) → RanAll net handed sim now old new {T = U} (Err e)
ran_error net handed t sim now old mid new T U (Over over) le here whole ended =
    let A : List ℕ → Type 0 = Appends old new in (
      t,
      ended.0,
      over_at_end net handed t over le (run_over net handed t over here ended.0.first),
      subst A (append-nil (first_periods net handed t)) (appends_more old mid new (first_periods net handed t) [] whole ended.1),
    )
ran_error net handed t sim now old mid new T U Write le here whole ended =
    (suc t, ended.0, run_on net handed t here ended.1, cut_in_lines net handed t old mid new le whole ended.2)
ran_error net handed t sim now old mid new T U Memory le here whole ended =
    (suc t, ended.0, run_on net handed t here ended.1, cut_in_lines net handed t old mid new le whole ended.2)

-- a run whose periods all ran, by what was written of the total
pub ran_all : {I : Type 0} {D : I → Type 0} (net : Network) (handed : List Handed) (total : ℕ) (sim : Sim I D) (now : List Handed) (old mid new : Option (List ℕ)) {T : Type 0} (r : Result T RunErr) →
    1 ≤ net.periods → Stands net handed net.periods sim now → run_of net handed net.periods ≡ record { ran = net.periods; over = None } → Appends old mid (first_periods net handed net.periods) →
    total ≡ network_total net handed net.periods → OnOk r (Appends mid new (total_line total)) → AppendsPrefix mid new (total_line total) → IfErr r IsCutShort →
    RanAll net handed sim now old new r
ran_all net handed total sim now old mid new (Ok v) some stands here whole e all part short =
    let A : ℕ → Type 0 = λ n. Appends mid new (total_line n) in
    (stands, here, appends_more old mid new (first_periods net handed net.periods) (total_line (network_total net handed net.periods)) whole (subst A e all))
ran_all net handed total sim now old mid new (Err (Over over)) some stands here whole e all part short = absurd short
ran_all net handed total sim now old mid new (Err Write) some stands here whole e all part short =
    let P : ℕ → Type 0 = λ n. AppendsPrefix mid new (total_line n) in
    (net.periods, stands, here, cut_at_end net handed old mid new some whole (subst P e part))
ran_all net handed total sim now old mid new (Err Memory) some stands here whole e all part short =
    let P : ℕ → Type 0 = λ n. AppendsPrefix mid new (total_line n) in
    (net.periods, stands, here, cut_at_end net handed old mid new some whole (subst P e part))

-- ---- what was written is a front of the run's text
-- the lines of n periods behind the first k
abbrev behind : Network → List Handed → ℕ → ℕ → List ℕ
behind net handed k zero = []
behind net handed k (suc n) = behind net handed k n ++ period_lines (suc (k + n)) net.nodes (network_row net handed (k + n))

first_more : (net : Network) (handed : List Handed) (k n : ℕ) → first_periods net handed (k + n) ≡ first_periods net handed k ++ behind net handed k n
first_more net handed k zero = let same : k + 0 ≡ k = omega arith in ap (first_periods net handed) same ∙ sym (append-nil (first_periods net handed k))
first_more net handed k (suc n) =
    let lines = period_lines (suc (k + n)) net.nodes (network_row net handed (k + n)) in
    let longer : k + suc n ≡ suc (k + n) = omega arith in
    ap (first_periods net handed) longer
    ∙ ap (λ xs. xs ++ lines) (first_more net handed k n)
    ∙ append_assoc (first_periods net handed k) (behind net handed k n) lines

-- a front of a text that goes on
front_of : (old new : Option (List ℕ)) (xs ys zs text : List ℕ) (count : ℕ) → Appends old new (xs ++ take count ys) → (xs ++ ys) ++ zs ≡ text → AppendsPrefix old new text
front_of old new xs ys zs text count h e =
    let A : List ℕ → Type 0 = Appends old new in
    let P : List ℕ → Type 0 = AppendsPrefix old new in
    let short : AppendsPrefix old new (xs ++ ys) = record { count = length xs + count; appended = subst A (sym (take-append-add xs ys count)) h } in
    subst P e (prefix_longer old new (xs ++ ys) zs short)

-- what a simulation that was cut short has written is a front of the table
cut_is_front : (net : Network) (handed : List Handed) (k : ℕ) (old new : Option (List ℕ)) → IsCut net handed k old new → AppendsPrefix old new (table_text net handed)
cut_is_front net handed zero old new cut = front_of old new [] [] (table_text net handed) (table_text net handed) cut.count cut.appended refl
cut_is_front net handed (suc t) old new cut = by_last (suc t == net.periods) refl
  where
    total : List ℕ
    total = total_line (network_total net handed net.periods)

    before : List ℕ
    before = first_periods net handed t

    lines : List ℕ
    lines = period_lines (suc t) net.nodes (network_row net handed t)

    rest : ℕ
    rest = net.periods - suc t

    all : first_periods net handed net.periods ≡ (before ++ lines) ++ behind net handed (suc t) rest
    all = let both : net.periods ≡ suc t + rest = omega (arith, cut.within) in ap (first_periods net handed) both ∙ first_more net handed (suc t) rest

    by_last : (b : Bool) → (suc t == net.periods) ≡ b → AppendsPrefix old new (table_text net handed)
    by_last true e =
        let last : lines_and_total net handed t ≡ lines ++ total = ap (λ (b : Bool). lines ++ (if b then total else [])) e in
        let whole : (before ++ lines_and_total net handed t) ++ [] ≡ table_text net handed =
        append-nil (before ++ lines_and_total net handed t) ∙ ap (λ xs. before ++ xs) last ∙ sym (append_assoc before lines total)
        ∙ ap (λ k. first_periods net handed k ++ total) (other_number (suc t) net.periods e) in
        front_of old new before (lines_and_total net handed t) [] (table_text net handed) cut.count cut.appended whole
    by_last false e =
        let last : lines_and_total net handed t ≡ lines = ap (λ (b : Bool). lines ++ (if b then total else [])) e ∙ append-nil lines in
        let more = behind net handed (suc t) rest ++ total in
        let whole : (before ++ lines_and_total net handed t) ++ more ≡ table_text net handed =
        ap (λ xs. (before ++ xs) ++ more) last ∙ sym (append_assoc (before ++ lines) (behind net handed (suc t) rest) total)
        ∙ ap (λ xs. xs ++ total) (sym all) in
        front_of old new before (lines_and_total net handed t) more (table_text net handed) cut.count cut.appended whole

-- .. and of the lines of more periods, not all of them
cut_is_shorter : (net : Network) (handed : List Handed) (k m : ℕ) (old new : Option (List ℕ)) → k ≤ m → m < net.periods → IsCut net handed k old new → AppendsPrefix old new (first_periods net handed m)
cut_is_shorter net handed zero m old new le less cut = front_of old new [] [] (first_periods net handed m) (first_periods net handed m) cut.count cut.appended refl
cut_is_shorter net handed (suc t) m old new le less cut =
    let before = first_periods net handed t in
    let lines = period_lines (suc t) net.nodes (network_row net handed t) in
    let total = total_line (network_total net handed net.periods) in
    let rest = m - suc t in
    let both : m ≡ suc t + rest = omega (arith, le) in
    let last : lines_and_total net handed t ≡ lines = ap (λ (b : Bool). lines ++ (if b then total else [])) (different_number (suc t) net.periods (omega (arith, le, less))) ∙ append-nil lines in
    let whole : (before ++ lines_and_total net handed t) ++ behind net handed (suc t) rest ≡ first_periods net handed m =
    ap (λ xs. (before ++ xs) ++ behind net handed (suc t) rest) last ∙ sym (first_more net handed (suc t) rest) ∙ ap (first_periods net handed) (sym both) in
    front_of old new before (lines_and_total net handed t) (behind net handed (suc t) rest) (first_periods net handed m) cut.count cut.appended whole

by_over : (net : Network) (handed : List Handed) (k : ℕ) (run : Run) (over : Option RuleOver) (old new : Option (List ℕ)) → run.over ≡ over → HasCome k net.periods run → IsCut net handed k old new → AppendsPrefix old new (run_text net handed run)
by_over net handed k run None old new e come cut =
    let P : Option RuleOver → Type 0 = λ o. AppendsPrefix old new (run_text net handed (record run { over = o })) in
    subst P (sym e) (cut_is_front net handed k old new cut)
by_over net handed k run (Some over) old new e come cut =
    let P : Option RuleOver → Type 0 = λ o. AppendsPrefix old new (run_text net handed (record run { over = o })) in
    let both = come.some over e in
    subst P (sym e) (cut_is_shorter net handed k run.ran old new both.0 both.1 cut)

cut_part : (net : Network) (handed : List Handed) (k : ℕ) (old new : Option (List ℕ)) → run_of net handed k ≡ record { ran = k; over = None } → IsCut net handed k old new → AppendsPrefix old new (run_text net handed (run_of net handed net.periods))
cut_part net handed k old new here cut =
    let all : (net.periods - k) + k ≡ net.periods = omega (arith, cut.within) in
    let H : ℕ → Type 0 = λ n. HasCome k n (run_of net handed n) in
    by_over net handed k (run_of net handed net.periods) (run_of net handed net.periods).over old new refl (subst H all (has_come net handed k (net.periods - k) here)) cut

pub ran_part : {I : Type 0} {D : I → Type 0} (net : Network) (handed : List Handed) (sim : Sim I D) (now : List Handed) (old new : Option (List ℕ)) {T : Type 0} (r : Result T RunErr) → RanAll net handed sim now old new r → AppendsPrefix old new (run_text net handed (run_of net handed net.periods))
ran_part net handed sim now old new (Ok v) ran =
    let P : Run → Type 0 = λ run. AppendsPrefix old new (run_text net handed run) in
    subst P (sym ran.1) (prefix_whole old new (table_text net handed) ran.2)
ran_part net handed sim now old new (Err (Over over)) ran =
    let P : Run → Type 0 = λ run. AppendsPrefix old new (run_text net handed run) in
    subst P (sym ran.2) (prefix_whole old new (first_periods net handed ran.0) ran.3)
ran_part net handed sim now old new (Err Write) ran = cut_part net handed ran.0 old new ran.2 ran.3
ran_part net handed sim now old new (Err Memory) ran = cut_part net handed ran.0 old new ran.2 ran.3

-- ---- what a table claims
pub is_table : (net : Network) (handed : List Handed) → IsValidNetwork net → IsTable (table_text net handed) handed (variant.Network net)
is_table net handed valid = record {
  network = net;
  is = refl;
  text_is = refl;
  orders = orders_of_run (setting_of net handed);
  served = served_of_run (setting_of net handed);
  run = table_is_run (setting_of net handed) (shaped_nodes net valid.shaped);
  rows = λ t. row_lines (setting_of net handed) t;
}
