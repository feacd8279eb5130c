use Rattle.std.proofs.Common.{◌≡◌, ℕ, ◌<◌, ◌≤◌, length, get_or, sym, subst, arith}
use Rattle.network_model.specs.Pauses.{no_span}
use Rattle.disruption.specs.Tables.{IsTable, Begins, Follows, HasOneMore}
use Rattle.disruption.proofs.TableFacts.{whole_at, apart_place, begun_before, before_following, table_insert, one_more}
use Rattle.disruption.proofs.table.put.Goals as goal

pub returns-clause-table : goal.returns-clause-table
returns-clause-table c =
    let xs = c.args.table.now.items in
    let span = c.args.span in
    let place = c.count_begun-place.result in
    let same : c.deref.result.now ≡ xs = c.deref.ensures.value in
    let within : place ≤ length xs = rw same at c.count_begun-place.ensures.within in
    let begun : (i : ℕ) → i < place → Begins span.node span.what span.from (get_or xs i no_span) =
    subst (λ ys. (i : ℕ) → i < place → Begins span.node span.what span.from (get_or ys i no_span)) same c.count_begun-place.ensures.begun in
    let rest : (i : ℕ) → place ≤ i → i < length xs → Follows span.node span.what span.from (get_or xs i no_span) =
    subst (λ ys. (i : ℕ) → place ≤ i → i < length ys → Follows span.node span.what span.from (get_or ys i no_span)) same c.count_begun-place.ensures.rest in
    subst IsTable (sym c.in_ok-insert.ensures.items) (table_insert xs place span c.requires.table within c.requires.whole
    (λ i lt. begun_before span (get_or xs i no_span) c.requires.whole (apart_place xs span i c.requires.apart (omega arith)) (begun i lt))
    (λ i least lt. before_following span (get_or xs i no_span) (whole_at xs i c.requires.table lt) (apart_place xs span i c.requires.apart lt) (rest i least lt)))

pub returns-clause-one_more : goal.returns-clause-one_more
returns-clause-one_more c =
    subst (HasOneMore c.args.span c.args.table.now.items) (sym c.in_ok-insert.ensures.items) (one_more c.args.table.now.items c.count_begun-place.result c.args.span)
