use Rattle.std.proofs.Common.{◌≡◌, ℕ, ◌++◌, ◌∷◌, [], true, false, if◌then◌else◌, None, Some, ◌∙◌, ap, subst}
use Rattle.std.specs.Prelude.{unsigned_abs}
use mir.Syntax.{w128}
use Rattle.std.proofs.lemmas.Int.{to_z-of_z}
use Rattle.value_cert.specs.AverageRules.{is_next_point, is_lower_entry, is_upper_entry, is_zero_at_high}
use Rattle.average_recursion.specs.Recursions.{average_of, KnowsPoints}
use Rattle.average_recursion.proofs.points.Points.take_point.Goals as goal

pub returns-then-not-is_lower_entry-clause-rule : goal.returns-then-not-is_lower_entry-clause-rule
returns-then-not-is_lower_entry-clause-rule c = λ first knows.
    let item = average_of c.args.self.now in
    let at_back = to_z-of_z w128 c.args.at c.ranges.at in
    let lower_is = c.unsigned_abs-lower.ensures.value ∙ ap unsigned_abs (to_z-of_z w128 c.args.lower c.ranges.lower) in
    let next : true ≡ is_next_point item first c.args.at = c.if-not-is_next.ensures.rule first knows ∙ ap (is_next_point item first) at_back in
    let low : false ≡ is_lower_entry item first (unsigned_abs c.args.lower) = c.if-not-is_lower_entry.ensures.rule first knows ∙ ap (is_lower_entry item first) lower_is in
    λ i. if next i then (if low i then (if is_upper_entry item first c.args.at (unsigned_abs c.args.upper) then (if is_zero_at_high first c.args.at (unsigned_abs c.args.upper) then None else Some 7) else Some 6) else Some 5) else Some 2

pub returns-then-not-is_upper_entry-clause-rule : goal.returns-then-not-is_upper_entry-clause-rule
returns-then-not-is_upper_entry-clause-rule c = λ first knows.
    let item = average_of c.args.self.now in
    let at_back = to_z-of_z w128 c.args.at c.ranges.at in
    let lower_is = c.unsigned_abs-lower.ensures.value ∙ ap unsigned_abs (to_z-of_z w128 c.args.lower c.ranges.lower) in
    let next : true ≡ is_next_point item first c.args.at = c.if-not-is_next.ensures.rule first knows ∙ ap (is_next_point item first) at_back in
    let low : true ≡ is_lower_entry item first (unsigned_abs c.args.lower) = c.if-not-is_lower_entry.ensures.rule first knows ∙ ap (is_lower_entry item first) lower_is in
    let upper_is = c.unsigned_abs-upper.ensures.value ∙ ap unsigned_abs (to_z-of_z w128 c.args.upper c.ranges.upper) in
    let up : false ≡ is_upper_entry item first c.args.at (unsigned_abs c.args.upper) = c.if-not-is_upper_entry.ensures.rule first knows ∙ (λ i. is_upper_entry item first (at_back i) (upper_is i)) in
    λ i. if next i then (if low i then (if up i then (if is_zero_at_high first c.args.at (unsigned_abs c.args.upper) then None else Some 7) else Some 6) else Some 5) else Some 2

pub returns-then-not-is_zero_at_high-clause-rule : goal.returns-then-not-is_zero_at_high-clause-rule
returns-then-not-is_zero_at_high-clause-rule c = λ first knows.
    let item = average_of c.args.self.now in
    let at_back = to_z-of_z w128 c.args.at c.ranges.at in
    let lower_is = c.unsigned_abs-lower.ensures.value ∙ ap unsigned_abs (to_z-of_z w128 c.args.lower c.ranges.lower) in
    let next : true ≡ is_next_point item first c.args.at = c.if-not-is_next.ensures.rule first knows ∙ ap (is_next_point item first) at_back in
    let low : true ≡ is_lower_entry item first (unsigned_abs c.args.lower) = c.if-not-is_lower_entry.ensures.rule first knows ∙ ap (is_lower_entry item first) lower_is in
    let upper_is = c.unsigned_abs-upper.ensures.value ∙ ap unsigned_abs (to_z-of_z w128 c.args.upper c.ranges.upper) in
    let up : true ≡ is_upper_entry item first c.args.at (unsigned_abs c.args.upper) = c.if-not-is_upper_entry.ensures.rule first knows ∙ (λ i. is_upper_entry item first (at_back i) (upper_is i)) in
    let zero : false ≡ is_zero_at_high first c.args.at (unsigned_abs c.args.upper) = c.if-not-is_zero_at_high.ensures first knows ∙ (λ i. is_zero_at_high first (at_back i) (upper_is i)) in
    λ i. if next i then (if low i then (if up i then (if zero i then None else Some 7) else Some 6) else Some 5) else Some 2

pub returns-clause-rule : goal.returns-clause-rule
returns-clause-rule c = λ first knows.
    let item = average_of c.args.self.now in
    let at_back = to_z-of_z w128 c.args.at c.ranges.at in
    let lower_is = c.unsigned_abs-lower.ensures.value ∙ ap unsigned_abs (to_z-of_z w128 c.args.lower c.ranges.lower) in
    let next : true ≡ is_next_point item first c.args.at = c.if-not-is_next.ensures.rule first knows ∙ ap (is_next_point item first) at_back in
    let low : true ≡ is_lower_entry item first (unsigned_abs c.args.lower) = c.if-not-is_lower_entry.ensures.rule first knows ∙ ap (is_lower_entry item first) lower_is in
    let upper_is = c.unsigned_abs-upper.ensures.value ∙ ap unsigned_abs (to_z-of_z w128 c.args.upper c.ranges.upper) in
    let up : true ≡ is_upper_entry item first c.args.at (unsigned_abs c.args.upper) = c.if-not-is_upper_entry.ensures.rule first knows ∙ (λ i. is_upper_entry item first (at_back i) (upper_is i)) in
    let zero : true ≡ is_zero_at_high first c.args.at (unsigned_abs c.args.upper) = c.if-not-is_zero_at_high.ensures first knows ∙ (λ i. is_zero_at_high first (at_back i) (upper_is i)) in
    λ i. if next i then (if low i then (if up i then (if zero i then None else Some 7) else Some 6) else Some 5) else Some 2

pub returns-clause-points : goal.returns-clause-points
returns-clause-points c = λ first knows kept.
    let lower_is = c.unsigned_abs-lower.ensures.value ∙ ap unsigned_abs (to_z-of_z w128 c.args.lower c.ranges.lower) in
    let upper_is = c.unsigned_abs-upper.ensures.value ∙ ap unsigned_abs (to_z-of_z w128 c.args.upper c.ranges.upper) in
    subst (λ (lower : ℕ). KnowsPoints c.keep.new.self (record { g = first.g; low = first.low; high = first.high; lower = first.lower ++ lower ∷ []; upper = first.upper ++ unsigned_abs c.args.upper ∷ [] })) lower_is
    (subst (λ (upper : ℕ). KnowsPoints c.keep.new.self (record { g = first.g; low = first.low; high = first.high; lower = first.lower ++ c.unsigned_abs-lower.result ∷ []; upper = first.upper ++ upper ∷ [] })) upper_is (c.keep.ensures.points first knows))
