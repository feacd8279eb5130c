use Rattle.std.proofs.Common.{◌≡◌, ◌++◌, ℕ, List, subst, OnOk}
use Rattle.demand_law.specs.LawSums.{law_of_sum-is}
use Rattle.report_text.specs.Laws.{law_text}
use Rattle.report_text.proofs.periods.push_sum.Goals as goal

pub returns-in-Ok : goal.returns-in-Ok
returns-in-Ok c =
    let Ends : List ℕ → Type 0 = λ law. OnOk c.push_law.result (c.push_law.new.out ≡ c.args.out.now ++ law_text law) in
    subst Ends (law_of_sum-is _ _ c.in-Ok.ensures.is_sum) c.push_law.ensures
