use Rattle.std.proofs.Common.{◌≡◌, ◌++◌, ℕ, List, subst, OnOk}
use Rattle.decision_model.specs.LeadTimes.{serial_period}
use Rattle.report_text.specs.Demand.{periods_text}
use Rattle.report_text.proofs.PeriodLaws.{serial_laws}
use Rattle.report_text.proofs.serial.push_demand.Goals as goal

pub push_periods-requires-clause-have_sums : goal.push_periods-requires-clause-have_sums
push_periods-requires-clause-have_sums c = rw c.as_slice.ensures (λ place lt. serial_period c.args.serial.now place c.requires lt)

pub returns : goal.returns
returns c =
    let Ends : (ℕ → List ℕ) → Type 0 = λ law. OnOk c.push_periods.result (c.push_periods.new.out ≡ c.args.out.now ++ periods_text c.args.serial.now.periods law) in
    subst Ends (serial_laws c.args.serial.now c.requires) (rw c.as_slice.ensures at c.push_periods.ensures)
