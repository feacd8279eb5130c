use Rattle.std.proofs.Common.{◌≡◌}
use Rattle.least_values.specs.Sweeps.{better_of}
use Rattle.least_values.proofs.WindowSteps.{seen_more}
use Rattle.least_values.proofs.window.Window.fill_slot.Goals as goal

pub returns-clause-seen : goal.returns-clause-seen
returns-clause-seen c = λ width pairs known.
    let w = c.args.self.now in
    let e : c.better_of.result ≡ better_of w.best c.args.pair = c.better_of.ensures in
    (known.0, rw e (seen_more width w.filled w.whole w.best c.args.room.now c.put.new.room pairs c.args.pair known.1 c.put.ensures.length c.put.ensures.here c.put.ensures.others))
