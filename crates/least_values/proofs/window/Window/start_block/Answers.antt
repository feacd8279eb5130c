use Rattle.std.proofs.Common.{◌∙◌, sym}
use Rattle.least_values.proofs.WindowSteps.{seen_block}
use Rattle.least_values.proofs.window.Window.start_block.Goals as goal

pub returns-clause-seen : goal.returns-clause-seen
returns-clause-seen c = λ width pairs known.
    let w = c.args.self.now in
    (known.0, seen_block width w.filled w.whole w.best c.args.room.now c.put_leasts.new.room pairs known.1 (c.requires.whole ∙ known.0) c.put_leasts.ensures.length (λ block len. c.put_leasts.ensures.leasts block (len ∙ sym known.0)))
