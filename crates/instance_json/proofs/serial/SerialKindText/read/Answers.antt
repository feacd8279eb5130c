use Rattle.std.proofs.Common.{rules}
use Rattle.instance_json.proofs.Starts.{is_start-rises, is_start-last}
use Rattle.instance_json.proofs.serial.SerialKindText.read.Goals as goal

pub returns-clause-readable : goal.returns-clause-readable
returns-clause-readable c =
    record {
      periods = search rules;
      some_echelon = search rules;
      most_echelons = search rules;
      unit_each = search rules;
      start_each = search rules;
      holding = search rules;
      unit = search rules;
      stockout = search rules;
      discount = search rules;
      laws = search rules;
      cap = search rules;
      start = search rules;
      never_falling = is_start-rises _ _ _ _ c.is_start.ensures c.in_ok-in_range.ensures.holds c.as_slice.ensures;
      last_below = is_start-last _ _ _ _ (search rules) c.is_start.ensures c.in_ok-in_range.ensures.holds c.as_slice.ensures;
    }
