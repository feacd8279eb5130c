use Rattle.std.proofs.Common.{◌≤◌, ◌^◌, arith}
use Rattle.bracket_lemmas.specs.WideSizes.{most_small}
use Rattle.report_text.proofs.bracket.bracket_report.Goals as goal

pub push_bound-requires : goal.push_bound-requires
push_bound-requires c = omega (arith, c.requires.bracket.lower_small, most_small c.args.average.now c.requires.wide)

pub push_bound-requires-2 : goal.push_bound-requires-2
push_bound-requires-2 c = omega (arith, c.requires.bracket.upper_small, most_small c.args.average.now c.requires.wide)
