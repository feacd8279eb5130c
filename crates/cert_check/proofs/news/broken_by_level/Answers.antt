use Rattle.std.proofs.Common.{◌≡◌, true, rules}
use Rattle.value_cert.specs.NewsRules.{is_first_level}
use Rattle.cert_check.proofs.Levels.{first_within}
use Rattle.cert_check.proofs.news.broken_by_level.Goals as goal

pub returns-clause-in_range : goal.returns-clause-in_range
returns-clause-in_range c = λ none.
    let first : is_first_level c.args.newsvendor.now c.args.level ≡ true = search rules in
    first_within c.args.newsvendor.now c.args.level c.has_ratio.ensures.short c.requires first
