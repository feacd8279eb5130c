use Rattle.trial_instances.specs.News.{trial_news, trial_news_is}
use Rattle.trial_instances.proofs.news.trial_news.Goals as goal

pub invariant_of-result : goal.invariant_of-result
unfolding trial_news
invariant_of-result c = rw (c.number-holding.ensures.value, c.number-stockout.ensures.value, c.in_ok-law.ensures) (trial_news_is c.args.trial)
