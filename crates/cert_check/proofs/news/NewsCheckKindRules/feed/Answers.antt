use Rattle.cert_check.proofs.ProvenNews.{news_answers}
use Rattle.cert_check.proofs.news.NewsCheckKindRules.feed.Goals as goal

pub returns : goal.returns
returns c = λ instance before knows.
    news_answers instance before c.args.line.now c.args.self.now c.take.new.self c.take.result knows c.take.ensures.newsvendor c.take.ensures.rule c.take.ensures.level
