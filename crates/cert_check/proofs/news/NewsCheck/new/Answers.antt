use Rattle.cert_check.proofs.news.NewsCheck.new.Goals as goal

pub returns-clause-typed : goal.returns-clause-typed
returns-clause-typed c = rw (← c.newsvendor.view_is) c.newsvendor.invariant
