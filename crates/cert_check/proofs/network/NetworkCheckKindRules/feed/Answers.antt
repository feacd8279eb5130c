use Rattle.cert_check.proofs.ProvenNetwork.{network_answers}
use Rattle.cert_check.proofs.network.NetworkCheckKindRules.feed.Goals as goal

pub returns : goal.returns
returns c = λ instance before knows. network_answers instance before c.args._line.now c.args.self.now knows
