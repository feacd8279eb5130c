use Rattle.network_sim.proofs.Supplied.{supplied_is}
use Rattle.network_sim.proofs.supply.supply_node.Goals as goal

pub returns : goal.returns
returns c =
    supplied_is c.args.nodes.now c.receive_all.new.nodes c.args.i c.args.suppliers.now c.args.no_receipts c.args.no_shipments c.index-nodes-i.result c.make.new.self c.serve.new.self
    c.requires.is_node c.receive_all.ensures c.make.ensures.value c.serve.ensures
