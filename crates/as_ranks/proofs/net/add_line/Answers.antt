use Rattle.as_ranks.proofs.NetLemmas.{peering-put, transit-put}
use Rattle.as_ranks.proofs.net.add_line.Goals as goal

pub returns-in-Peering : goal.returns-in-Peering
returns-in-Peering c = peering-put c.args.line.now c.args.ases.now c.args.graph.now c.in-Peering.is

pub returns-in-Ok : goal.returns-in-Ok
returns-in-Ok c =
    transit-put c.args.line.now c.args.ases.now c.args.graph.now c.add_arc.new.self c.node_of-over.result c.node_of-under.result c.in-Transit.is c.in-Ok.ensures.added
    c.node_of-over.ensures.at c.node_of-under.ensures.at
