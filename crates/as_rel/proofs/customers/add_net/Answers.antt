use Rattle.as_rel.proofs.customers.add_net.Goals as goal

pub returns-clause-node : goal.returns-clause-node
returns-clause-node c = c.in_ok-add_providers.ensures.longer c.in_ok-start.start c.args.of c.in_ok-start.ensures.node
