use Rattle.as_graph.proofs.EdgeLemmas.{more_then}
use Rattle.as_graph.proofs.graph_edges.add_ends.Goals as goal

pub returns-in_err-high-clause-more : goal.returns-in_err-high-clause-more
returns-in_err-high-clause-more c =
    more_then c.args.ases.now c.args.counts.now.items c.add_as.new.ases c.add_as.new.counts.items c.add_as-2.new.ases c.add_as-2.new.counts.items
    c.add_as.ensures.more c.add_as-2.ensures.more

pub returns-clause-more : goal.returns-clause-more
returns-clause-more c =
    more_then c.args.ases.now c.args.counts.now.items c.add_as.new.ases c.add_as.new.counts.items c.add_as-2.new.ases c.add_as-2.new.counts.items
    c.add_as.ensures.more c.add_as-2.ensures.more
