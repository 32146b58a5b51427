use Rattle.std.proofs.Common.{◌+◌, length, ◌∙◌, ap, zero-add}
use Rattle.tor_digraph.proofs.Searches.{length-copies}
use Rattle.tor_solve.proofs.strong.class_into.Goals as goal

pub class_each-count-requires-clause-many : goal.class_each-count-requires-clause-many
class_each-count-requires-clause-many g c =
    ap length c.in_ok-push_copies.ensures.ok ∙ length-copies c.args.classes.now.items c.node_count.result c.args.graph.now.nodes 0
    (ap (λ z. length z + c.node_count.result) c.requires.empty ∙ zero-add c.node_count.result ∙ c.node_count.ensures.nodes)
