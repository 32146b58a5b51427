use Rattle.std.proofs.Common.{◌∙◌, ◌++◌, false, ap}
use Rattle.std.specs.Prelude.{replicate}
use Rattle.tor_digraph.proofs.NodeSets.{marked_none}
use Rattle.tor_digraph.proofs.node_set.NodeSet.new.Goals as goal

pub invariant_of-result : goal.invariant_of-result
invariant_of-result c = marked_none c.new.result c.push_copies.new.self.items c.args.count c.new.ensures
    (c.in_ok-push_copies.ensures.ok ∙ ap (λ marks. marks ++ replicate c.args.count false) c.new-marks.ensures)
