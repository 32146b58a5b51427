use Rattle.std.proofs.Common.{◌∙◌, length, ap, sym, subst, arith, length-set}
use Rattle.std.specs.Prelude.{Contains}
use Rattle.tor_digraph.specs.NodeSets.{Nodes}
use Rattle.tor_digraph.proofs.Members.{Contains-last}
use Rattle.tor_digraph.proofs.NodeSets.{AreLeft, left_all, left_next, left_none}
use Rattle.tor_digraph.proofs.node_set.NodeSet.clear.Goals as goal

pub loop-node-init : goal.loop-node-init
loop-node-init c = subst (λ (v : Nodes). AreLeft c.self.inside.nodes c.self.inside.marks.items v.count) c.self.view_is (left_all c.self.inside.nodes c.self.inside.marks.items c.self.invariant)

pub put-requires : goal.put-requires
put-requires c =
    let many = c.loop-node.invariant.many in
    let inside = c.loop-node.invariant.inside c.in-Some.node (subst (λ l. Contains l c.in-Some.node) (sym c.in-Some.ensures) (Contains-last c.pop.new.self c.in-Some.node)) in
    omega (arith, many, inside)

pub loop-node-preserved : goal.loop-node-preserved
loop-node-preserved c =
    left_next c.loop-node.self-inside.nodes c.pop.new.self c.loop-node.self-inside.marks.items c.put.new.self.items c.args.self.now.count c.in-Some.node
    c.loop-node.invariant c.in-Some.ensures c.put.ensures.items (ap length c.put.ensures.items ∙ length-set c.loop-node.self-inside.marks.items c.in-Some.node _)

pub invariant_of-self : goal.invariant_of-self
invariant_of-self c = left_none c.pop.new.self c.loop-node.self-inside.marks.items c.args.self.now.count
    (subst (λ l. AreLeft l c.loop-node.self-inside.marks.items c.args.self.now.count) (c.in_default.ensures.0 ∙ sym c.in_default.ensures.1) c.loop-node.invariant) c.in_default.ensures.1
