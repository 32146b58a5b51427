use Rattle.std.proofs.Common.{◌<◌, ◌≤◌, length, ◌++◌, ◌∷◌, [], sym, ◌∙◌, subst, arith}
use Rattle.std.specs.Prelude.{Contains}
use Rattle.std.proofs.lemmas.Bool.{false≢true}
use Rattle.tor_digraph.specs.NodeSets.{Nodes, AreMarked}
use Rattle.tor_digraph.proofs.NodeSets.{marked_more, marked_few}
use Rattle.tor_digraph.proofs.node_set.NodeSet.add.Goals as goal

pub invariant_of-self-2 : goal.invariant_of-self-2
invariant_of-self-2 c =
    let nodes = c.self.inside.nodes in
    let marks = c.self.inside.marks.items in
    let node = c.args.node in
    let new : Contains nodes node → ⊥ = subst (λ (v : Nodes). Contains v.items node → ⊥) (sym c.self.view_is) (λ h. false≢true (sym c.if-has.false ∙ c.has.ensures.1 h)) in
    subst (λ l. AreMarked l c.put.new.self.items) (sym c.in_ok-push.ensures.ok)
    (subst (AreMarked (nodes ++ node ∷ [])) (sym c.put.ensures.items)
    (marked_more nodes marks node (subst (λ (v : Nodes). node < v.count) (sym c.self.view_is) c.requires) new c.self.invariant))

pub prove-unreachable-requires : goal.prove-unreachable-requires
prove-unreachable-requires c =
    let few : length c.self.inside.nodes ≤ length c.self.inside.marks.items = marked_few c.self.inside.nodes c.self.inside.marks.items c.self.invariant in
    omega (arith, few)
