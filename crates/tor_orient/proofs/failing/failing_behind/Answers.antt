use Rattle.std.proofs.Common.{subst, Contains}
use Rattle.tor_orient.specs.Steps.{ComesTo}
use Rattle.tor_orient.proofs.Settled.{no_way}
use Rattle.tor_arena.proofs.Gets.{Contains-from_has}
use Rattle.tor_orient.proofs.failing.failing_behind.Goals as goal

pub returns-clause-none : goal.returns-clause-none
returns-clause-none c =
    let arcs = c.args.rows.now.arcs in
    let settled = c.args.settled.now.items in
    let tried = c.find.new.tried.nodes.items in
    let comes = subst (ComesTo arcs settled c.negation_node-other.result tried) c.if-branch.false c.in_ok-find.ensures.comes in
    no_way arcs settled tried c.args.node c.requires.closed comes.1 (Contains-from_has tried c.args.node (0, c.in_ok-find.ensures.trail.first))
    (subst (λ n. Contains tried n → ⊥) c.negation_node-other.ensures comes.0) c.requires.unsettled
