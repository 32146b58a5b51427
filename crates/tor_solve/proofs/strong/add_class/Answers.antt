use Rattle.std.proofs.Common.{◌<◌, sym, subst}
use Rattle.tor_arena.proofs.Gets.{Contains-from_has}
use Rattle.tor_solve.proofs.Orders.{grown-longer, fresh-new, fresh-old, fresh-has}
use Rattle.tor_solve.proofs.strong.add_class.Goals as goal

pub split_at-requires : goal.split_at-requires
split_at-requires g c = grown-longer c.args.graph.now.arcs c.args.root c.args.reached.now.nodes c.reach_more.new.reached.nodes
    c.in_ok-reach_more.ensures.grown c.nodes-had.result.now c.nodes.result.now c.nodes-had.ensures.nodes c.nodes.ensures.nodes

pub mark-requires : goal.mark-requires
mark-requires g c = λ x h. subst (λ n. g.N.Index.place_of x < n) (sym c.requires.many)
    (c.in_ok-reach_more.ensures.searched.inside x
    (Contains-from_has c.reach_more.new.reached.nodes x
    (fresh-has c.args.graph.now.arcs c.args.root c.args.reached.now.nodes c.reach_more.new.reached.nodes c.in_ok-reach_more.ensures.grown
    c.nodes-had.result.now c.nodes.result.now _ c.nodes-had.ensures.nodes c.nodes.ensures.nodes c.split_at.ensures.back x h)))

pub returns-clause-marked : goal.returns-clause-marked
returns-clause-marked g c = λ x h o. c.mark.ensures.marked x
    (fresh-new c.args.graph.now.arcs c.args.root c.args.reached.now.nodes c.reach_more.new.reached.nodes c.in_ok-reach_more.ensures.grown
    c.nodes-had.result.now c.nodes.result.now _ c.nodes-had.ensures.nodes c.nodes.ensures.nodes c.split_at.ensures.back x h o)

pub returns-clause-kept : goal.returns-clause-kept
returns-clause-kept g c = λ x o. c.mark.ensures.kept x
    (λ h. fresh-old c.args.graph.now.arcs c.args.root c.args.reached.now.nodes c.reach_more.new.reached.nodes c.in_ok-reach_more.ensures.grown
    c.nodes-had.result.now c.nodes.result.now _ c.nodes-had.ensures.nodes c.nodes.ensures.nodes c.split_at.ensures.back c.nodes.ensures.once x o
    h)
