use Rattle.std.proofs.Common.{refl, arith}
use Rattle.std.proofs.lemmas.Option.{slice_get_within}
use Rattle.tor_digraph.proofs.Spreadings.{added_stays}
use Rattle.tor_digraph.proofs.NodeSets.{added_there}
use Rattle.order_trials.proofs.Showings.{showing_head, showing_same}
use Rattle.order_trials.proofs.showing.Shown.show_head.Goals as goal

pub returns-in_ok-push_walk-clause-showing : goal.returns-in_ok-push_walk-clause-showing
returns-in_ok-push_walk-clause-showing c =
    showing_head c.args.problem.now c.facts.ensures.apart c.facts.ensures.posed.fits c.facts.ensures.servable c.facts.ensures.partners
    c.in_ok-add.field-0 c.args.arc c.args.head c.args.tail.0 c.args.tail.1 c.requires.showing c.requires.there c.requires.tail c.add.ensures.count c.if-branch.true
    c.in_ok-add.ensures.added c.in_ok-push_walk.ensures

pub returns-in_ok-push_walk-clause-kept : goal.returns-in_ok-push_walk-clause-kept
returns-in_ok-push_walk-clause-kept c = added_stays c.args.head c.in_ok-add.field-0 c.args.self.now.nodes.items c.add.new.self.items c.in_ok-add.ensures.added

pub returns-in_ok-push_walk-clause-added : goal.returns-in_ok-push_walk-clause-added
returns-in_ok-push_walk-clause-added c = added_there c.args.head c.in_ok-add.field-0 c.args.self.now.nodes.items c.add.new.self.items c.in_ok-add.ensures.added

pub push_walk-requires-clause-there : goal.push_walk-requires-clause-there
push_walk-requires-clause-there c = slice_get_within c.args.problem.now.formula.net.arcs c.args.arc (c.requires.tail.0, c.args.head) c.requires.tail.1

pub push_walk-requires-clause-head : goal.push_walk-requires-clause-head
push_walk-requires-clause-head c = let lt = c.requires.there in let many = c.facts.ensures.posed.fits.nodes in omega (arith, lt, many)

pub returns-else-branch-clause-showing : goal.returns-else-branch-clause-showing
returns-else-branch-clause-showing c =
    showing_same c.args.problem.now c.in_ok-add.field-0 c.args.head c.requires.showing c.add.ensures.count c.if-branch.false c.in_ok-add.ensures.added refl

pub returns-else-branch-clause-kept : goal.returns-else-branch-clause-kept
returns-else-branch-clause-kept c = added_stays c.args.head c.in_ok-add.field-0 c.args.self.now.nodes.items c.add.new.self.items c.in_ok-add.ensures.added

pub returns-else-branch-clause-added : goal.returns-else-branch-clause-added
returns-else-branch-clause-added c = added_there c.args.head c.in_ok-add.field-0 c.args.self.now.nodes.items c.add.new.self.items c.in_ok-add.ensures.added
