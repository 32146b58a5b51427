use Rattle.std.proofs.Common.{subst}
use Rattle.std.proofs.lemmas.Result.{on_ok_weaker}
use Rattle.tor_clauses.specs.Literals.{opposite_node}
use Rattle.tor_digraph.specs.NodeSets.{IsAdded}
use Rattle.tor_digraph.proofs.Spreadings.{added_stays, stays_contained}
use Rattle.tor_digraph.proofs.NodeSets.{added_there}
use Rattle.order_trials.proofs.Showings.{with_walk, showing_first, closed_to}
use Rattle.order_trials.proofs.showing.Shown.show_by.Goals as goal

pub show_from-requires-clause-showing : goal.show_from-requires-clause-showing
show_from-requires-clause-showing c =
    let old = c.args.self.now.nodes.items in
    let new = c.add.new.self.items in
    showing_first c.args.problem.now c.facts.ensures.apart c.facts.ensures.posed.fits c.facts.ensures.servable c.facts.ensures.partners
    c.in_ok-add.field-0 c.args.node c.args.walk.now c.requires.shown.showing c.requires.there c.add.ensures.count c.requires.new
    (subst (λ n. IsAdded n c.in_ok-add.field-0 old new) c.negation_node.ensures c.in_ok-add.ensures.added) c.requires.back
    (with_walk c.push.new.self c.args.self.now.whys c.as_slice.result.now c.as_slice-2.result.now c.args.walk.now c.as_slice.ensures c.as_slice-2.ensures c.in_ok-push.ensures.added)
    c.requires.walk

pub show_from-requires-clause-closed : goal.show_from-requires-clause-closed
show_from-requires-clause-closed c =
    let old = c.args.self.now.nodes.items in
    let new = c.add.new.self.items in
    closed_to c.args.problem.now old new c.len-from.result c.requires.shown.closed (added_stays c.negation_node.result c.in_ok-add.field-0 old new c.in_ok-add.ensures.added) c.len-from.ensures

pub returns-clause-keeps : goal.returns-clause-keeps
returns-clause-keeps c =
    let old = c.args.self.now.nodes.items in
    let mid = c.add.new.self.items in
    on_ok_weaker c.show_from.result
    (λ kept n h. stays_contained mid c.show_from.new.self.nodes.items kept n
    (stays_contained old mid (added_stays c.negation_node.result c.in_ok-add.field-0 old mid c.in_ok-add.ensures.added) n h))
    c.show_from.ensures.kept

pub returns-clause-added : goal.returns-clause-added
returns-clause-added c =
    let old = c.args.self.now.nodes.items in
    let mid = c.add.new.self.items in
    on_ok_weaker c.show_from.result
    (λ kept. stays_contained mid c.show_from.new.self.nodes.items kept (opposite_node c.args.node)
    (added_there (opposite_node c.args.node) c.in_ok-add.field-0 old mid (subst (λ n. IsAdded n c.in_ok-add.field-0 old mid) c.negation_node.ensures c.in_ok-add.ensures.added)))
    c.show_from.ensures.kept
