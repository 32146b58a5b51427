use Rattle.std.proofs.Common.{◌<◌, Contains, IfOk, length, sym, subst}
use Rattle.std.proofs.lemmas.Option.{slice_get_within}
use Rattle.tor_clauses.specs.Literals.{opposite_node}
use Rattle.tor_clauses.specs.Rounds.{IsClash}
use Rattle.tor_clauses.proofs.LiteralLemmas.{opposite_node_twice}
use Rattle.tor_digraph.specs.Trails.{IsTrail}
use Rattle.tor_digraph.proofs.Searches.{if_ok_weaker}
use Rattle.order_trials.specs.Posing.{Posed}
use Rattle.order_trials.specs.Showing.{LeadsBack}
use Rattle.order_trials.proofs.problem.Problem.walk_back.Goals as goal

pub partner-partner-requires : goal.partner-partner-requires
partner-partner-requires c =
    let clash = c.requires.clash in
    subst (λ (v : Posed). c.args.clash < length v.formula.net.arcs) (sym c.self.view_is) (slice_get_within c.args.self.now.formula.net.arcs c.args.clash (clash.0, clash.1) clash.2)

pub way_round-requires-clause-trail : goal.way_round-requires-clause-trail
way_round-requires-clause-trail c = subst (λ (v : Posed). IsTrail v.formula.net.arcs c.args.node c.args.trail.now) (sym c.self.view_is) c.requires.trail

pub way_round-requires-clause-clash : goal.way_round-requires-clause-clash
way_round-requires-clause-clash c =
    let nodes = c.args.trail.now.nodes.items in
    let clash = subst (λ (v : Posed). IsClash v.formula.net.arcs nodes c.args.clash) (sym c.self.view_is) c.requires.clash in (
      opposite_node clash.1,
      opposite_node clash.0,
      c.partner-partner.ensures.partner clash.0 clash.1 clash.2,
      clash.4,
      subst (Contains nodes) (sym (opposite_node_twice clash.0)) clash.3,
    )

pub walk_along-walk-requires-clause-there : goal.walk_along-walk-requires-clause-there
walk_along-walk-requires-clause-there c = subst (λ (v : Posed). c.args.node < v.formula.net.nodes) (sym c.self.view_is) c.requires.there

pub walk_along-walk-requires-clause-way : goal.walk_along-walk-requires-clause-way
walk_along-walk-requires-clause-way c = (opposite_node c.args.node, c.in_ok-way.ensures)

pub returns : goal.returns
returns c = subst (λ (v : Posed). IfOk c.walk_along-walk.result (LeadsBack v c.args.node)) c.self.view_is
    (if_ok_weaker c.walk_along-walk.result (λ w along a b says. along (opposite_node c.args.node) a b c.in_ok-way.ensures says) c.walk_along-walk.ensures)
