use Rattle.std.proofs.Common.{◌<◌, ◌∙◌, inl, inr, Some, length, sym, ap, subst, arith, Contains}
use Rattle.std.proofs.lemmas.Bool.{false≢true}
use Rattle.std.proofs.lemmas.Option.{some_pair_parts, slice_get_within}
use Rattle.tor_arena.proofs.Gets.{has-from_Contains, Contains-from_has}
use Rattle.tor_digraph.specs.Walks.{IsArc}
use Rattle.tor_digraph.specs.Trails.{StandsAt, Visits, IsHeadFrom}
use Rattle.tor_digraph.proofs.Trails.{visits_there, trail_visits}
use Rattle.tor_clauses.specs.Literals.{lit_of, opposite_node, Holds}
use Rattle.tor_clauses.proofs.Sides.{opposite_below}
use Rattle.tor_mend.specs.Searches.{IsVisited}
use Rattle.tor_mend.proofs.Scans.{stopped, looked_at}
use Rattle.tor_mend.proofs.Passing.{visit_last, unheld_visit}
use Rattle.tor_mend.proofs.searching.look.Goals as goal

pub visit-requires-clause-place : goal.visit-requires-clause-place
visit-requires-clause-place c =
    let ends = c.ends-head.result in
    let lt = slice_get_within c.args.trail.now.nodes.items c.args.origin ends.0 (c.requires.tail ends.0 ends.1 c.ends-head.ensures.arc) in
    omega (arith, lt)

pub visit-requires-clause-there : goal.visit-requires-clause-there
visit-requires-clause-there c = subst (λ n. c.ends-head.result.1 < n) (sym c.requires.count) c.ends-head.ensures.head

pub returns-then-is_new-clause-trail : goal.returns-then-is_new-clause-trail
returns-then-is_new-clause-trail c =
    let ends = c.ends-head.result in
    let from : IsHeadFrom c.args.digraph.now.arcs c.args.trail.now.nodes.items c.args.origin c.args.arc ends.1 = (ends.0, c.ends-head.ensures.arc, c.requires.tail ends.0 ends.1 c.ends-head.ensures.arc) in
    trail_visits c.args.digraph.now.arcs ends.1 c.args.origin c.args.arc c.args.trail.now c.visit.new.self c.in_ok-is_new.is_new from c.in_ok-is_new.ensures.visited

pub returns-clause-trail : goal.returns-clause-trail
returns-clause-trail c =
    let ends = c.ends-head.result in
    let from : IsHeadFrom c.args.digraph.now.arcs c.args.trail.now.nodes.items c.args.origin c.args.arc ends.1 = (ends.0, c.ends-head.ensures.arc, c.requires.tail ends.0 ends.1 c.ends-head.ensures.arc) in
    trail_visits c.args.digraph.now.arcs ends.1 c.args.origin c.args.arc c.args.trail.now c.visit.new.self c.in_ok-is_new.is_new from c.in_ok-is_new.ensures.visited

pub returns-then-is_new-clause-unheld : goal.returns-then-is_new-clause-unheld
returns-then-is_new-clause-unheld c =
    unheld_visit c.args.ends.now c.ends-head.result.1 c.args.origin c.args.arc c.args.trail.now c.visit.new.self c.in_ok-is_new.is_new
    (λ held. false≢true (sym c.if-holds.false ∙ c.holds.ensures.1 held)) c.in_ok-is_new.ensures.visited

pub returns-clause-unheld : goal.returns-clause-unheld
returns-clause-unheld c =
    unheld_visit c.args.ends.now c.ends-head.result.1 c.args.origin c.args.arc c.args.trail.now c.visit.new.self c.in_ok-is_new.is_new
    (λ held. false≢true (sym c.if-holds.false ∙ c.holds.ensures.1 held)) c.in_ok-is_new.ensures.visited

pub returns-then-is_new-clause-looked : goal.returns-then-is_new-clause-looked
returns-then-is_new-clause-looked c = λ l m arc.
    let arcs = c.args.digraph.now.arcs in
    let ends = c.ends-head.result in
    let old = c.args.trail.now in
    let new = c.visit.new.self in
    let parts = some_pair_parts l ends.0 m ends.1 (sym arc ∙ c.ends-head.ensures.arc) in
    let seen = has-from_Contains new.nodes.items ends.1 (visits_there ends.1 c.args.origin c.args.arc old new c.in_ok-is_new.is_new c.in_ok-is_new.ensures.visited) in
    let visited : IsVisited new.nodes.items m = subst (IsVisited new.nodes.items) (sym parts.1) seen in
    let is_new = subst (Visits ends.1 c.args.origin c.args.arc old new) c.if-is_new.true c.in_ok-is_new.ensures.visited in
    let last = visit_last ends.1 c.args.origin c.args.arc old new is_new in
    let there : StandsAt new.nodes.items c.len-place.result ends.1 = subst (λ k. StandsAt new.nodes.items k ends.1) (sym c.len-place.ensures) last in
    looked_at arcs c.args.ends.now c.args.known.now.places.items new.nodes.items c.args.origin m c.stop_at.result (inl visited)
    (stopped arcs c.args.known.now.places.items new.nodes.items ends.1 c.len-place.result c.stop_at.result there c.stop_at.ensures)

pub returns-clause-looked : goal.returns-clause-looked
returns-clause-looked c = λ l m arc.
    let ends = c.ends-head.result in
    let new = c.visit.new.self in
    let parts = some_pair_parts l ends.0 m ends.1 (sym arc ∙ c.ends-head.ensures.arc) in
    let seen = has-from_Contains new.nodes.items ends.1 (visits_there ends.1 c.args.origin c.args.arc c.args.trail.now new c.in_ok-is_new.is_new c.in_ok-is_new.ensures.visited) in
    inl (subst (IsVisited new.nodes.items) (sym parts.1) seen)

pub holds-requires : goal.holds-requires
holds-requires c = subst (λ n. c.ends-head.result.1 < n) (sym c.requires.ends) c.ends-head.ensures.head

pub has-requires : goal.has-requires
has-requires c =
    let head = c.ends-head.result.1 in
    let lt = opposite_below head (length c.args.ends.now) c.args.digraph.now.nodes c.requires.ends c.ends-head.ensures.head in
    omega (arith, lt, c.negation_node.ensures, c.requires.count)

pub returns-then-has-clause-looked : goal.returns-then-has-clause-looked
returns-then-has-clause-looked c = λ l m is.
    let ends = c.ends-head.result in
    let nodes = c.args.trail.now.nodes.items in
    let arc : IsArc c.args.digraph.now.arcs c.args.arc ends.0 ends.1 = c.ends-head.ensures.arc in (
      ends.0,
      ends.1,
      arc,
      Contains-from_has nodes ends.0 (c.args.origin, c.requires.tail ends.0 ends.1 arc),
      subst (Contains nodes) c.negation_node.ensures (c.has.ensures.0 c.if-has.true),
    )

pub returns-then-holds-clause-looked : goal.returns-then-holds-clause-looked
returns-then-holds-clause-looked c = λ l m is.
    let ends = c.ends-head.result in
    let nodes = c.args.trail.now.nodes.items in
    let parts = some_pair_parts l ends.0 m ends.1 (sym is ∙ c.ends-head.ensures.arc) in
    inr (
      subst (λ n. Holds c.args.ends.now (lit_of n)) (sym parts.1) (c.holds.ensures.0 c.if-holds.true),
      λ j le at. false≢true (sym c.if-has.false ∙ c.has.ensures.1
          (Contains-from_has nodes c.negation_node.result (j, at ∙ ap (λ n. Some (opposite_node n)) parts.1 ∙ ap Some (sym c.negation_node.ensures)))),
    )
