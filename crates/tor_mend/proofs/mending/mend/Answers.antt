use Rattle.std.proofs.Common.{◌≡◌, ◌∙◌, ◌*◌, ◌<◌, List, length, sym, ap, subst}
use Rattle.std.specs.Prelude.{IfNone, IfSome}
use Rattle.relationships.specs.declared.label.End.{End}
use Rattle.tor_digraph.specs.Trails.{IsTrail}
use Rattle.tor_mend.specs.Searches.{AreUnheld, IsStop, ArePassed}
use Rattle.tor_clauses.specs.Literals.{lit_of, Holds}
use Rattle.tor_mend.proofs.Closed.{mended}
use Rattle.tor_mend.proofs.mending.mend.Goals as goal

pub visit_all-requires-clause-ends : goal.visit_all-requires-clause-ends
visit_all-requires-clause-ends c = subst (λ (l : List End). length l * 2 ≡ c.digraph-digraph.result.now.nodes) (sym c.as_slice-ends.ensures)
    (subst (λ net. length c.args.state.now.ends * 2 ≡ net.nodes) (sym c.digraph-digraph.ensures) c.requires.state.ends)

pub visit_all-requires-clause-there : goal.visit_all-requires-clause-there
visit_all-requires-clause-there c = subst (λ net. c.args.start < net.nodes) (sym c.digraph-digraph.ensures) c.requires.there

pub visit_all-requires-clause-count : goal.visit_all-requires-clause-count
visit_all-requires-clause-count c = c.requires.state.trail ∙ sym (ap (λ net. net.nodes) c.digraph-digraph.ensures)

pub visit_all-requires-clause-unheld : goal.visit_all-requires-clause-unheld
visit_all-requires-clause-unheld c = subst (λ (l : List End). Holds l (lit_of c.args.start) → ⊥) (sym c.as_slice-ends.ensures) c.requires.unheld

pub way_from-requires-clause-trail : goal.way_from-requires-clause-trail
way_from-requires-clause-trail c = subst (λ net. IsTrail net.arcs c.args.start c.visit_all.new.trail) c.digraph-digraph.ensures c.in_ok-stop.ensures.trail

pub way_from-requires-clause-stop : goal.way_from-requires-clause-stop
way_from-requires-clause-stop c =
    let known = c.args.state.now.known.places.items in
    let nodes = c.visit_all.new.trail.nodes.items in
    subst (λ net. IsStop net.arcs known nodes c.in-Some.stop) c.digraph-digraph.ensures
    (subst (λ o. IfSome o (IsStop c.digraph-digraph.result.now.arcs known nodes)) c.in-Some.is c.in_ok-stop.ensures.stop)

pub way_from-requires-clause-known : goal.way_from-requires-clause-known
way_from-requires-clause-known c = (c.args.first, c.requires.known)

pub flip_all-requires-clause-count : goal.flip_all-requires-clause-count
flip_all-requires-clause-count c = c.visit_all.ensures.count ∙ ap (λ net. net.nodes) c.digraph-digraph.ensures ∙ sym c.requires.state.ends

pub flip_all-requires-clause-unheld : goal.flip_all-requires-clause-unheld
flip_all-requires-clause-unheld c = subst (λ (l : List End). AreUnheld l c.visit_all.new.trail.nodes.items) c.as_slice-ends.ensures c.in_ok-stop.ensures.unheld

pub returns-in_ok-flip_all-in-None-clause-mended : goal.returns-in_ok-flip_all-in-None-clause-mended
returns-in_ok-flip_all-in-None-clause-mended c =
    let net = c.args.fitted.now.formula.net in
    let old = c.args.state.now.ends in
    let trail = c.visit_all.new.trail in
    let visited = trail.nodes.items in
    let is = subst (λ n. IsTrail n.arcs c.args.start trail) c.digraph-digraph.ensures c.in_ok-stop.ensures.trail in
    let unheld = subst (λ (l : List End). AreUnheld l visited) c.as_slice-ends.ensures c.in_ok-stop.ensures.unheld in
    let none = subst (λ o. IfNone o (ArePassed c.digraph-digraph.result.now.arcs c.as_slice-ends.result.now visited (length visited))) c.in-None.is c.in_ok-stop.ensures.passed in
    let all = subst (λ n. ArePassed n.arcs c.as_slice-ends.result.now visited (length visited)) c.digraph-digraph.ensures none in
    let passed = subst (λ ends. ArePassed net.arcs ends visited (length visited)) c.as_slice-ends.ensures all in
    mended net.arcs old c.args.start trail is unheld c.facts.ensures.partners c.in_ok-flip_all-in-None.ensures.inside passed c.flip_all.new.ends c.in_ok-flip_all-in-None.ensures.agreed

pub returns-in_err-stop-clause-state : goal.returns-in_err-stop-clause-state
returns-in_err-stop-clause-state c = record {
  ends = c.requires.state.ends;
  trail = c.visit_all.ensures.count ∙ ap (λ net. net.nodes) c.digraph-digraph.ensures;
  flips = c.requires.state.flips;
}

pub returns-in_err-way-in-Some-clause-state : goal.returns-in_err-way-in-Some-clause-state
returns-in_err-way-in-Some-clause-state c = record {
  ends = c.requires.state.ends;
  trail = c.visit_all.ensures.count ∙ ap (λ net. net.nodes) c.digraph-digraph.ensures;
  flips = c.requires.state.flips;
}

pub returns-in-Err-clause-state : goal.returns-in-Err-clause-state
returns-in-Err-clause-state c = record {
  ends = c.requires.state.ends;
  trail = c.visit_all.ensures.count ∙ ap (λ net. net.nodes) c.digraph-digraph.ensures;
  flips = c.requires.state.flips;
}

pub returns-in-Ok-clause-state : goal.returns-in-Ok-clause-state
returns-in-Ok-clause-state c = record {
  ends = c.requires.state.ends;
  trail = c.visit_all.ensures.count ∙ ap (λ net. net.nodes) c.digraph-digraph.ensures;
  flips = c.requires.state.flips;
}

pub returns-in_err-flip_all-in-None-clause-state : goal.returns-in_err-flip_all-in-None-clause-state
returns-in_err-flip_all-in-None-clause-state c = record {
  ends = ap (λ n. n * 2) c.flip_all.ensures.many ∙ c.requires.state.ends;
  trail = c.visit_all.ensures.count ∙ ap (λ net. net.nodes) c.digraph-digraph.ensures;
  flips = c.flip_all.ensures.flips;
}

pub returns-in_ok-flip_all-in-None-clause-state : goal.returns-in_ok-flip_all-in-None-clause-state
returns-in_ok-flip_all-in-None-clause-state c = record {
  ends = ap (λ n. n * 2) c.flip_all.ensures.many ∙ c.requires.state.ends;
  trail = c.visit_all.ensures.count ∙ ap (λ net. net.nodes) c.digraph-digraph.ensures;
  flips = c.flip_all.ensures.flips;
}
