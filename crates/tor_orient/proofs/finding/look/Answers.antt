use Rattle.std.proofs.Common.{◌∙◌, ◌≡◌, refl, sym, subst, arith}
use Rattle.std.proofs.lemmas.Option.{same_Some, slice_get_within}
use Rattle.tor_digraph.specs.Walks.{IsArc}
use Rattle.tor_digraph.specs.InRows.{IsRow}
use Rattle.tor_digraph.proofs.Members.{read-at}
use Rattle.tor_digraph.proofs.Spreadings.{looking_begins, looking_next, looking_done}
use Rattle.tor_digraph.proofs.Trails.{trail_visits}
use Rattle.tor_orient.proofs.Findings.{apart_of, unmet_more}
use Rattle.tor_orient.proofs.finding.look.Goals as goal

pub loop-entry-init : goal.loop-entry-init
loop-entry-init c = record {
  count = c.requires.tried;
  looking = λ tail at. looking_begins c.args.rows.now.arcs c.args.settled.now.items tail c.row-entry-items.result.now c.args.tried.now.nodes.items;
  trail = λ start t. t;
  unmet = c.requires.unmet;
}

pub visit-requires-clause-there : goal.visit-requires-clause-there
visit-requires-clause-there c =
    let row = c.row-entry-items.result.now in
    let e = c.entry-item.result in
    let at = read-at row row c.loop-entry.entry-index e refl c.entry-item.is c.loop-entry-test.true in
    let arc = c.row-entry-items.ensures.row.only c.loop-entry.entry-index e at in
    let inside = c.node_count.ensures.inside.heads e.0 c.get-tail.result e.1 arc in
    let count = c.loop-entry.invariant.count in
    omega (arith, inside, count)

pub visit-requires-clause-place : goal.visit-requires-clause-place
visit-requires-clause-place c =
    let kept = (c.loop-entry.invariant.looking c.get-tail.result c.get-tail.ensures.node).kept c.args.place c.get-tail.result c.get-tail.ensures.node in
    let lt = slice_get_within c.loop-entry.tried.nodes.items c.args.place c.get-tail.result kept in
    omega (arith, lt)

pub returns-then-eq-clause-trail : goal.returns-then-eq-clause-trail
returns-then-eq-clause-trail c = λ start t.
    let row = c.row-entry-items.result.now in
    let e = c.entry-item.result in
    let at = read-at row row c.loop-entry.entry-index e refl c.entry-item.is c.loop-entry-test.true in
    let arc = c.row-entry-items.ensures.row.only c.loop-entry.entry-index e at in
    let kept = (c.loop-entry.invariant.looking c.get-tail.result c.get-tail.ensures.node).kept c.args.place c.get-tail.result c.get-tail.ensures.node in
    trail_visits c.args.rows.now.arcs e.1 c.args.place e.0 c.loop-entry.tried c.visit.new.self c.in_ok-visit.field-0 (c.get-tail.result, arc, kept) c.in_ok-visit.ensures.visited start
    (c.loop-entry.invariant.trail start t)

pub meet-requires-clause-settled : goal.meet-requires-clause-settled
meet-requires-clause-settled c =
    let row = c.row-entry-items.result.now in
    let e = c.entry-item.result in
    let at = read-at row row c.loop-entry.entry-index e refl c.entry-item.is c.loop-entry-test.true in
    let arc = c.row-entry-items.ensures.row.only c.loop-entry.entry-index e at in
    let inside = c.node_count.ensures.inside.heads e.0 c.get-tail.result e.1 arc in
    let count = c.requires.settled in
    omega (arith, inside, count)

pub meet-requires-clause-there : goal.meet-requires-clause-there
meet-requires-clause-there c =
    let row = c.row-entry-items.result.now in
    let e = c.entry-item.result in
    let at = read-at row row c.loop-entry.entry-index e refl c.entry-item.is c.loop-entry-test.true in
    let arc = c.row-entry-items.ensures.row.only c.loop-entry.entry-index e at in
    let inside = c.node_count.ensures.inside.heads e.0 c.get-tail.result e.1 arc in
    let count = c.loop-entry.invariant.count in
    omega (arith, inside, count)

pub meet-requires-clause-place : goal.meet-requires-clause-place
meet-requires-clause-place c =
    let kept = (c.loop-entry.invariant.looking c.get-tail.result c.get-tail.ensures.node).kept c.args.place c.get-tail.result c.get-tail.ensures.node in
    slice_get_within c.loop-entry.tried.nodes.items c.args.place c.get-tail.result kept

pub loop-entry-preserved : goal.loop-entry-preserved
loop-entry-preserved c =
    let arcs = c.args.rows.now.arcs in
    let row = c.row-entry-items.result.now in
    let e = c.entry-item.result in
    let at = read-at row row c.loop-entry.entry-index e refl c.entry-item.is c.loop-entry-test.true in
    let arc = c.row-entry-items.ensures.row.only c.loop-entry.entry-index e at in
    let first = c.args.tried.now.nodes.items in
    let old = c.loop-entry.tried.nodes.items in
    let new = c.meet.new.tried.nodes.items in
    let kept = (c.loop-entry.invariant.looking c.get-tail.result c.get-tail.ensures.node).kept c.args.place c.get-tail.result c.get-tail.ensures.node in
    let apart : e.1 ≡ c.args.end → ⊥ = apart_of e.1 c.args.end c.if-eq.ensures in
    record {
      count = c.meet.ensures.count ∙ c.loop-entry.invariant.count;
      looking = λ tail there.
          let same : c.get-tail.result ≡ tail = same_Some c.get-tail.result tail (sym c.get-tail.ensures.node ∙ there) in
          looking_next arcs c.args.settled.now.items tail row c.loop-entry.entry-index first old new e (c.loop-entry.invariant.looking tail there) at
          (e.0, subst (λ n. IsArc arcs e.0 n e.1) same arc) c.in_ok-meet.ensures.met;
      trail = λ start t. c.in_ok-meet.ensures.trail arcs (c.get-tail.result, arc, kept) start (c.loop-entry.invariant.trail start t);
      unmet = unmet_more c.args.settled.now.items e.1 c.args.end old new c.in_ok-meet.ensures.met apart c.loop-entry.invariant.unmet;
    }

pub returns-clause-looked : goal.returns-clause-looked
returns-clause-looked c = λ tail there.
    let test = c.loop-entry-test.false in
    let end = c.loop-entry.auto.entry-index-end in
    let same : c.get-tail.result ≡ tail = same_Some c.get-tail.result tail (sym c.get-tail.ensures.node ∙ there) in
    let row = subst (λ n. IsRow (λ a. a) c.args.rows.now.arcs n c.row-entry-items.result.now) same c.row-entry-items.ensures.row in (
      c.loop-entry.invariant.unmet,
      looking_done c.args.rows.now.arcs c.args.settled.now.items tail c.row-entry-items.result.now c.loop-entry.entry-index c.args.tried.now.nodes.items
          c.loop-entry.tried.nodes.items (c.loop-entry.invariant.looking tail there) row (omega (arith, test, end)),
    )
