use Rattle.std.proofs.Common.{refl, ◌∙◌, arith}
use Rattle.tor_digraph.proofs.Spreadings.{looking_begins, looking_next, looking_done}
use Rattle.tor_digraph.proofs.Members.{read-at}
use Rattle.tor_digraph.proofs.spreading.look.Goals as goal

pub loop-entry-init : goal.loop-entry-init
loop-entry-init c = record {
  count = c.requires.found;
  looking = looking_begins c.args.rows.now.arcs c.args.past.now.items c.args.tail c.row-entry-items.result.now c.args.found.now.items;
}

pub meet-requires-clause-past : goal.meet-requires-clause-past
meet-requires-clause-past c =
    let row = c.row-entry-items.result.now in
    let e = c.entry-item.result in
    let at = read-at row row c.loop-entry.entry-index e refl c.entry-item.is c.loop-entry-test.true in
    let arc = c.row-entry-items.ensures.row.only c.loop-entry.entry-index e at in
    let inside = c.node_count.ensures.inside.heads e.0 c.args.tail e.1 arc in
    let count = c.requires.past in
    omega (arith, inside, count)

pub meet-requires-clause-found : goal.meet-requires-clause-found
meet-requires-clause-found c =
    let row = c.row-entry-items.result.now in
    let e = c.entry-item.result in
    let at = read-at row row c.loop-entry.entry-index e refl c.entry-item.is c.loop-entry-test.true in
    let arc = c.row-entry-items.ensures.row.only c.loop-entry.entry-index e at in
    let inside = c.node_count.ensures.inside.heads e.0 c.args.tail e.1 arc in
    let count = c.loop-entry.invariant.count in
    omega (arith, inside, count)

pub loop-entry-preserved : goal.loop-entry-preserved
loop-entry-preserved c =
    let row = c.row-entry-items.result.now in
    let e = c.entry-item.result in
    let at = read-at row row c.loop-entry.entry-index e refl c.entry-item.is c.loop-entry-test.true in
    let arc = c.row-entry-items.ensures.row.only c.loop-entry.entry-index e at in
    record {
      count = c.meet.ensures.count ∙ c.loop-entry.invariant.count;
      looking = looking_next c.args.rows.now.arcs c.args.past.now.items c.args.tail row c.loop-entry.entry-index c.args.found.now.items
          c.loop-entry.found.items c.meet.new.found.items e c.loop-entry.invariant.looking at (e.0, arc) c.in_ok-meet.ensures.met;
    }

pub returns-clause-looked : goal.returns-clause-looked
returns-clause-looked c =
    let test = c.loop-entry-test.false in
    let end = c.loop-entry.auto.entry-index-end in
    looking_done c.args.rows.now.arcs c.args.past.now.items c.args.tail c.row-entry-items.result.now c.loop-entry.entry-index c.args.found.now.items
    c.loop-entry.found.items c.loop-entry.invariant.looking c.row-entry-items.ensures.row (omega (arith, test, end))
