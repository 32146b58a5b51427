use Rattle.std.proofs.Common.{◌∙◌, refl, arith}
use Rattle.tor_orient.proofs.Findings.{joining_begins, joining_next, joined_closed, joined_grown}
use Rattle.tor_orient.proofs.settling.settle_tried.Goals as goal

pub loop-place-init : goal.loop-place-init
loop-place-init c = record { count = refl; joining = joining_begins c.args.tried.now.nodes.items c.args.settled.now.items }

pub loop-place-preserved : goal.loop-place-preserved
loop-place-preserved c = record {
  count = c.add.ensures.count ∙ c.loop-place.invariant.count;
  joining = joining_next c.args.tried.now.nodes.items c.loop-place.place c.get.result c.in_ok-add.field-0 c.args.settled.now.items c.loop-place.settled.items c.add.new.self.items
      c.loop-place.invariant.joining c.get.ensures.node c.in_ok-add.ensures.added;
}

pub returns-clause-closed : goal.returns-clause-closed
returns-clause-closed c =
    let test = c.loop-place-test.false in
    let end = c.loop-place.auto.place-end in
    let len = c.len-place-end.ensures in
    joined_closed c.args.rows.now.arcs c.args.tried.now.nodes.items c.args.settled.now.items c.loop-place.settled.items c.loop-place.place (omega (arith, test, end, len))
    c.loop-place.invariant.joining c.requires.closed c.requires.near

pub returns-clause-grown : goal.returns-clause-grown
returns-clause-grown c =
    let test = c.loop-place-test.false in
    let end = c.loop-place.auto.place-end in
    let len = c.len-place-end.ensures in
    joined_grown c.args.rows.now.arcs c.args.start c.args.tried.now c.args.settled.now.items c.loop-place.settled.items c.loop-place.place (omega (arith, test, end, len))
    c.requires.trail c.loop-place.invariant.joining
