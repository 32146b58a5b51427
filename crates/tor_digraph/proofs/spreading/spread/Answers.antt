use Rattle.std.proofs.Common.{◌∙◌, arith}
use Rattle.tor_digraph.proofs.Spreadings.{spreading_begins, spreading_next, spreading_done}
use Rattle.tor_digraph.proofs.spreading.spread.Goals as goal

pub loop-at-init : goal.loop-at-init
loop-at-init c = record {
  count = c.add.ensures.count ∙ c.requires.found;
  spreading = spreading_begins c.args.rows.now.arcs c.args.past.now.items c.args.start c.in_ok-add.field-0 c.args.found.now.items c.add.new.self.items c.len-at.result
      c.in_ok-add.ensures.added c.requires.closed c.len-at.ensures;
}

pub loop-at-preserved : goal.loop-at-preserved
loop-at-preserved c = record {
  count = c.look.ensures.count;
  spreading = spreading_next c.args.rows.now.arcs c.args.past.now.items c.args.start c.args.found.now.items c.loop-at.found.items c.look.new.found.items c.loop-at.at
      c.get.result c.loop-at.invariant.spreading c.get.ensures.node c.in_ok-look.ensures.looked;
}

pub returns-clause-closed : goal.returns-clause-closed
returns-clause-closed c =
    let test = c.loop-at-test.false in
    let len = c.len.ensures in
    spreading_done c.args.rows.now.arcs c.args.past.now.items c.args.start c.args.found.now.items c.loop-at.found.items c.loop-at.at c.loop-at.invariant.spreading
    (omega (arith, test, len))
