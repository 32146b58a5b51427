use Rattle.tor_arena.proofs.Gets.{take_item}
use Rattle.line_rules.proofs.RuledOut.{forgotten-none, forgotten-more}
use Rattle.line_rules.proofs.marks.batch.forget.Goals as goal

pub loop-edge-init : goal.loop-edge-init
loop-edge-init c = forgotten-none c.args.rounds.now.items

pub loop-edge-preserved : goal.loop-edge-preserved
loop-edge-preserved c =
    let found = c.args.found.now in
    let i = c.loop-edge.edge-index in
    let edge = c.edge-item.result in
    forgotten-more edge i found c.args.rounds.now.items c.loop-edge.rounds.items c.put.new.self.items (take_item found i edge c.loop-edge-test.true c.edge-item.is)
    c.loop-edge.invariant c.put.ensures.items
