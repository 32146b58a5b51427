use Rattle.std.proofs.Common.{◌<◌, length, refl}
use Rattle.tor_arena.proofs.Gets.{All-get, item_of, take_item}
use Rattle.line_rules.proofs.TurnedRows.{back-none, back-more}
use Rattle.line_rules.proofs.marks.neighbours.Neighbours.add_to_each.Goals as goal

pub loop-from-init : goal.loop-from-init
loop-from-init c = back-none c.args.to c.args.self.now

pub loop-from-preserved : goal.loop-from-preserved
loop-from-preserved c =
    let rows = c.args.self.now in
    let row = c.args.row.now in
    let i = c.loop-from.from-index in
    let edge = c.from-item.result in
    let at = item_of row row i edge refl c.loop-from-test.true c.from-item.is in
    back-more c.args.to edge i row rows c.loop-from.self c.add.new.self (take_item row i edge c.loop-from-test.true c.from-item.is)
    (All-get (λ k. k < length rows) row i edge c.requires at) c.loop-from.invariant c.in_ok-add.ensures
