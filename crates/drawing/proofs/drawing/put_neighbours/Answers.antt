use Rattle.drawing.specs.declared.drawing.BoxEntry.TheVariants as entry
use Rattle.drawing.proofs.Numbered.{map_behind}
use Rattle.drawing.proofs.drawing.put_neighbours.Goals as goal

pub loop-neighbour-preserved : goal.loop-neighbour-preserved
loop-neighbour-preserved c =
    let l = c.loop-neighbour in
    map_behind (λ n. entry.One n) c.args.neighbours.now l.neighbour-index _ c.args.entries.now.items l.entries.items _ c.loop-neighbour-test.true
    c.in_ok-push.ensures.items l.invariant
