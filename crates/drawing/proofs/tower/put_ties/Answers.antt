use Rattle.drawing.proofs.Towering.{ties_more}
use Rattle.drawing.proofs.tower.put_ties.Goals as goal

pub loop-edge-preserved : goal.loop-edge-preserved
loop-edge-preserved c =
    ties_more c.args.lower.now c.args.upper.now c.args.edges.now c.loop-edge.edge-index _ c.args.ties.now.items c.loop-edge.ties.items
    c.put_tie.new.ties.items c.loop-edge-test.true c.in_ok-put_tie.ensures c.loop-edge.invariant
