use Rattle.std.proofs.lemmas.Option.{slice_get-get_or}
use Rattle.neighbour_text.specs.NeighbourText.{neighbour_line}
use Rattle.neighbour_text.proofs.Lines.{line_more}
use Rattle.neighbour_text.proofs.writing.put_neighbours.Goals as goal

pub loop-neighbour-preserved : goal.loop-neighbour-preserved
loop-neighbour-preserved g c =
    let neighbours = c.args.neighbours.now in
    let at = c.loop-neighbour.neighbour-index in
    line_more (neighbour_line c.args.kind.now) neighbours at _ (slice_get-get_or neighbours at _ c.loop-neighbour-test.true) c.loop-neighbour.invariant c.put_neighbour.ensures
