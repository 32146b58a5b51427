use Rattle.std.proofs.Common.{take}
use Rattle.std.specs.List.{flat_map}
use Rattle.tor_io.specs.Outflow.{state, Puts}
use Rattle.neighbour_text.specs.NeighbourText.{neighbour_line}
use Rattle.neighbour_text.proofs.writing.put_neighbours.Given as goal

-- the lines of the neighbours in front of this one are put
abbrev pub invariant-loop-neighbour : goal.invariant-loop-neighbour
invariant-loop-neighbour g l =
    let sink = g.S.Sink in
    Puts (state (sink.held l.fn.out) (sink.faults l.fn.out) l.fn.flow) (state (sink.held l.out) (sink.faults l.out) l.flow)
    (flat_map (neighbour_line l.kind) (take l.neighbour-index l.neighbours))
