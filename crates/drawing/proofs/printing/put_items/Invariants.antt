use Rattle.std.proofs.Common.{take}
use Rattle.std.specs.Prelude.{flat_map}
use Rattle.tor_io.specs.Outflow.{state, Puts}
use Rattle.drawing.specs.Svg.{item_nodes}
use Rattle.drawing.specs.Xml.{nodes_text}
use Rattle.drawing.proofs.printing.put_items.Given as goal

abbrev pub invariant-loop-item : goal.invariant-loop-item
invariant-loop-item g l =
    let sink = g.S.Sink in
    Puts (state (sink.held l.fn.out) (sink.faults l.fn.out) l.fn.flow) (state (sink.held l.out) (sink.faults l.out) l.flow)
    (nodes_text (flat_map (item_nodes l.link) (take l.item-index l.items)))
