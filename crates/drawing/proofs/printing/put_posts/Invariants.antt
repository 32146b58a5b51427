use Rattle.std.proofs.Common.{take}
use Rattle.std.specs.Prelude.{flat_map}
use Rattle.tor_io.specs.Outflow.{state, Puts}
use Rattle.drawing.specs.Svg.{post_nodes}
use Rattle.drawing.specs.Xml.{nodes_text}
use Rattle.drawing.proofs.printing.put_posts.Given as goal

abbrev pub invariant-loop-post : goal.invariant-loop-post
invariant-loop-post g l =
    let sink = g.S.Sink in
    Puts (state (sink.held l.fn.out) (sink.faults l.fn.out) l.fn.flow) (state (sink.held l.out) (sink.faults l.out) l.flow)
    (nodes_text (flat_map (post_nodes l.link) (take l.post-index l.posts)))
