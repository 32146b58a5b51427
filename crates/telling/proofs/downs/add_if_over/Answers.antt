use Rattle.telling.proofs.DownLemmas.{links_pushed, arc_pushed}
use Rattle.telling.proofs.downs.add_if_over.Goals as goal

pub returns-clause-downs : goal.returns-clause-downs
returns-clause-downs c =
    let more = c.in_ok-add_arc.ensures in
    let new = c.add_arc.new.downs in
    links_pushed c.args.file.now c.args.all.now.edges c.args.downs.now.graph new.graph c.args.downs.now.links new.links c.args.from c.args.to c.args.link
    more.nodes more.arcs more.links (c.requires.down (c.is_over_at.ensures.0 c.if-not-is_over_at.false)) c.requires.downs

pub returns-clause-still : goal.returns-clause-still
returns-clause-still c = (arc_pushed c.args.downs.now.graph.arcs c.add_arc.new.downs.graph.arcs c.args.from c.args.to c.in_ok-add_arc.ensures.arcs).0

pub returns-clause-here : goal.returns-clause-here
returns-clause-here c over = (arc_pushed c.args.downs.now.graph.arcs c.add_arc.new.downs.graph.arcs c.args.from c.args.to c.in_ok-add_arc.ensures.arcs).1
