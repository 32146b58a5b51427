use Rattle.std.proofs.lemmas.Result.{IfOk-weaker}
use Rattle.drawing.specs.Picture.{IsDrawn, IsDrawingOf}
use Rattle.drawing.specs.Tidy.{IsTidy}
use Rattle.drawing.proofs.Drawn.{drawn_of, drawn_tidy}
use Rattle.drawing.proofs.drawing.draw_neighbours.Goals as goal

pub returns-clause-drawn : goal.returns-clause-drawn
returns-clause-drawn c =
    let groups = c.in_ok-groups.groups in
    IfOk-weaker c.drawing_above-drawing.result
    (IsDrawn c.args.edges.now c.args.asked c.args.most c.args.depth groups.providers.items groups.peers.items groups.customers.items)
    (IsDrawingOf c.args.edges.now c.args.asked c.args.most c.args.depth)
    (drawn_of c.args.edges.now c.args.asked c.args.most c.args.depth groups.providers.items groups.peers.items groups.customers.items
    c.in_ok-groups.ensures.providers c.in_ok-groups.ensures.peers c.in_ok-groups.ensures.customers)
    c.drawing_above-drawing.ensures.drawn

pub returns-clause-tidy : goal.returns-clause-tidy
returns-clause-tidy c =
    let groups = c.in_ok-groups.groups in
    IfOk-weaker c.drawing_above-drawing.result
    (IsDrawn c.args.edges.now c.args.asked c.args.most c.args.depth groups.providers.items groups.peers.items groups.customers.items) IsTidy
    (drawn_tidy c.args.edges.now c.args.asked c.args.most c.args.depth groups.providers.items groups.peers.items groups.customers.items)
    c.drawing_above-drawing.ensures.drawn
