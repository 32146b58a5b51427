use Rattle.tor_digraph.proofs.Searches.{if_ok_weaker}
use Rattle.tor_digraph.proofs.way.way_to.Goals as goal

pub returns : goal.returns
returns g c = if_ok_weaker c.reversed-way.result
    (λ w h. (c.in_ok-back.back.root, c.in_ok-back.ensures.root, λ arcs t. h arcs c.args.node (c.in_ok-back.ensures.back arcs t)))
    c.reversed-way.ensures
