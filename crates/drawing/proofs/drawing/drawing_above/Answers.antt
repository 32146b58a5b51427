use Rattle.std.proofs.Common.{◌∙◌, ap, length, sym, subst}
use Rattle.drawing.specs.Entries.{box_entries}
use Rattle.drawing.specs.Generations.{perches, widest}
use Rattle.drawing.specs.Picture.{HasCells, plan_of}
use Rattle.drawing.proofs.Perching.{sizes_many}
use Rattle.drawing.proofs.Tidying.{cells_are}
use Rattle.drawing.proofs.drawing.drawing_above.Goals as goal

pub drawing_of-drawing-requires-clause-sizes : goal.drawing_of-drawing-requires-clause-sizes
drawing_of-drawing-requires-clause-sizes c =
    let all = c.in_ok-tower.ensures.all in
    let is = all.2 in
    ap length is.sizes_are ∙ sizes_many all.0 ∙ sym is.rank_is

pub drawing_of-drawing-requires-clause-cells : goal.drawing_of-drawing-requires-clause-cells
drawing_of-drawing-requires-clause-cells c =
    let all = c.in_ok-tower.ensures.all in
    let gs = all.0 in
    let is = all.2 in
    let tower = c.in_ok-tower.tower in
    let most = c.args.most in
    let groups = c.args.groups.now in
    let above = box_entries most groups.providers.items in
    let beside = box_entries most groups.peers.items in
    let below = box_entries most groups.customers.items in
    subst (λ r. HasCells (plan_of above beside below r tower.widest) tower.perches.items tower.ties.items) (sym is.rank_is)
    (subst (λ w. HasCells (plan_of above beside below (length gs) w) tower.perches.items tower.ties.items) (sym is.widest_is)
    (subst (λ ps. HasCells (plan_of above beside below (length gs) (widest most gs)) ps tower.ties.items) (sym is.perches_are)
    (subst (HasCells (plan_of above beside below (length gs) (widest most gs)) (perches most gs)) (sym is.ties_are)
    (cells_are c.args.edges.now most groups.providers.items groups.peers.items groups.customers.items gs))))
