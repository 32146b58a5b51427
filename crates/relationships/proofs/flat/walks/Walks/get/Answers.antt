use Rattle.std.proofs.Common.{◌≡◌, ◌∙◌, ap, sym, arith, length, slice_get}
use Rattle.relationships.proofs.FlatLemmas.{length-walks_by, walk-at}
use Rattle.relationships.proofs.flat.walks.Walks.get.Goals as goal

pub row-requires : goal.row-requires
row-requires c =
    let many : length c.args.self.now ≡ length c.self.inside.ases = ap length (sym c.self.view_is) ∙ length-walks_by c.self.inside.ases c.self.inside.links c.self.invariant in
    let there = c.requires in
    omega (arith, many, there)

pub row-requires-2 : goal.row-requires-2
row-requires-2 c =
    let many : length c.args.self.now ≡ length c.self.inside.ases = ap length (sym c.self.view_is) ∙ length-walks_by c.self.inside.ases c.self.inside.links c.self.invariant in
    let same = c.self.invariant in
    let there = c.requires in
    omega (arith, many, same, there)

pub returns : goal.returns
returns c =
    ap (λ walks. slice_get walks c.args.id) (sym c.self.view_is)
    ∙ walk-at c.self.inside.ases c.self.inside.links c.args.id c.row.result.now c.row-2.result.now c.row.ensures c.row-2.ensures
