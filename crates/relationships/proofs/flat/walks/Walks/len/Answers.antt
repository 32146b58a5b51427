use Rattle.std.proofs.Common.{◌≡◌, ◌∙◌, ap, sym, arith, length}
use Rattle.relationships.proofs.FlatLemmas.{length-walks_by}
use Rattle.relationships.proofs.flat.walks.Walks.len.Goals as goal

pub returns-clause-length : goal.returns-clause-length
returns-clause-length c =
    let many : length c.args.self.now ≡ length c.self.inside.ases = ap length (sym c.self.view_is) ∙ length-walks_by c.self.inside.ases c.self.inside.links c.self.invariant in
    let is = c.len.ensures.length in
    omega (arith, many, is)

pub returns-clause-few : goal.returns-clause-few
returns-clause-few c =
    let many : length c.args.self.now ≡ length c.self.inside.ases = ap length (sym c.self.view_is) ∙ length-walks_by c.self.inside.ases c.self.inside.links c.self.invariant in
    let below = c.len.ensures.below in
    omega (arith, many, below)
