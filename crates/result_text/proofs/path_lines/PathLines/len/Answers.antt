use Rattle.std.proofs.Common.{◌≡◌, ◌∙◌, ap, sym, arith, length}
use Rattle.result_text.proofs.PathLineLemmas.{length-lines_by}
use Rattle.result_text.proofs.path_lines.PathLines.len.Goals as goal

pub returns-clause-length : goal.returns-clause-length
returns-clause-length c =
    let f = c.self.inside in
    let many : length c.args.self.now ≡ length f.paths = ap length (sym c.self.view_is) ∙ length-lines_by f.paths f.times.items f.fates c.self.invariant.0 c.self.invariant.1 in
    let is = c.len.ensures.length in
    omega (arith, many, is)

pub returns-clause-few : goal.returns-clause-few
returns-clause-few c =
    let f = c.self.inside in
    let many : length c.args.self.now ≡ length f.paths = ap length (sym c.self.view_is) ∙ length-lines_by f.paths f.times.items f.fates c.self.invariant.0 c.self.invariant.1 in
    let below = c.len.ensures.below in
    omega (arith, many, below)
