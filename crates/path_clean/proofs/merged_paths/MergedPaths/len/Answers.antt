use Rattle.std.proofs.Common.{◌≡◌, ◌∙◌, length, ap, sym, arith}
use Rattle.path_clean.proofs.MergedLemmas.{length-paths}
use Rattle.path_clean.proofs.merged_paths.MergedPaths.len.Goals as goal

pub returns : goal.returns
returns c =
    let ends = c.self.inside.ends.items in
    let n : length c.args.self.now ≡ length ends = ap length (sym c.self.view_is) ∙ length-paths c.self.inside.numbers.items 0 ends in
    let many = c.len.ensures in
    omega (arith, n, many)
