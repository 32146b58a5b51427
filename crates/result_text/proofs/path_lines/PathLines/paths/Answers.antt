use Rattle.std.proofs.Common.{◌∙◌, ap, sym, map}
use Rattle.result_text.proofs.PathLineLemmas.{paths-lines_by}
use Rattle.result_text.proofs.path_lines.PathLines.paths.Goals as goal

pub returns : goal.returns
returns c =
    let f = c.self.inside in
    sym (paths-lines_by f.paths f.times.items f.fates c.self.invariant.0 c.self.invariant.1) ∙ ap (λ ls. map (λ l. l.path) ls) c.self.view_is
