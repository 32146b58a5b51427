use Rattle.std.proofs.Common.{◌∙◌, ap, sym, map}
use Rattle.result_text.proofs.PathLineLemmas.{fates-lines_by}
use Rattle.result_text.proofs.path_lines.PathLines.fates.Goals as goal

pub returns : goal.returns
returns c =
    let f = c.self.inside in
    sym (fates-lines_by f.paths f.times.items f.fates c.self.invariant.0 c.self.invariant.1) ∙ ap (λ ls. map (λ l. l.fate) ls) c.self.view_is
