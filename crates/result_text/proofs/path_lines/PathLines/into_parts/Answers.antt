use Rattle.std.proofs.Common.{◌∙◌, ap, sym, map}
use Rattle.result_text.proofs.PathLineLemmas.{paths-lines_by, times-lines_by, fates-lines_by}
use Rattle.result_text.proofs.path_lines.PathLines.into_parts.Goals as goal

pub returns-clause-paths : goal.returns-clause-paths
returns-clause-paths c =
    let f = c.self.inside in
    sym (paths-lines_by f.paths f.times.items f.fates c.self.invariant.0 c.self.invariant.1) ∙ ap (λ ls. map (λ l. l.path) ls) c.self.view_is

pub returns-clause-times : goal.returns-clause-times
returns-clause-times c =
    let f = c.self.inside in
    c.from_vec.ensures ∙ sym (times-lines_by f.paths f.times.items f.fates c.self.invariant.0 c.self.invariant.1)
    ∙ ap (λ ls. map (λ l. l.times) ls) c.self.view_is

pub returns-clause-fates : goal.returns-clause-fates
returns-clause-fates c =
    let f = c.self.inside in
    sym (fates-lines_by f.paths f.times.items f.fates c.self.invariant.0 c.self.invariant.1) ∙ ap (λ ls. map (λ l. l.fate) ls) c.self.view_is
