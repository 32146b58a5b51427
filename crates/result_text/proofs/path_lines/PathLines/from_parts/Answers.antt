use Rattle.std.proofs.Common.{◌∙◌, ap, length}
use Rattle.result_text.proofs.PathLineLemmas.{paths-lines_by, times-lines_by, fates-lines_by}
use Rattle.result_text.proofs.path_lines.PathLines.from_parts.Goals as goal

pub returns-clause-paths : goal.returns-clause-paths
returns-clause-paths c = paths-lines_by c.args.paths c.into_vec.result.items c.args.fates (ap length c.into_vec.ensures ∙ c.requires.times) c.requires.fates

pub returns-clause-times : goal.returns-clause-times
returns-clause-times c = times-lines_by c.args.paths c.into_vec.result.items c.args.fates (ap length c.into_vec.ensures ∙ c.requires.times) c.requires.fates ∙ c.into_vec.ensures

pub returns-clause-fates : goal.returns-clause-fates
returns-clause-fates c = fates-lines_by c.args.paths c.into_vec.result.items c.args.fates (ap length c.into_vec.ensures ∙ c.requires.times) c.requires.fates
