use Rattle.telling.proofs.Excerpts.{short_lines}
use Rattle.telling.proofs.laws.short_lines_law.Goals as goal

pub returns : goal.returns
returns c = short_lines
