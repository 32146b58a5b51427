use Rattle.std.proofs.Common.{◌∙◌, ap, sym}
use Rattle.path_table.specs.Rows.{row_paths, times_of}
use Rattle.path_table.proofs.TableLemmas.{paths_of-counted_by, times_of-counted_by}
use Rattle.path_table.proofs.table.PathTable.into_rows.Goals as goal

pub returns-clause-paths : goal.returns-clause-paths
returns-clause-paths c =
    c.into_rows.ensures ∙ sym (paths_of-counted_by c.self.inside.paths.rows c.self.inside.counts.items c.self.invariant.same) ∙ ap (λ t. row_paths t.rows) c.self.view_is

pub returns-clause-times : goal.returns-clause-times
returns-clause-times c =
    c.from_vec.ensures ∙ sym (times_of-counted_by c.self.inside.paths.rows c.self.inside.counts.items c.self.invariant.same) ∙ ap (λ t. times_of t.rows) c.self.view_is
