use Rattle.std.proofs.Common.{◌≤◌, All, length, subst}
use Rattle.tor_arena.specs.Distinct.{AllDistinct}
use Rattle.path_clean.proofs.GraphPaths.{apart, several}
use Rattle.path_table.specs.Rows.{row_paths}
use Rattle.path_table.specs.Inside.{counted_by}
use Rattle.path_order.proofs.holding.DistinctPaths.facts.Goals as goal

pub returns-clause-several : goal.returns-clause-several
returns-clause-several c =
    subst (λ rows. All (λ path. 2 ≤ length path) (row_paths rows)) c.self.view_is
    (several (row_paths (counted_by c.self.inside.paths c.self.inside.counts)) c.self.invariant.1.clean)

pub returns-clause-apart : goal.returns-clause-apart
returns-clause-apart c =
    subst (λ rows. All AllDistinct (row_paths rows)) c.self.view_is
    (apart (row_paths (counted_by c.self.inside.paths c.self.inside.counts)) c.self.invariant.1.clean)
