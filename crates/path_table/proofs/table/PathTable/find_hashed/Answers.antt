use Rattle.std.proofs.Common.{subst}
use Rattle.path_table.specs.Lookups.{StandWhereFound}
use Rattle.path_table.specs.Rows.{Table}
use Rattle.path_table.proofs.LookupLemmas.{stand-by, clean-by, on_ok}
use Rattle.path_table.proofs.table.PathTable.find_hashed.Goals as goal

pub returns-clause-found : goal.returns-clause-found
returns-clause-found c =
    on_ok c.look_up.result c.look_up.ensures.rows (λ rows. subst (λ (t : Table). StandWhereFound t.rows c.look_up.new.self c.look_up.new.lookup) c.self.view_is
    (stand-by c.self.inside.paths.rows c.self.inside.counts.items c.look_up.new.self c.look_up.new.lookup c.self.invariant.same c.self.invariant.once rows))

pub returns-clause-clean : goal.returns-clause-clean
returns-clause-clean c =
    on_ok c.look_up.result c.look_up.ensures.rows (clean-by c.self.inside.paths.rows c.look_up.new.self c.look_up.new.lookup c.self.invariant.clean)
