use Rattle.run_laws.proofs.Migrating.{migrate_law}
use Rattle.run_laws.proofs.laws.migrate_law.Goals as goal

pub returns : goal.returns
returns c = migrate_law c.one_value.ensures
