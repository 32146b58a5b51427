use Rattle.rib_bodies.proofs.TableDumpEncodings
use Rattle.rib_bodies.proofs.laws.table_dump_law.Goals as goal

pub returns : goal.returns
returns c = TableDumpEncodings.table_dump_law
