use Rattle.dump_read.proofs.BatchLemmas.{AreFound-each, on_both}
use Rattle.dump_read.proofs.batch.Batch.look_up.Goals as goal

pub returns-clause-found : goal.returns-clause-found
returns-clause-found c =
    on_both c.find_hashed.result c.find_hashed.ensures.found c.find_hashed.ensures.clean
    (AreFound-each c.args.table.now.rows c.self.inside.causes.items c.find_hashed.new.paths c.find_hashed.new.lookup)
