use Rattle.path_table.proofs.AddLemmas.{added-once}
use Rattle.path_table.proofs.table.PathTable.add.Goals as goal

pub returns-clause-added : goal.returns-clause-added
returns-clause-added c =
    added-once c.add_or_count.result c.args.self.now.rows c.add_or_count.new.self.rows c.args.path.now c.add_or_count.ensures.counted c.add_or_count.ensures.added
