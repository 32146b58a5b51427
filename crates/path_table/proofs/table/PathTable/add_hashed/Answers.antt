use Rattle.std.proofs.Common.{◌≡◌, subst}
use Rattle.std.specs.Prelude.{OnOk}
use Rattle.path_table.specs.Table.{with_path}
use Rattle.path_table.proofs.AddLemmas.{added-once}
use Rattle.path_table.proofs.table.PathTable.add_hashed.Goals as goal

pub returns-clause-added : goal.returns-clause-added
returns-clause-added c =
    subst (λ path. OnOk c.add_or_count.result (c.add_or_count.new.self.rows ≡ with_path c.args.self.now.rows path)) c.numbers.ensures
    (added-once c.add_or_count.result c.args.self.now.rows c.add_or_count.new.self.rows c.numbers.result.now c.add_or_count.ensures.counted c.add_or_count.ensures.added)
