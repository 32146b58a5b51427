use Rattle.std.proofs.Common.{◌≡◌}
use Rattle.path_table.specs.RowKeys.{number_after, AreTaken}
use Rattle.path_table.proofs.row_keys.RowKeys.add.Given as goal

-- the numbers so far are keys
abbrev pub invariant-keys : goal.invariant-keys
invariant-keys l = (l.number ≡ number_after l.hash l.counter) × AreTaken l.fn.self l.hash l.counter × (l.self-inside.keys.keys ≡ l.fn.self)
