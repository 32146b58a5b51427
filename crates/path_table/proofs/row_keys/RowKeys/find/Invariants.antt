use Rattle.std.proofs.Common.{◌≡◌}
use Rattle.path_table.specs.RowKeys.{number_after}
use Rattle.path_table.proofs.KeyLemmas.{HasPassed}
use Rattle.path_table.proofs.row_keys.RowKeys.find.Given as goal

-- the keys so far are those of other rows
abbrev pub invariant-keys : goal.invariant-keys
invariant-keys l = (l.number ≡ number_after l.hash l.counter) × HasPassed l.rows l.self l.hash l.path l.counter
