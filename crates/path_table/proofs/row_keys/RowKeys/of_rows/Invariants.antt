use Rattle.std.proofs.Common.{◌≡◌, length}
use Rattle.path_table.specs.RowKeys.{AreKeysOf}
use Rattle.path_table.proofs.row_keys.RowKeys.of_rows.Given as goal

-- the rows so far have their keys
abbrev pub invariant-loop-place : goal.invariant-loop-place
invariant-loop-place l = AreKeysOf l.seed l.rows l.row_keys × (length l.row_keys ≡ l.place)
