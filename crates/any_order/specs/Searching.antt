-- Where the path lines of a result stop to be the paths of dumps, in whatever order.
use Rattle.std.specs.Prelude.{ℕ, ◌<◌, List}
use Rattle.path_table.specs.Rows.{Counted}
use Rattle.result_text.specs.declared.file.ResultFile.{ResultFile}
use Rattle.any_order.specs.AnyOrder.{IsAmong}

-- this is the first place in which a path is not among the rows, or the end behind which some have no line
pub record LacksFirst (file : ResultFile) (rows : List Counted) (k : ℕ) : Type 0 where
  pub breach : IsAmong file rows k → ⊥
  pub before : (j : ℕ) → j < k → IsAmong file rows j
