-- The laws of the verdict beside dumps in any order.
use Rattle.std.specs.Prelude.{◌≡◌, ℕ, List}
use Rattle.std.specs.List.Sorted.{IsPermutation}
use Rattle.path_clean.specs.Counts.{CauseCounts}
use Rattle.path_table.specs.Rows.{Counted}
use Rattle.path_order.specs.declared.choice.Order.{Order}
use Rattle.path_order.specs.Orders.{ordered_behind}
use Rattle.result_text.specs.declared.file.ResultFile.{ResultFile}
use Rattle.result_rules.specs.Against.{JudgesAgainst}
use Rattle.result_rules.specs.declared.verdict.Verdict.{Verdict}
use Rattle.result_rules.specs.declared.verdict.Verdict.TheVariants.{Yes}
use Rattle.any_order.specs.AnyOrder.{JudgesInAnyOrder}

-- a file has one verdict beside the same dumps
abbrev pub OneInAnyOrderLaw : Type 0
OneInAnyOrderLaw =
    (file : ResultFile) (rows : List Counted) (counts : CauseCounts) (verdict other : Verdict) → JudgesInAnyOrder file rows counts verdict →
    JudgesInAnyOrder file rows counts other → verdict ≡ other

-- a result whose paths are these in some order, the first so many maybe as they stood, is judged yes beside them in any
abbrev pub OrderedAgreesLaw : Type 0
OrderedAgreesLaw =
    (file : ResultFile) (order : Order) (kept : ℕ) (rows others : List Counted) (counts : CauseCounts) →
    JudgesAgainst file (ordered_behind order kept rows) counts Yes → IsPermutation rows others → JudgesInAnyOrder file others counts Yes
