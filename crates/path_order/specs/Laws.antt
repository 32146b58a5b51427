-- The laws of the order.
use Rattle.std.specs.Prelude.{◌≡◌, ◌↔◌, ℕ, List, IsTrue, Contains, count_by, bytes_eq}
use Rattle.std.specs.List.Sorted.{IsPermutation}
use Rattle.path_table.specs.Rows.{Counted, row_paths, none_twice}
use Rattle.path_table.specs.Table.{counted}
use Rattle.path_order.specs.declared.choice.Order.{Order}
use Rattle.path_order.specs.declared.choice.Order.TheVariants.{Short}
use Rattle.path_order.specs.Orders.{ordered, ordered_behind, Rise}
use Rattle.path_order.specs.TableRows.{AreTableRows}

-- no path stands there twice
abbrev pub AreDistinct : List Counted → Type 0
AreDistinct rows = IsTrue (none_twice (row_paths rows))

-- the one has a path with these times just where the other has it
abbrev pub HaveSameRows : List Counted → List Counted → Type 0
HaveSameRows a b = (row : Counted) → Contains a row ↔ Contains b row

abbrev pub PermutationLaw : Type 0
PermutationLaw = (order : Order) (rows : List Counted) → IsPermutation rows (ordered order rows)

abbrev pub RisingLaw : Type 0
RisingLaw = (rows : List Counted) → AreDistinct rows → Rise (ordered Short rows)

abbrev pub OnlyRisingLaw : Type 0
OnlyRisingLaw = (rows others : List Counted) → AreDistinct rows → IsPermutation rows others → Rise others → others ≡ ordered Short rows

-- as a permutation, and as a set
abbrev pub OneOrderLaw : Type 0
OneOrderLaw = ((a b : List Counted) → AreDistinct a → IsPermutation a b → ordered Short a ≡ ordered Short b)
    × ((a b : List Counted) → AreDistinct a → AreDistinct b → HaveSameRows a b → ordered Short a ≡ ordered Short b)

-- each path stands there as often as here
abbrev pub StandAsOften : List (List ℕ) → List (List ℕ) → Type 0
StandAsOften a b = (path : List ℕ) → count_by (λ other. bytes_eq other path) a ≡ count_by (λ other. bytes_eq other path) b

-- as in another order
abbrev pub MovedPathsLaw : Type 0
MovedPathsLaw = (a b : List (List ℕ)) → IsPermutation a b → StandAsOften a b

-- paths that are counted one after the other, in whatever order: one order, and one set of rows
abbrev pub CountedOrderLaw : Type 0
CountedOrderLaw = (a b : List (List ℕ)) → StandAsOften a b
    → (ordered Short (counted a) ≡ ordered Short (counted b)) × IsPermutation (counted a) (counted b)

-- in their order rows are the same ones, and what a table keeps true stays true; where none is to stay first, it is the order itself
abbrev pub OrderedRowsLaw : Type 0
OrderedRowsLaw = (order : Order) (kept : ℕ) (rows : List Counted)
    → IsPermutation rows (ordered_behind order kept rows) × (AreTableRows rows → AreTableRows (ordered_behind order kept rows))
    × (ordered_behind order 0 rows ≡ ordered order rows)
