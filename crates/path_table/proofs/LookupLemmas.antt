-- Paths that were looked up.
use Rattle.std.proofs.Common.{◌≡◌, ◌∙◌, ℕ, zero, suc, true, List, [], ◌∷◌, length, Option, Some, sym, ap}
use Rattle.std.specs.Prelude.{slice_get, OnOk}
use Rattle.std.specs.List.{list_all}
use Rattle.std.specs.declared.result.Result.{Result}
use Rattle.std.specs.declared.result.Result.TheVariants.{Ok, Err}
use Rattle.std.proofs.lemmas.Bool.{and_parts}
use Rattle.std.proofs.lemmas.Option.{slice_get_within, same_Some}
use Rattle.path_table.specs.Chains.{row_at}
use Rattle.path_table.specs.Inside.{counted_by}
use Rattle.path_clean.specs.Paths.{is_cleaned}
use Rattle.path_table.specs.Rows.{none_twice}
use Rattle.path_table.specs.Lookups.{found_at, AreRowsWhereFound, StandWhereFound, AreCleanWhereFound}
use Rattle.path_table.proofs.TableLemmas.{again-at}
use Rattle.path_table.proofs.KeyLemmas.{get-row}

-- a path was found where the list says so
pub at-found : (places : List (Option ℕ)) (k id : ℕ) → Some id ≡ found_at places k → slice_get places k ≡ Some (Some id)
at-found [] k id is = absurd cc
at-found (found ∷ places) zero id is = ap (λ (o : Option ℕ). Some o) (sym is)
at-found (found ∷ places) (suc k) id is = at-found places k id is

-- the row of a place in a table stands there
pub stand-by : (rows : List (List ℕ)) (times : List ℕ) (paths : List (List ℕ)) (places : List (Option ℕ)) → length times ≡ length rows → none_twice rows ≡ true
    → AreRowsWhereFound rows paths places → StandWhereFound (counted_by rows times) paths places
stand-by rows times paths places many once found k id path at here =
    let row = found k id path at here in
    let within = slice_get_within rows id path row in
    (again-at rows times path id many once within (same_Some (row_at rows id) path (sym (get-row rows id within) ∙ row))).place

all-at : (rows : List (List ℕ)) (k : ℕ) (path : List ℕ) → list_all is_cleaned rows ≡ true → slice_get rows k ≡ Some path → is_cleaned path ≡ true
all-at [] k path all is = absurd cc
all-at (row ∷ rows) zero path all is = ap is_cleaned (sym (same_Some row path is)) ∙ (and_parts (is_cleaned row) (list_all is_cleaned rows) all).0
all-at (row ∷ rows) (suc k) path all is = all-at rows k path (and_parts (is_cleaned row) (list_all is_cleaned rows) all).1 is

-- the rows of a table are clean
pub clean-by : (rows paths : List (List ℕ)) (places : List (Option ℕ)) → list_all is_cleaned rows ≡ true → AreRowsWhereFound rows paths places → AreCleanWhereFound paths places
clean-by rows paths places all found k id path at here = all-at rows id path all (found k id path at here)

pub on_ok : {A E P Q : Type 0} (r : Result A E) → OnOk r P → (P → Q) → OnOk r Q
on_ok (Ok x) h f = f h
on_ok (Err e) h f = tt
