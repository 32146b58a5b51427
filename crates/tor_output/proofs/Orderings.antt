-- Distinct paths in the order of a run.
use Rattle.std.proofs.Common.{◌≡◌, ◌≤◌, ℕ, List, ◌++◌, length, take, drop, refl, sym, ap, ◌∙◌, subst, arith}
use Rattle.std.proofs.lemmas.List.{length-map, map-append, take-append-le, take-append-drop, take_all, length-take, length-take-le}
use Rattle.path_table.specs.Rows.{Counted, row_paths}
use Rattle.path_order.specs.declared.choice.Order.{Order}
use Rattle.path_order.specs.declared.choice.Order.TheVariants.{Seen, Short}
use Rattle.path_order.specs.Orders.{ordered_behind, shortest_first}
use Rattle.path_order.specs.TableRows.{AreTableRows}
use Rattle.path_order.proofs.KeptLemmas.{behind_moves, behind_none, rows_moved}
use Rattle.dump_read.specs.declared.taking.Taken.{Taken}
use Rattle.result_text.specs.declared.file.ResultFile.{ResultFile}
use Rattle.result_rules.specs.File.{its_paths}
use Rattle.rel_infer.specs.Earlier.{BeginsWithPathsOf}
use Rattle.tor_words.specs.declared.settings.Settings.{Settings}
use Rattle.tor_output.specs.Output.{paths_joined, paths_taken}

-- ---- what a table keeps true of its rows

pub taken_rows : (settings : Settings) (taken : Taken) → AreTableRows taken.table.rows → AreTableRows (paths_taken settings taken)
taken_rows settings taken are =
    let rows = taken.table.rows in
    subst AreTableRows (behind_none settings.order rows) (rows_moved rows (ordered_behind settings.order 0 rows) (behind_moves settings.order 0 rows) are)

pub joined_rows_too : (settings : Settings) (earlier : ResultFile) (taken : Taken) → AreTableRows taken.table.rows → AreTableRows (paths_joined settings earlier taken)
joined_rows_too settings earlier taken are =
    let rows = taken.table.rows in
    rows_moved rows (paths_joined settings earlier taken) (behind_moves settings.order (length earlier.paths) rows) are

-- ---- the first paths stay

paths_split : (n : ℕ) (rows : List Counted) → row_paths rows ≡ row_paths (take n rows) ++ row_paths (drop n rows)
paths_split n rows = ap row_paths (sym (take-append-drop n rows)) ∙ map-append (λ (row : Counted). row.path) (take n rows) (drop n rows)

first_ones : (n : ℕ) (rows : List Counted) (others : List (List ℕ)) → n ≤ length rows → take n (row_paths (take n rows) ++ others) ≡ row_paths (take n rows)
first_ones n rows others few =
    let many : length (row_paths (take n rows)) ≡ n = length-map (take n rows) (λ (row : Counted). row.path) ∙ length-take-le n rows few in
    take-append-le n (row_paths (take n rows)) others (omega (arith, many)) ∙ take_all n (row_paths (take n rows)) (omega (arith, many))

pub same_first : (order : Order) (n : ℕ) (rows : List Counted) → n ≤ length rows → take n (row_paths (ordered_behind order n rows)) ≡ take n (row_paths rows)
same_first Seen n rows few = refl
same_first Short n rows few =
    ap (take n) (map-append (λ (row : Counted). row.path) (take n rows) (shortest_first (drop n rows)))
    ∙ first_ones n rows (row_paths (shortest_first (drop n rows))) few
    ∙ sym (first_ones n rows (row_paths (drop n rows)) few)
    ∙ ap (take n) (sym (paths_split n rows))

-- rows that begin with the paths of a result are no fewer
pub few_begin : (earlier : ResultFile) (rows : List Counted) → BeginsWithPathsOf (row_paths rows) earlier → length earlier.paths ≤ length rows
few_begin earlier rows begins =
    let n = length earlier.paths in
    let its : length (its_paths earlier) ≡ n = length-map earlier.paths (λ line. line.path) in
    let all : length (row_paths rows) ≡ length rows = length-map rows (λ (row : Counted). row.path) in
    let cut : length (take n (row_paths rows)) ≡ n = ap length begins ∙ its in
    omega (arith, cut, all, short n (row_paths rows))
  where
    short : (n : ℕ) (paths : List (List ℕ)) → length (take n paths) ≤ length paths
    short n paths = omega (arith, length-take n paths)

pub begin_too : (order : Order) (earlier : ResultFile) (rows : List Counted) → BeginsWithPathsOf (row_paths rows) earlier →
    BeginsWithPathsOf (row_paths (ordered_behind order (length earlier.paths) rows)) earlier
begin_too order earlier rows begins = same_first order (length earlier.paths) rows (few_begin earlier rows begins) ∙ begins
