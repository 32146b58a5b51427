-- The lines and the totals of graded paths, one more at a time.
use Rattle.std.proofs.Common.{◌≡◌, ℕ, zero, suc, ◌+◌, ◌<◌, ◌≤◌, ◌^◌, List, [], ◌∷◌, ◌++◌, length, get_or, take, drop, Option, Some, sym, ap, ap₂, ◌∙◌, subst, append_assoc, add-one, arith}
use Rattle.std.specs.Prelude.{count_by, option_map, sum_by}
use Rattle.std.specs.List.{slice_get}
use Rattle.std.proofs.lemmas.Grind.{flat_map-append}
use Rattle.std.proofs.lemmas.List.{append-nil, length-map, length-take, take-append-drop}
use Rattle.std.proofs.lemmas.List.Sums.{count_by-le-length, count_by_more_no, count_by_more_yes, sum_by-cons}
use Rattle.tor_io.specs.Contents.{GainsPrefix}
use Rattle.tor_io.proofs.Passing.{longer}
use Rattle.path_table.specs.Rows.{Counted, row_paths}
use Rattle.as_rel.specs.declared.line.RelLine.{RelLine}
use Rattle.as_rel.specs.declared.grading.Grade.{Grade}
use Rattle.as_rel.specs.declared.grading.Grade.TheVariants.{Free, Valley, Unknown}
use Rattle.as_rel.specs.Grading.{grade}
use Rattle.torgrade_run.specs.declared.totals.Totals.{Totals}
use Rattle.torgrade_run.specs.GradeText.{grade_line, graded_line, graded_lines, grades_of, is_free, is_valley, is_unknown, totals_of, with_grade}

-- ---- lines

-- the row whose path and times these are
row_at : (rows : List Counted) (i : ℕ) (path : List ℕ) (times : ℕ) → slice_get (row_paths rows) i ≡ Some path → option_map (λ row. row.times) (slice_get rows i) ≡ Some times
    → take (suc i) rows ≡ take i rows ++ record { path = path; times = times } ∷ []
row_at [] i path times is counted = absurd cc
row_at (row ∷ rows) zero path times is counted = ap₂ (λ p t. record { path = p; times = t } ∷ []) (some_path row.path path is) (some_times row.times times counted)
  where
    some_path : (x y : List ℕ) → Some x ≡ Some y → x ≡ y
    some_path x y e = cc

    some_times : (x y : ℕ) → Some x ≡ Some y → x ≡ y
    some_times x y e = cc
row_at (row ∷ rows) (suc i) path times is counted = ap (λ (t : List Counted). row ∷ t) (row_at rows i path times is counted)

pub one_line_more : (rel : List RelLine) (rows : List Counted) (i : ℕ) (path : List ℕ) (times : ℕ) (g : Grade) → g ≡ grade rel path → slice_get (row_paths rows) i ≡ Some path
    → option_map (λ row. row.times) (slice_get rows i) ≡ Some times
    → graded_lines rel (take i rows) ++ grade_line (record { path = path; times = times }) g ≡ graded_lines rel (take (i + 1) rows)
one_line_more rel rows i path times g same is counted =
    let row : Counted = record { path = path; times = times } in
    let line : grade_line row g ≡ graded_line rel row = ap (grade_line row) same in
    ap (λ (t : List ℕ). graded_lines rel (take i rows) ++ t) line
    ∙ sym (ap (graded_lines rel) (rw add-one (row_at rows i path times is counted)) ∙ flat_map-append (graded_line rel) (take i rows) (row ∷ [])
    ∙ ap (λ (t : List ℕ). graded_lines rel (take i rows) ++ t) (append-nil (graded_line rel row)))

-- the lines so far are a first part of all
pub lines_stop : (rel : List RelLine) (rows : List Counted) (i : ℕ) (old new : Option (List ℕ)) (before : List ℕ) → GainsPrefix old new (before ++ graded_lines rel (take i rows))
    → GainsPrefix old new (before ++ graded_lines rel rows)
lines_stop rel rows i old new before gain =
    subst (λ t. GainsPrefix old new (before ++ t)) (sym (flat_map-append (graded_line rel) (take i rows) (drop i rows)) ∙ ap (graded_lines rel) (take-append-drop i rows))
    (subst (GainsPrefix old new) (append_assoc before (graded_lines rel (take i rows)) (graded_lines rel (drop i rows)))
    (longer old new (before ++ graded_lines rel (take i rows)) (graded_lines rel (drop i rows)) gain))

-- ---- totals

-- the grade in this place
grade_at : (rel : List RelLine) (rows : List Counted) (i : ℕ) (path : List ℕ) → slice_get (row_paths rows) i ≡ Some path → get_or (grades_of rel rows) i Free ≡ grade rel path
grade_at rel [] i path is = absurd cc
grade_at rel (row ∷ rows) zero path is = ap (grade rel) (some_path row.path path is)
  where
    some_path : (x y : List ℕ) → Some x ≡ Some y → x ≡ y
    some_path x y e = cc
grade_at rel (row ∷ rows) (suc i) path is = grade_at rel rows i path is

totals_are : (a b c d e f : ℕ) → a ≡ d → b ≡ e → c ≡ f → ◌≡◌ {A = Totals} (record { free = a; valleys = b; unknown = c }) (record { free = d; valleys = e; unknown = f })
totals_are a b c d e f p q r = cc

one_more : (grades : List Grade) (i : ℕ) (g : Grade) → i < length grades → get_or grades i Free ≡ g → totals_of (take (i + 1) grades) ≡ with_grade (totals_of (take i grades)) g
one_more grades i Free lt is =
    totals_are _ _ _ _ _ _ (count_by_more_yes is_free grades i Free lt (ap is_free is))
    (count_by_more_no is_valley grades i Free lt (ap is_valley is)) (count_by_more_no is_unknown grades i Free lt (ap is_unknown is))
one_more grades i (Valley step) lt is =
    totals_are _ _ _ _ _ _ (count_by_more_no is_free grades i Free lt (ap is_free is))
    (count_by_more_yes is_valley grades i Free lt (ap is_valley is)) (count_by_more_no is_unknown grades i Free lt (ap is_unknown is))
one_more grades i (Unknown step) lt is =
    totals_are _ _ _ _ _ _ (count_by_more_no is_free grades i Free lt (ap is_free is))
    (count_by_more_no is_valley grades i Free lt (ap is_valley is)) (count_by_more_yes is_unknown grades i Free lt (ap is_unknown is))

pub one_grade_more : (rel : List RelLine) (rows : List Counted) (i : ℕ) (path : List ℕ) (g : Grade) (old new : Totals) → i < length rows → g ≡ grade rel path → slice_get (row_paths rows) i ≡ Some path
    → old ≡ totals_of (take i (grades_of rel rows)) → new ≡ with_grade old g → new ≡ totals_of (take (i + 1) (grades_of rel rows))
one_grade_more rel rows i path g old new lt same is before after =
    let there : i < length (grades_of rel rows) = omega (arith, lt, length-map rows (λ row. grade rel row.path)) in
    after ∙ ap (λ t. with_grade t g) before ∙ sym (one_more (grades_of rel rows) i g there (grade_at rel rows i path is ∙ sym same))

-- none is greater than how many grades there are
pub few : (grades : List Grade) (i : ℕ) (totals : Totals) → i ≤ 2 ^ 23 → totals ≡ totals_of (take i grades)
    → (totals.free < 2 ^ 32) × (totals.valleys < 2 ^ 32) × (totals.unknown < 2 ^ 32)
few grades i totals le is =
    let free : totals.free ≡ count_by is_free (take i grades) = ap (λ (t : Totals). t.free) is in
    let valleys : totals.valleys ≡ count_by is_valley (take i grades) = ap (λ (t : Totals). t.valleys) is in
    let unknown : totals.unknown ≡ count_by is_unknown (take i grades) = ap (λ (t : Totals). t.unknown) is in (
      omega (arith, free, count_by-le-length is_free (take i grades), length-take i grades, le),
      omega (arith, valleys, count_by-le-length is_valley (take i grades), length-take i grades, le),
      omega (arith, unknown, count_by-le-length is_unknown (take i grades), length-take i grades, le),
    )

-- a path is no longer than all paths are in sum
pub short : (paths : List (List ℕ)) (i : ℕ) (path : List ℕ) → slice_get paths i ≡ Some path → length path ≤ sum_by length paths
short [] i path is = absurd cc
short (p ∷ paths) zero path is = let n : length p ≡ length path = ap length (some_path p path is) in omega (arith, n, sum_by-cons length p paths)
  where
    some_path : (x y : List ℕ) → Some x ≡ Some y → x ≡ y
    some_path x y e = cc
short (p ∷ paths) (suc i) path is = omega (arith, short paths i path is, sum_by-cons length p paths)
