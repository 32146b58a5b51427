-- What a grading writes: a line for each distinct path, how many paths have each grade, and the customer cone that is asked for.
use Rattle.std.specs.Prelude.{◌≡◌, ◌↔◌, ℕ, ◌+◌, Bool, true, false, List, [], ◌∷◌, ◌++◌, Contains, map, flat_map, count_by, Option, Some}
use Rattle.std.specs.Prelude.{None, codes, decimal}
use Rattle.std.specs.List.Sorted.{IsStrictlyIncreasing}
use Rattle.path_table.specs.Rows.{Counted}
use Rattle.as_rel.specs.declared.line.RelLine.{RelLine}
use Rattle.as_rel.specs.declared.grading.Grade.{Grade}
use Rattle.as_rel.specs.declared.grading.Grade.TheVariants.{Free, Valley, Unknown}
use Rattle.as_rel.specs.Grading.{grade}
use Rattle.as_rel.specs.Cone.{InCone}
use Rattle.run_base.specs.Pieces.{numbers_text}
use Rattle.torgrade_run.specs.declared.cones.Cone.{Cone}
use Rattle.torgrade_run.specs.declared.totals.Totals.{Totals}

-- ---- lines

-- how often a path stood there, a bar, its numbers with a space between two, and what stands behind them
abbrev pub row_text : Counted → List ℕ → List ℕ
row_text row rest = decimal row.times ++ (124 ∷ (numbers_text row.path ++ rest))

-- a bar, a number, a line feed
abbrev pub last_number : ℕ → List ℕ
last_number n = 124 ∷ (decimal n ++ 10 ∷ [])

-- the line of a path with its grade: behind the path, the step that is a valley or isn't known
abbrev pub grade_line : Counted → Grade → List ℕ
grade_line row Free = codes "free|" ++ row_text row (10 ∷ [])
grade_line row (Valley step) = codes "valley|" ++ row_text row (last_number step)
grade_line row (Unknown step) = codes "unknown|" ++ row_text row (last_number step)

abbrev pub graded_line : List RelLine → Counted → List ℕ
graded_line rel row = grade_line row (grade rel row.path)

abbrev pub graded_lines : List RelLine → List Counted → List ℕ
graded_lines rel rows = flat_map (graded_line rel) rows

-- ---- totals

abbrev pub is_free : Grade → Bool
is_free Free = true
is_free (Valley step) = false
is_free (Unknown step) = false

abbrev pub is_valley : Grade → Bool
is_valley Free = false
is_valley (Valley step) = true
is_valley (Unknown step) = false

abbrev pub is_unknown : Grade → Bool
is_unknown Free = false
is_unknown (Valley step) = false
is_unknown (Unknown step) = true

abbrev pub grades_of : List RelLine → List Counted → List Grade
grades_of rel rows = map (λ row. grade rel row.path) rows

-- how many there are of each
abbrev pub totals_of : List Grade → Totals
totals_of grades = record { free = count_by is_free grades; valleys = count_by is_valley grades; unknown = count_by is_unknown grades }

-- with one grade more
abbrev pub with_grade : Totals → Grade → Totals
with_grade totals Free = record totals { free = totals.free + 1 }
with_grade totals (Valley step) = record totals { valleys = totals.valleys + 1 }
with_grade totals (Unknown step) = record totals { unknown = totals.unknown + 1 }

abbrev pub totals_line : Totals → List ℕ
totals_line totals = codes "grade|" ++ (decimal totals.free ++ (124 ∷ (decimal totals.valleys ++ last_number totals.unknown)))

-- the lines of all paths, and behind them the totals
abbrev pub grades_text : List RelLine → List Counted → List ℕ
grades_text rel rows = graded_lines rel rows ++ totals_line (totals_of (grades_of rel rows))

-- ---- the cone

-- the ASes of a cone, each once, in ascending order
pub record AreCone (rel : List RelLine) (of : ℕ) (ases : List ℕ) : Type 0 where
  pub ascending : IsStrictlyIncreasing ases
  pub members : (b : ℕ) → Contains ases b ↔ InCone rel of b

-- the cone of the AS that is asked for, if one is
abbrev pub IsConeAsked : List RelLine → Option ℕ → Option Cone → Type 0
IsConeAsked rel None None = Unit {0}
IsConeAsked rel None (Some found) = ⊥
IsConeAsked rel (Some of) None = ⊥
IsConeAsked rel (Some of) (Some found) = (found.of ≡ of) × AreCone rel of found.members

abbrev pub cone_text : Option Cone → List ℕ
cone_text None = []
cone_text (Some found) = codes "cone|" ++ (decimal found.of ++ (124 ∷ (numbers_text found.members ++ 10 ∷ [])))

-- ---- all

abbrev pub grading_text : List RelLine → List Counted → Option Cone → List ℕ
grading_text rel rows found = grades_text rel rows ++ cone_text found
