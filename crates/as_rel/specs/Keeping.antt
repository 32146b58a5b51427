-- What the labels of edges make of the paths that they were found for: exactly the kept ones are free. Where relationships are given, the
-- labels agree with them, and so does each orientation that is asked for: one that agrees with the givens and serves paths is one that
-- serves the returns of the givens and these paths (`given_serving_law`).
use Rattle.std.specs.Prelude.{◌≡◌, ◌≢◌, ◌↔◌, ℕ, ◌<◌, Bool, List, All, Contains, IsTrue, Some, map, slice_get}
use Rattle.std.specs.List.{AllPairs, items_where_true}
use Rattle.relationships.specs.Relationship.{ValleyFree}
use Rattle.relationships.specs.Graph.{edges}
use Rattle.relationships.specs.Evidence.{NeighboursDiffer}
use Rattle.relationships.specs.declared.given.Given.{Given}
use Rattle.relationships.specs.Selection.{KeepsFrom}
use Rattle.relationships.specs.Givens.{returns, AgreesWith}
use Rattle.result_text.specs.EdgeLabels.{labels_in}
use Rattle.result_text.specs.declared.file.EdgeLine.{EdgeLine}
use Rattle.as_rel.specs.declared.line.RelLine.{RelLine}
use Rattle.as_rel.specs.declared.grading.Grade.TheVariants.{Free, Unknown}
use Rattle.as_rel.specs.Grading.{IsGrade, steps_on}
use Rattle.as_rel.specs.Labelled.{ends_of, line_of_edge}

-- Under these lines exactly the kept paths have the grade free, and none has the grade unknown.
-- A path is kept exactly if some orientation that agrees with the givens serves it together with those kept before it
pub record ExactlyKeptAreFree (givens : List Given) (paths : List (List ℕ)) (lines : List RelLine) : Type 0 where
  pub keeps : List Bool
  pub kept : KeepsFrom (returns paths givens) paths keeps
  pub free : (k : ℕ) (path : List ℕ) (keep : Bool) → slice_get paths k ≡ Some path → slice_get keeps k ≡ Some keep →
      IsGrade (steps_on lines path) Free ↔ IsTrue keep
  pub known : (path : List ℕ) (number : ℕ) → Contains paths path → IsGrade (steps_on lines path) (Unknown number) → ⊥

-- where the edges are those of the paths, the labels agree with the givens whose two are an edge, and the kept paths are valley-free under
-- them, it is so under the lines of the edges
abbrev pub KeptFreeLaw : Type 0
KeptFreeLaw =
    (givens : List Given) (labelled : List EdgeLine) (paths : List (List ℕ)) (keeps : List Bool) → All NeighboursDiffer paths →
    map ends_of labelled ≡ edges paths → KeepsFrom (returns paths givens) paths keeps → AgreesWith givens paths (labels_in labelled) →
    All (ValleyFree (labels_in labelled)) (items_where_true keeps paths) → ExactlyKeptAreFree givens paths (map line_of_edge labelled)

-- of the edges of paths, the lower AS of each stands first, and no two are the same
abbrev pub EndsLaw : Type 0
EndsLaw =
    (labelled : List EdgeLine) (paths : List (List ℕ)) → All NeighboursDiffer paths → map ends_of labelled ≡ edges paths →
    All (λ e. e.low < e.high) labelled × AllPairs (λ e f. ends_of e ≢ ends_of f) labelled
