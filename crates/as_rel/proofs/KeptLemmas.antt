-- Exactly the kept paths are free under the labels of the edges of all paths.
use Rattle.std.proofs.Common.{◌≡◌, ◌≢◌, ◌↔◌, ℕ, zero, suc, ◌<◌, Bool, true, false, List, [], ◌∷◌, ◌++◌, map, flat_map, Some, refl, sym, ◌∙◌, subst, All, IsTrue}
use Rattle.std.specs.Prelude.{slice_get}
use Rattle.std.specs.List.{AllByRecursion, AllPairs, items_where_true}
use Rattle.std.proofs.lemmas.Bool.{false≢true}
use Rattle.std.proofs.lemmas.List.{length-map}
use Rattle.std.proofs.lemmas.List.Elements.{All-contains, All-from_recursion, All-push, recursion_from_All}
use Rattle.std.proofs.lemmas.Option.{same_Some}
use Rattle.std.proofs.Math.ListN.{get_or-map}
use Rattle.tor_digraph.specs.Closing.{Has}
use Rattle.relationships.specs.declared.label.End.{End}
use Rattle.relationships.specs.Relationship.{Labelling, ValleyFree, slopes}
use Rattle.relationships.specs.Graph.{Edge, edges, edges_on}
use Rattle.relationships.specs.Evidence.{NeighboursDiffer}
use Rattle.relationships.specs.Givens.{returns}
use Rattle.relationships.specs.Selection.{IsServable, KeepsFrom}
use Rattle.relationships.proofs.Checked.{distinct_keeps, reading, reading_serves, rising_all}
use Rattle.relationships.proofs.Edges.{along_each}
use Rattle.relationships.proofs.GivenLemmas.{given_serving_law}
use Rattle.relationships.proofs.Neighbours.{edge_law}
use Rattle.result_text.specs.EdgeLabels.{labels_in}
use Rattle.result_text.specs.declared.file.EdgeLine.{EdgeLine}
use Rattle.as_rel.specs.declared.line.RelLine.{RelLine}
use Rattle.as_rel.specs.declared.grading.Grade.TheVariants.{Free, Unknown}
use Rattle.as_rel.specs.Grading.{AreFree, IsGrade, grade, steps_on}
use Rattle.as_rel.specs.Labelled.{AreAlong, ends_of, line_of_edge}
use Rattle.as_rel.specs.Keeping.{KeptFreeLaw, EndsLaw}
use Rattle.as_rel.proofs.Grades.{grade_is, known_law, one_grade}
use Rattle.as_rel.proofs.LabelSteps.{label_law}

-- ---- lists, place by place

each_at : {X : Type 0} (P : X → Type 0) (xs : List X) → ((k : ℕ) (x : X) → slice_get xs k ≡ Some x → P x) → AllByRecursion P xs
each_at P [] h = tt
each_at P (x ∷ xs) h = (h 0 x refl, each_at P xs (λ k. h (suc k)))

at_each : {X : Type 0} (P : X → Type 0) (xs : List X) → AllByRecursion P xs → (k : ℕ) (x : X) → slice_get xs k ≡ Some x → P x
at_each P [] h k x at = absurd (cc at)
at_each P (y ∷ xs) h zero x at = subst P (same_Some y x at) h.0
at_each P (y ∷ xs) h (suc k) x at = at_each P xs h.1 k x at

-- ---- the edges of paths

rising_lines : (labelled : List EdgeLine) → AllByRecursion (λ (e : Edge). e.0 < e.1) (map ends_of labelled) → AllByRecursion (λ (e : EdgeLine). e.low < e.high) labelled
rising_lines [] h = tt
rising_lines (e ∷ es) h = (h.0, rising_lines es h.1)

module _ (labelled : List EdgeLine) (paths : List (List ℕ)) (listed : map ends_of labelled ≡ edges paths) where
  rising : All NeighboursDiffer paths → All (λ (e : EdgeLine). e.low < e.high) labelled
  rising differ =
      let up = distinct_keeps (λ (e : Edge). e.0 < e.1) (flat_map edges_on paths) (rising_all paths (recursion_from_All NeighboursDiffer paths differ)) in
      All-from_recursion (λ (e : EdgeLine). e.low < e.high) labelled
      (rising_lines labelled (subst (AllByRecursion (λ (e : Edge). e.0 < e.1)) (sym listed) up))

  once : AllPairs (λ (e f : EdgeLine). ends_of e ≢ ends_of f) labelled
  once i j d lt within same =
      let apart : AllPairs ◌≢◌ (map ends_of labelled) = subst (AllPairs ◌≢◌) (sym listed) (edge_law paths).0 in
      apart i j (ends_of d) lt (subst (λ n. j < n) (sym (length-map labelled ends_of)) within)
      (get_or-map ends_of labelled i d ∙ same ∙ sym (get_or-map ends_of labelled j d))

  along : All (AreAlong labelled) paths
  along =
      let each = All-from_recursion (Has (map ends_of labelled)) (map ends_of labelled) (each_at (Has (map ends_of labelled)) (map ends_of labelled) (λ k x at. (k, at))) in
      All-from_recursion (AreAlong labelled) paths
      (along_each (Has (map ends_of labelled)) paths (subst (All (Has (map ends_of labelled))) listed each))

pub ends_law : EndsLaw
ends_law labelled paths differ listed = (rising labelled paths listed differ, once labelled paths listed)

-- ---- kept exactly if valley-free

module _ (L : Labelling) where
  served : (kept : List (List ℕ)) (path : List ℕ) → All (ValleyFree L) kept → ValleyFree L path → IsServable (kept ++ path ∷ [])
  served kept path free v = (reading End.Low L, reading_serves End.Low L (kept ++ path ∷ []) (All-push (ValleyFree L) kept path free v))

  moved : (p path : List ℕ) (b keep : Bool) → Some p ≡ Some path → Some b ≡ Some keep → ValleyFree L p ↔ IsTrue b → ValleyFree L path ↔ IsTrue keep
  moved p path b keep at flag h =
      subst (λ (q : List ℕ). ValleyFree L q ↔ IsTrue keep) (same_Some p path at) (subst (λ (c : Bool). ValleyFree L p ↔ IsTrue c) (same_Some b keep flag) h)

  exactly : (kept paths : List (List ℕ)) (keeps : List Bool) → KeepsFrom kept paths keeps → All (ValleyFree L) kept → AllByRecursion (ValleyFree L) (items_where_true keeps paths) →
      (k : ℕ) (path : List ℕ) (keep : Bool) → slice_get paths k ≡ Some path → slice_get keeps k ≡ Some keep → ValleyFree L path ↔ IsTrue keep
  exactly kept [] keeps h free all k path keep at flag = absurd (cc at)
  exactly kept (p ∷ paths) [] h free all k path keep at flag = absurd h
  exactly kept (p ∷ paths) (true ∷ keeps) h free all zero path keep at flag = moved p path true keep at flag (λ v. refl, λ t. all.0)
  exactly kept (p ∷ paths) (false ∷ keeps) h free all zero path keep at flag =
      moved p path false keep at flag (λ v. h.0.1 (served kept p free v), λ t. absurd (false≢true t))
  exactly kept (p ∷ paths) (true ∷ keeps) h free all (suc k) path keep at flag =
      exactly (kept ++ p ∷ []) paths keeps h.1 (All-push (ValleyFree L) kept p free all.0) all.1 k path keep at flag
  exactly kept (p ∷ paths) (false ∷ keeps) h free all (suc k) path keep at flag = exactly kept paths keeps h.1 free all k path keep at flag

-- ---- the grades

pub kept_free_law : KeptFreeLaw
kept_free_law givens labelled paths keeps differ listed kept agrees free = record {
  keeps = keeps;
  kept = kept;
  free = λ k path keep at flag. (
    λ g. (exact k path keep at flag).0 ((grades path (in_place k path at)).0.0 g),
    λ t. (grades path (in_place k path at)).0.1 ((exact k path keep at flag).1 t),
  );
  known = λ path number c. (grades path (All-contains (AreAlong labelled) paths path (along labelled paths listed) c)).1 number;
}
  where
    L : Labelling
    L = labels_in labelled

    in_place : (k : ℕ) (path : List ℕ) → slice_get paths k ≡ Some path → AreAlong labelled path
    in_place k path at = at_each (AreAlong labelled) paths (recursion_from_All (AreAlong labelled) paths (along labelled paths listed)) k path at

    grades : (path : List ℕ) → AreAlong labelled path →
        (IsGrade (steps_on (map line_of_edge labelled) path) Free ↔ AreFree (slopes L path)) ×
        ((number : ℕ) → IsGrade (steps_on (map line_of_edge labelled) path) (Unknown number) → ⊥)
    grades path each = known_law (steps_on (map line_of_edge labelled) path) (slopes L path) (label_law labelled path (rising labelled paths listed differ) each)

    exact : (k : ℕ) (path : List ℕ) (keep : Bool) → slice_get paths k ≡ Some path → slice_get keeps k ≡ Some keep → ValleyFree L path ↔ IsTrue keep
    exact =
        exactly L (returns paths givens) paths keeps kept (((given_serving_law givens paths).0 L).0 agrees)
        (recursion_from_All (ValleyFree L) (items_where_true keeps paths) free)

-- ---- the same of the grade that is found

pub free_exactly : (lines : List RelLine) (path : List ℕ) (keep : Bool) → IsGrade (steps_on lines path) Free ↔ IsTrue keep → (grade lines path ≡ Free) ↔ IsTrue keep
free_exactly lines path keep h = (
  λ e. h.0 (subst (IsGrade (steps_on lines path)) e (grade_is lines path)),
  λ t. one_grade (steps_on lines path) (grade lines path) Free (grade_is lines path) (h.1 t),
)

pub never_unknown : (lines : List RelLine) (path : List ℕ) (number : ℕ) → (IsGrade (steps_on lines path) (Unknown number) → ⊥) → grade lines path ≡ Unknown number → ⊥
never_unknown lines path number never e = never (subst (IsGrade (steps_on lines path)) e (grade_is lines path))
