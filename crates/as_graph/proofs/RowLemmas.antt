-- The steps of paths in rows that lie one behind the other.
use Rattle.std.proofs.Common.{◌≡◌, ℕ, ◌+◌, ◌<◌, List, [], ◌∷◌, ◌++◌, length, refl, sym, ap, ap₂, ◌∙◌, subst, arith, slice_get, Some, get_or, length-append, append-nil}
use Rattle.std.proofs.lemmas.List.{take_more}
use Rattle.tor_arena.specs.RowLists.{with_end, rows_between, ArePartedBy}
use Rattle.as_graph.proofs.PartedRows.{parted-push, rows_between-push, length-with_end}
use Rattle.relationships.specs.Graph.{Edge, edges_on}
use Rattle.as_graph.specs.declared.step.Step.{Step}
use Rattle.tor_numbers.specs.Edges.{with_edges}
use Rattle.as_graph.specs.Inside.{IsBuilt, AddsSteps, AreRowsOf, ArePathsBetween}
use Rattle.as_graph.proofs.BuildLemmas.{IsBuilt-more, IsBuilt-begins}
use Rattle.as_graph.proofs.StepLemmas.{Walked, Walked-begins, Walked-all}

with_end-some : (bounds : List ℕ) (end : ℕ) → 0 < length bounds → bounds ++ end ∷ [] ≡ with_end bounds end
with_end-some [] end some = absurd (omega arith)
with_end-some (start ∷ ends) end some = refl

-- a row more
pub parted_more : {T : Type 0} (bounds new_bounds : List ℕ) (steps new_steps added : List T) → 0 < length bounds → ArePartedBy bounds (length steps) →
    new_steps ≡ steps ++ added → new_bounds ≡ bounds ++ length new_steps ∷ [] →
    ((0 < length new_bounds) × ArePartedBy new_bounds (length new_steps)) × (rows_between new_steps new_bounds ≡ rows_between steps bounds ++ added ∷ [])
parted_more {T = T} bounds new_bounds steps new_steps added some parted whole is =
    let end : length new_steps ≡ length steps + length added = ap length whole ∙ length-append steps added in
    let ends : new_bounds ≡ with_end bounds (length steps + length added) =
    is ∙ ap (λ (e : ℕ). bounds ++ e ∷ []) end ∙ with_end-some bounds (length steps + length added) some in
    let many = length-with_end bounds (length steps + length added) in
    let more : 0 < length (with_end bounds (length steps + length added)) = omega (arith, many) in (
      (
        subst (λ (b : List ℕ). 0 < length b) (sym ends) more,
        subst (λ (b : List ℕ). ArePartedBy b (length new_steps)) (sym ends)
            (subst (ArePartedBy (with_end bounds (length steps + length added))) (sym end) (parted-push bounds (length steps) (length added) parted)),
      ),
      ap₂ (λ (s : List T) (b : List ℕ). rows_between s b) whole ends ∙ rows_between-push steps added bounds parted,
    )

pub rows_begin : (paths : List (List ℕ)) (es : List Edge) (steps : List Step) (bounds : List ℕ) → es ≡ [] → steps ≡ [] → bounds ≡ 0 ∷ [] → AreRowsOf paths 0 es steps bounds
rows_begin paths es steps bounds h k is = rw (k, is) (record { some = omega arith; parted = (omega arith, refl); built = IsBuilt-begins paths es [] h refl })

pub rows_more : (paths : List (List ℕ)) (place : ℕ) (es : List Edge) (steps : List Step) (bounds : List ℕ) (path : List ℕ) (new : List Edge)
    (new_steps : List Step) (new_bounds : List ℕ) → AreRowsOf paths place es steps bounds → slice_get paths place ≡ Some path → new ≡ with_edges es (edges_on path) →
    AddsSteps new path steps new_steps → new_bounds ≡ bounds ++ length new_steps ∷ [] → AreRowsOf paths (place + 1) new new_steps new_bounds
rows_more paths place es steps bounds path new new_steps new_bounds h at is adds ends =
    let more = parted_more bounds new_bounds steps new_steps adds.added h.some h.parted adds.whole ends in
    record {
      some = more.0.0;
      parted = more.0.1;
      built = subst (IsBuilt paths (place + 1) new) (sym more.1)
          (IsBuilt-more paths place es (rows_between steps bounds) path new adds.added h.built at is adds.stepped);
    }

-- no path is read back yet
pub paths_begin : (paths : List (List ℕ)) (ases bounds : List ℕ) → ases ≡ [] → bounds ≡ 0 ∷ [] → ArePathsBetween paths 0 ases bounds
paths_begin paths ases bounds none is = rw (none, is) (record { many = refl; parted = (omega arith, refl); rows = refl })

-- a path more is read back
pub paths_more : (paths : List (List ℕ)) (place : ℕ) (ases bounds new_ases new_bounds : List ℕ) → ArePathsBetween paths place ases bounds → place < length paths →
    new_ases ≡ ases ++ get_or paths place [] → new_bounds ≡ bounds ++ length new_ases ∷ [] → ArePathsBetween paths (place + 1) new_ases new_bounds
paths_more paths place ases bounds new_ases new_bounds h within whole ends =
    let path = get_or paths place [] in
    let n = h.many in
    let more = parted_more bounds new_bounds ases new_ases path (omega (arith, n)) h.parted whole ends in
    let longer : length new_bounds ≡ length bounds + 1 = ap length ends ∙ length-append bounds (length new_ases ∷ []) in
    record {
      many = omega (arith, longer, n);
      parted = more.0.1;
      rows = more.1 ∙ ap (λ (ps : List (List ℕ)). ps ++ path ∷ []) h.rows ∙ sym (take_more paths place [] within);
    }

-- the steps so far of a path were added behind others
pub record AreAdded (before es : List Edge) (path : List ℕ) (at : ℕ) (old new : List Step) : Type 0 where
  pub added : List Step
  pub whole : new ≡ old ++ added
  pub walked : Walked before es path at added

pub added_begin : (es : List Edge) (path : List ℕ) (old new : List Step) → new ≡ old → AreAdded es es path 1 old new
added_begin es path old new is = record { added = []; whole = is ∙ sym (append-nil old); walked = Walked-begins es path [] refl }

pub added_all : (before es : List Edge) (path : List ℕ) (at : ℕ) (old new : List Step) → AreAdded before es path at old new → length path < at + 1 →
    (es ≡ with_edges before (edges_on path)) × AddsSteps es path old new
added_all before es path at old new h end =
    let all = Walked-all before es path at h.added h.walked (omega (arith, end)) in
    (all.0, record { added = h.added; whole = h.whole; stepped = all.1 })
