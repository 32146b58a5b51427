-- Of some paths exactly the right ones can be kept, and each lost one refuted.
use Rattle.std.proofs.Common.{◌≡◌, inl, inr, ℕ, ◌+◌, ◌≤◌, Bool, true, false, List, [], ◌∷◌, ◌++◌, length, map, Option, Some, None, option_map, is_none, refl, sym, ap, ◌∙◌, subst, arith}
use Rattle.std.proofs.Common.{append-nil, append_assoc, length-append, All}
use Rattle.std.specs.List.{AllByRecursion, items_where_true}
use Rattle.std.proofs.lemmas.Bool.{false≢true}
use Rattle.std.proofs.lemmas.List.{map-append}
use Rattle.std.proofs.lemmas.List.Elements.{All-append, All-cons, All-nil, All-contains, All-from_recursion, recursion_from_All}
use Rattle.relationships.specs.declared.given.Given.{Given}
use Rattle.relationships.specs.declared.walk.Walk.{Walk}
use Rattle.relationships.specs.Relationship.{Serves}
use Rattle.relationships.specs.Evidence.{NeighboursDiffer, Numbered, paths_of}
use Rattle.relationships.specs.Selection.{IsServable, KeepsFrom}
use Rattle.relationships.specs.Checking.{LostFrom, kept_of}
use Rattle.relationships.specs.Givens.{returns, NameTwo}
use Rattle.relationships.specs.GivenEvidence.{LostFromWith, AreUpTo, with_given_links}
use Rattle.relationships.proofs.GivenLemmas.{all_parts, returns_differ}
use Rattle.relationships.proofs.Checked.{kept_all}
use Rattle.relationships.proofs.Selecting.{paths_of-kept_from}
use Rattle.relationships.proofs.WalkLemmas.{refuting_law}
use Rattle.tor_clauses.specs.Formulas.{numbered}
use Rattle.tor_clauses.proofs.Exacts.{numbered_paths}
use Rattle.tor_solve.proofs.Refutation.{decision}
use Rattle.path_select.specs.Behind.{places_from}
use Rattle.path_select.proofs.BehindLemmas.{rows_behind}
use Rattle.rel_infer.specs.Returns.{numbers_from}
use Rattle.rel_infer.proofs.Joined.{lost_joined}
use Rattle.rel_infer.proofs.LinksLeft.{lost_changed}
use Rattle.rel_infer.proofs.Relinked.{still_lost}
use Rattle.rel_infer.proofs.ReturnRows.{are_rows, numbers_below}

-- after these paths each further one is kept, or has a walk that refutes
abbrev Selected : ℕ → Numbered → List (List ℕ) → Type 0
Selected n A paths = (walks : List (Option Walk)) × KeepsFrom (paths_of A) paths (map is_none walks) × LostFrom n A paths walks

one_behind : (A : Numbered) (n : ℕ) (path : List ℕ) → paths_of (A ++ (n, path) ∷ []) ≡ paths_of A ++ path ∷ []
one_behind A n path = map-append (λ (p : ℕ × List ℕ). p.1) A ((n, path) ∷ [])

selected : (n : ℕ) (A : Numbered) (paths : List (List ℕ)) → All NeighboursDiffer (paths_of A) → AllByRecursion NeighboursDiffer paths → Selected n A paths
selected n A [] differ apart = ([], tt, tt)
selected n A (path ∷ paths) differ apart =
    let same = one_behind A n path in
    let more = subst (All NeighboursDiffer) (sym same) (All-append NeighboursDiffer (paths_of A) (path ∷ []) differ (All-cons NeighboursDiffer path [] apart.0 (All-nil NeighboursDiffer))) in
    elim (decision (A ++ (n, path) ∷ []) more) [
      | inl s ↦
          let r = selected (n + 1) (A ++ (n, path) ∷ []) paths more apart.1 in
          (None ∷ r.0, (((λ _. subst IsServable same s), (λ _. refl)), subst (λ ps. KeepsFrom ps paths (map is_none r.0)) same r.1), r.2)
      | inr w ↦
          let r = selected (n + 1) A paths differ apart.1 in
          (Some w.0 ∷ r.0, (((λ t. absurd (false≢true t)), (λ s. absurd (refuting_law (A ++ (n, path) ∷ []) w.0 w.1 s.0 (subst (Serves s.0) (sym same) s.1)))), r.1), (w.1, r.2))
    ]

-- flags of some paths and of those after them
keeps_joined : (begun paths more : List (List ℕ)) (keeps flags : List Bool) → KeepsFrom begun paths keeps → KeepsFrom (begun ++ items_where_true keeps paths) more flags →
    KeepsFrom begun (paths ++ more) (keeps ++ flags)
keeps_joined begun [] more [] flags h k = subst (λ ps. KeepsFrom ps more flags) (append-nil begun) k
keeps_joined begun [] more (b ∷ bs) flags h k = absurd h
keeps_joined begun (p ∷ ps) more [] flags h k = absurd h
keeps_joined begun (p ∷ ps) more (true ∷ bs) flags h k =
    (h.0, keeps_joined (begun ++ p ∷ []) ps more bs flags h.1 (subst (λ qs. KeepsFrom qs more flags) (sym (append_assoc begun (p ∷ []) (items_where_true bs ps))) k))
keeps_joined begun (p ∷ ps) more (false ∷ bs) flags h k = (h.0, keeps_joined begun ps more bs flags h.1 k)

module _ (givens : List Given) (paths : List (List ℕ)) where
  -- the rows of the returns, which are numbered on after the paths
  abbrev pub return_rows : Numbered
  return_rows = numbered (paths ++ returns paths givens) (places_from (length paths) (length (returns paths givens)))

  pub rows_are : paths_of return_rows ≡ returns paths givens
  rows_are = numbered_paths (paths ++ returns paths givens) (places_from (length paths) (length (returns paths givens))) ∙ rows_behind paths (returns paths givens)

  pub kept_up_to : (some : List (List ℕ)) (walks : List (Option Walk)) → length some ≤ length paths → AreUpTo (length paths) (kept_of some walks)
  kept_up_to some walks few m path c =
      All-contains (λ (p : ℕ × List ℕ). p.0 ≤ length paths) (kept_of some walks) (m, path)
      (All-from_recursion (λ (p : ℕ × List ℕ). p.0 ≤ length paths) (kept_of some walks) (numbers_below (length paths) 1 some (map is_none walks) (omega (arith, few)))) c

-- the first paths have these walks, and the others some: under the givens exactly the right paths are kept, and each lost one is refuted
abbrev pub Chosen : List Given → List (List ℕ) → List (Option Walk) → Type 0
Chosen givens paths walks =
    (more : List (Option Walk)) × KeepsFrom (returns paths givens) paths (map is_none (walks ++ more)) × LostFromWith givens 1 [] paths (walks ++ more)

pub some_chosen : (givens : List Given) (first rest : List (List ℕ)) (walks : List (Option Walk)) → NameTwo givens → All NeighboursDiffer (first ++ rest) →
    KeepsFrom (returns (first ++ rest) givens) first (map is_none walks) → LostFromWith givens 1 [] first walks → Chosen givens (first ++ rest) walks
some_chosen givens first rest walks two differ keeps lost =
    let paths = first ++ rest in
    let rows = return_rows givens paths in
    let before = kept_of first walks in
    let many = length-append first rest in
    let up_to = kept_up_to givens paths first walks (omega (arith, many)) in
    let parts = all_parts NeighboursDiffer first rest differ in
    let are : paths_of (rows ++ before) ≡ returns paths givens ++ paths_of before =
    map-append (λ (p : ℕ × List ℕ). p.1) rows before ∙ ap (λ (ps : List (List ℕ)). ps ++ paths_of before) (rows_are givens paths) in
    let begun_differ = subst (All NeighboursDiffer) (sym are) (All-append NeighboursDiffer (returns paths givens) (paths_of before) (returns_differ givens paths two)
    (All-from_recursion NeighboursDiffer (paths_of before) (kept_all NeighboursDiffer 1 first (map is_none walks) (recursion_from_All NeighboursDiffer first parts.0)))) in
    let s = selected (1 + length first) (rows ++ before) rest begun_differ (recursion_from_All NeighboursDiffer rest parts.1) in
    let numbers = numbers_from paths 1 givens in
    let F = option_map (with_given_links (length paths) numbers) in
    let flags : map is_none (walks ++ map F s.0) ≡ map is_none walks ++ map is_none s.0 =
    map-append is_none walks (map F s.0) ∙ ap (λ (bs : List Bool). map is_none walks ++ bs) (still_lost (length paths) numbers s.0) in
    let behind : KeepsFrom (returns paths givens ++ items_where_true (map is_none walks) first) rest (map is_none s.0) =
    subst (λ ps. KeepsFrom ps rest (map is_none s.0)) (are ∙ ap (λ (ps : List (List ℕ)). returns paths givens ++ ps) (paths_of-kept_from 1 first (map is_none walks))) s.1 in (
      map F s.0,
      subst (KeepsFrom (returns paths givens) paths) (sym flags) (keeps_joined (returns paths givens) first rest (map is_none walks) (map is_none s.0) keeps behind),
      lost_joined givens 1 [] first rest walks (map F s.0) lost
          (lost_changed givens (length paths) numbers rows (are_rows givens paths) (1 + length first) before rest s.0 up_to (omega (arith, many)) s.2),
    )
