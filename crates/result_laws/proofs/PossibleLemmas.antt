-- No lost path could be added, an open edge may have either provider, and a given for it costs no path.
use Rattle.std.proofs.Common.{◌≡◌, ◌≢◌, ◌⊎◌, inl, inr, ℕ, ◌<◌, true, false, List, [], ◌∷◌, ◌++◌, map, filter, min, max, is_none, refl, sym, ap, ◌∙◌, subst, arith, All, IsTrue}
use Rattle.std.specs.Prelude.{Some, slice_get}
use Rattle.std.specs.List.{items_where_true}
use Rattle.std.proofs.lemmas.List.{map-append}
use Rattle.std.proofs.lemmas.List.Elements.{All-append, All-cons, All-nil, Contains-append_left, filter-append}
use Rattle.tor_arena.proofs.Gets.{has-from_Contains, slice_get-map}
use Rattle.relationships.specs.declared.label.End.{End}
use Rattle.relationships.specs.declared.given.Given.{Given}
use Rattle.relationships.specs.declared.fate.Fate.{Fate}
use Rattle.relationships.specs.Fates.{walk_of}
use Rattle.relationships.specs.Relationship.{Orientation, label_of, labels_of, is_low, is_high, opposite, ValleyFree, Serves}
use Rattle.relationships.specs.Graph.{Edge, edge_of}
use Rattle.relationships.specs.Evidence.{NeighboursDiffer, Numbered, paths_of}
use Rattle.relationships.specs.Givens.{names_edge, return_of, returns, end_by, LabelsSay}
use Rattle.relationships.specs.Marking.{is_forced}
use Rattle.relationships.specs.Selection.{IsServable, IsForced, KeepsFrom}
use Rattle.relationships.proofs.Checked.{over_low, over_high}
use Rattle.relationships.proofs.GivenLemmas.{all_parts, ends_hold, agrees_free, given_serving_law, return_differs, return_free, return_holds}
use Rattle.relationships.proofs.Selecting.{selection_behind_law}
use Rattle.relationships.proofs.Slopes.{over-low, over-high}
use Rattle.relationships.proofs.WalkLemmas.{refuting_law}
use Rattle.tor_solve.proofs.Refutation.{decision}
use Rattle.result_text.specs.declared.file.PathLine.{PathLine}
use Rattle.result_text.specs.declared.file.ResultFile.{ResultFile}
use Rattle.result_rules.specs.File.{its_givens, its_paths, its_walks, its_kept, its_returns}
use Rattle.result_rules.specs.Rules.{Accepts}
use Rattle.result_laws.specs.Possible.{IsPossible, HasOneMore, NoneAddedLaw, OpenEdgeLaw, GivenOpenLaw}
use Rattle.result_laws.proofs.AcceptedLemmas.{its_demands, same_kept, valid, demands_differ, rises}
use Rattle.result_laws.proofs.KeptLemmas.{Within, valley_if_lost, keeps_behind_more}

-- ---- lost paths

possible_serves : (file : ResultFile) (O : Orientation) → IsPossible file O → Serves O (its_demands file)
possible_serves file O p = ((given_serving_law (its_givens file) (its_paths file)).1 O (paths_of (its_kept file))).0 p

serves_possible : (file : ResultFile) (O : Orientation) → Serves O (its_demands file) → IsPossible file O
serves_possible file O s = ((given_serving_law (its_givens file) (its_paths file)).1 O (paths_of (its_kept file))).1 s

pub none_added_law : NoneAddedLaw
none_added_law file accepts line walk there lost O possible free =
    let h = has-from_Contains file.paths line there in
    let path = slice_get-map (λ (p : PathLine). p.path) file.paths h.0 line h.1 in
    let walk_at = slice_get-map (λ (p : PathLine). walk_of p.fate) file.paths h.0 line h.1 in
    let flag : slice_get (map is_none (its_walks file)) h.0 ≡ Some (is_none (walk_of line.fate)) = slice_get-map is_none (its_walks file) h.0 (walk_of line.fate) walk_at in
    valley_if_lost O (its_returns file) (its_paths file) (map is_none (its_walks file)) h.0 line.path (valid file accepts).kept path
    (flag ∙ ap (λ (f : Fate). Some (is_none (walk_of f))) lost)
    (subst (λ ps. Serves O (its_returns file ++ ps)) (same_kept file) (possible_serves file O possible)) free

-- ---- whether some orientation serves, decided

unnumbered : (paths : List (List ℕ)) → paths_of (map {B = ℕ × List ℕ} (λ p. (0, p)) paths) ≡ paths
unnumbered [] = refl
unnumbered (p ∷ paths) = ap (λ (ps : List (List ℕ)). p ∷ ps) (unnumbered paths)

pub decide_servable : (paths : List (List ℕ)) → All NeighboursDiffer paths → IsServable paths ⊎ (IsServable paths → ⊥)
decide_servable paths differ =
    let A : Numbered = map (λ p. (0, p)) paths in
    let same = unnumbered paths in
    elim (decision A (subst (All NeighboursDiffer) (sym same) differ)) [
      | inl s ↦ inl (subst IsServable same s)
      | inr w ↦ inr (λ s. refuting_law A w.0 w.1 s.0 (subst (Serves s.0) (sym same) s.1))
    ]

-- ---- open edges

-- the given that names this end of an edge as the provider
abbrev pub given_for : End → ℕ → ℕ → Given
given_for End.Low low high = record { over = low; under = high }
given_for End.High low high = record { over = high; under = low }

pub end_says : (O : Orientation) (end : End) (low high : ℕ) → low < high → O low high ≡ end → LabelsSay (labels_of O) (given_for end low high)
end_says O End.Low low high lt is = over-low (labels_of O) low high lt (ap (λ e. is_low (label_of e)) is)
end_says O End.High low high lt is = over-high (labels_of O) low high lt (ap (λ e. is_high (label_of e)) is)

pub says_end : (O : Orientation) (end : End) (low high : ℕ) → low < high → LabelsSay (labels_of O) (given_for end low high) → O low high ≡ end
says_end O End.Low low high lt says = over_low O low high lt says
says_end O End.High low high lt says = over_high O low high lt says

pub two_differ : (end : End) (low high : ℕ) → low < high → (given_for end low high).over ≢ (given_for end low high).under
two_differ End.Low low high lt e = absurd (omega (arith, lt, e))
two_differ End.High low high lt e = absurd (omega (arith, lt, e))

other_end : (end e : End) → e ≢ end → e ≡ opposite end
other_end End.Low End.Low ne = absurd (ne refl)
other_end End.Low End.High ne = refl
other_end End.High End.Low ne = refl
other_end End.High End.High ne = absurd (ne refl)

-- whether some orientation that serves has this end of an edge as its provider
pub end_or_never : (paths : List (List ℕ)) (low high : ℕ) → All NeighboursDiffer paths → low < high → (end : End) →
    ((O : Orientation) × Serves O paths × (O low high ≡ end)) ⊎ ((O : Orientation) → Serves O paths → O low high ≢ end)
end_or_never paths low high differ lt end =
    let g = given_for end low high in
    let all = All-append NeighboursDiffer paths (return_of g ∷ []) differ
    (All-cons NeighboursDiffer (return_of g) [] (return_differs g (two_differ end low high lt)) (All-nil NeighboursDiffer)) in
    elim (decide_servable (paths ++ return_of g ∷ []) all) [
      | inl s ↦
          let k = all_parts (ValleyFree (labels_of s.0)) paths (return_of g ∷ []) s.1 in
          inl (s.0, k.0, says_end s.0 end low high lt (return_holds (labels_of s.0) g (k.1 0 (return_of g) (omega arith))))
      | inr none ↦
          inr (λ O serves is. none (
            O,
            All-append (ValleyFree (labels_of O)) paths (return_of g ∷ []) serves
                (All-cons (ValleyFree (labels_of O)) (return_of g) [] (return_free (labels_of O) g (end_says O end low high lt is)) (All-nil (ValleyFree (labels_of O)))),
          ))
    ]

forced_if_never : (paths : List (List ℕ)) (low high : ℕ) (end : End) → ((O : Orientation) → Serves O paths → O low high ≢ end) → IsForced paths low high
forced_if_never paths low high end never O O' serves serves' =
    other_end end (O low high) (never O serves) ∙ sym (other_end end (O' low high) (never O' serves'))

-- an edge that is not forced may have either end as its provider
pub either_end : (paths : List (List ℕ)) (low high : ℕ) → All NeighboursDiffer paths → low < high → (IsForced paths low high → ⊥) → (end : End) →
    (O : Orientation) × Serves O paths × (O low high ≡ end)
either_end paths low high differ lt not_forced end = elim (end_or_never paths low high differ lt end) [
  | inl w ↦ w
  | inr never ↦ absurd (not_forced (forced_if_never paths low high end never))
]

pub forced_or_not : (paths : List (List ℕ)) (low high : ℕ) → All NeighboursDiffer paths → low < high → IsForced paths low high ⊎ (IsForced paths low high → ⊥)
forced_or_not paths low high differ lt = elim (end_or_never paths low high differ lt End.Low) [
  | inr never ↦ inl (forced_if_never paths low high End.Low never)
  | inl w ↦ elim (end_or_never paths low high differ lt End.High) [
    | inr never ↦ inl (forced_if_never paths low high End.High never)
    | inl v ↦ inr (λ forced. let same : End.Low ≡ End.High = sym w.2 ∙ forced w.0 v.0 w.1 v.1 ∙ v.2 in cc)
  ]
]

pub open_edge_law : OpenEdgeLaw
open_edge_law file accepts line there is_open end =
    let marked = (valid file accepts).forced line there in
    let w = either_end (its_demands file) line.low line.high (demands_differ file accepts) (rises file accepts line there)
    (λ f. open_or_forced (marked.1 f)) end in
    (w.0, serves_possible file w.0 w.1, w.2)
  where
    open_or_forced : IsTrue (is_forced line.mark) → ⊥
    open_or_forced t = let u : false ≡ true = ap is_forced (sym is_open) ∙ t in cc

-- ---- givens of open edges

-- an orientation that has the given's provider says what the given says
pub given_held : (O : Orientation) (g : Given) → g.over ≢ g.under → (low high : ℕ) → edge_of g.over g.under ≡ (low, high) → O low high ≡ end_by g.over g.under →
    LabelsSay (labels_of O) g
given_held O g two low high same is =
    (ends_hold O (g ∷ []) (two, tt) (subst (λ (e : Edge). O e.0 e.1 ≡ end_by g.over g.under) (sym same) is, tt)).0

pub edge_apart : (a b low high : ℕ) → low < high → edge_of a b ≡ (low, high) → a ≢ b
edge_apart a b low high lt same e =
    let low_is : min a b ≡ low = ap (λ (e : Edge). e.0) same in
    let high_is : max a b ≡ high = ap (λ (e : Edge). e.1) same in
    omega (arith, lt, low_is, high_is, e)

pub returns_with : (paths : List (List ℕ)) (givens : List Given) (g : Given) → returns paths (givens ++ g ∷ []) ≡ returns paths givens ++ returns paths (g ∷ [])
returns_with paths givens g =
    ap (map return_of) (filter-append (names_edge paths) givens (g ∷ [])) ∙
    map-append return_of (filter (names_edge paths) givens) (filter (names_edge paths) (g ∷ []))

one_return : (O : Orientation) (paths : List (List ℕ)) (g : Given) → LabelsSay (labels_of O) g → Serves O (returns paths (g ∷ []))
one_return O paths g says = agrees_free paths (labels_of O) (g ∷ [])
    (All-cons (λ h. IsTrue (names_edge paths h) → LabelsSay (labels_of O) h) g [] (λ _. says) (All-nil (λ h. IsTrue (names_edge paths h) → LabelsSay (labels_of O) h)))

pub given_open_law : GivenOpenLaw
given_open_law file accepts line there is_open given of_line = (kept, others)
  where
    kept : KeepsFrom (returns (its_paths file) (its_givens file ++ given ∷ [])) (its_paths file) (map is_none (its_walks file))
    kept =
        let lt = rises file accepts line there in
        let w = open_edge_law file accepts line there is_open (end_by given.over given.under) in
        let says = given_held w.0 given (edge_apart given.over given.under line.low line.high lt of_line) line.low line.high of_line w.2 in
        let parts = returns_with (its_paths file) (its_givens file) given in
        let demands = possible_serves file w.0 w.1 in
        let all = all_parts (ValleyFree (labels_of w.0)) (its_returns file) (paths_of (its_kept file)) demands in
        let begun_served = subst (Serves w.0) (sym parts)
        (All-append (ValleyFree (labels_of w.0)) (its_returns file) (returns (its_paths file) (given ∷ [])) all.0 (one_return w.0 (its_paths file) given says)) in
        keeps_behind_more w.0 (its_returns file) (returns (its_paths file) (its_givens file ++ given ∷ [])) (its_paths file) (map is_none (its_walks file))
        (subst (Within (its_returns file)) (sym parts) (λ p c. Contains-append_left (its_returns file) (returns (its_paths file) (given ∷ [])) p c))
        (valid file accepts).kept
        (All-append (ValleyFree (labels_of w.0)) (returns (its_paths file) (its_givens file ++ given ∷ [])) (items_where_true (map is_none (its_walks file)) (its_paths file))
        begun_served (subst (Serves w.0) (same_kept file) all.1))

    others : (other : ResultFile) → Accepts other → HasOneMore file given other → map is_none (its_walks other) ≡ map is_none (its_walks file)
    others other accepted has =
        let theirs = (valid other accepted).kept in
        let on_paths = subst (λ ps. KeepsFrom (returns ps (its_givens other)) ps (map is_none (its_walks other))) has.paths theirs in
        let with_given = subst (λ gs. KeepsFrom (returns (its_paths file) gs) (its_paths file) (map is_none (its_walks other))) has.givens on_paths in
        sym ((selection_behind_law (returns (its_paths file) (its_givens file ++ given ∷ [])) (its_paths file) (map is_none (its_walks file)) kept).0 (map is_none (its_walks other)) with_given)
