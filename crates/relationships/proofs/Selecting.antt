-- Which paths are kept: the selection law, the kept law and the law on all paths; a path more.
use Rattle.std.proofs.Common.{◌≡◌, ◌↔◌, ℕ, ◌+◌, Bool, true, false, List, [], ◌∷◌, ◌++◌, refl, sym, ap, subst, append_assoc, append-nil, IsTrue, if◌then◌else◌}
use Rattle.std.specs.List.{AllByRecursion, items_where_true}
use Rattle.std.proofs.lemmas.Bool.{false≢true}
use Rattle.std.proofs.lemmas.List.Elements.{All-nil, All-from_recursion, recursion_from_All}
use Rattle.relationships.specs.declared.label.End.{End}
use Rattle.relationships.specs.Relationship.{labels_of, ValleyFree}
use Rattle.relationships.specs.Evidence.{paths_of, kept_from}
use Rattle.relationships.specs.Selection.{IsServable, KeepsFrom}
use Rattle.relationships.specs.Laws.Selection.{SelectionLaw, KeptLaw, AllKeptLaw, SelectionBehindLaw}

same_flag : {P : Type 0} (k k' : Bool) → (IsTrue k ↔ P) → (IsTrue k' ↔ P) → k ≡ k'
same_flag true true h h' = refl
same_flag true false h h' = absurd (false≢true (h'.1 (h.0 refl)))
same_flag false true h h' = absurd (false≢true (h.1 (h'.0 refl)))
same_flag false false h h' = refl

same_flags : (kept paths : List (List ℕ)) (keeps keeps' : List Bool) → KeepsFrom kept paths keeps → KeepsFrom kept paths keeps' → keeps ≡ keeps'
same_flags kept [] [] [] h h' = refl
same_flags kept [] [] (k' ∷ keeps') h h' = absurd h'
same_flags kept [] (k ∷ keeps) keeps' h h' = absurd h
same_flags kept (path ∷ paths) [] keeps' h h' = absurd h
same_flags kept (path ∷ paths) (k ∷ keeps) [] h h' = absurd h'
same_flags kept (path ∷ paths) (k ∷ keeps) (k' ∷ keeps') h h' =
    let e = same_flag k k' h.0 h'.0 in
    let rest = same_flags (if k then kept ++ path ∷ [] else kept) paths keeps keeps' h.1
    (subst (λ w. KeepsFrom (if w then kept ++ path ∷ [] else kept) paths keeps') (sym e) h'.1) in
    cc

pub selection_law : SelectionLaw
selection_law paths keeps keeps' h h' = same_flags [] paths keeps keeps' h h'

pub nothing_servable : IsServable []
nothing_servable = ((λ low high. End.Low), All-nil (ValleyFree (labels_of (λ low high. End.Low))))

kept_servable : (kept paths : List (List ℕ)) (keeps : List Bool) → KeepsFrom kept paths keeps → IsServable kept → IsServable (kept ++ items_where_true keeps paths)
kept_servable kept [] [] h s = subst IsServable (sym (append-nil kept)) s
kept_servable kept [] (k ∷ keeps) h s = absurd h
kept_servable kept (path ∷ paths) [] h s = absurd h
kept_servable kept (path ∷ paths) (true ∷ keeps) h s =
    subst IsServable (append_assoc kept (path ∷ []) (items_where_true keeps paths)) (kept_servable (kept ++ path ∷ []) paths keeps h.1 (h.0.0 refl))
kept_servable kept (path ∷ paths) (false ∷ keeps) h s = kept_servable kept paths keeps h.1 s

pub kept_law : KeptLaw
kept_law paths keeps h = kept_servable [] paths keeps h nothing_servable

prefix_too : {X : Type 0} (P : X → Type 0) (xs ys : List X) → AllByRecursion P (xs ++ ys) → AllByRecursion P xs
prefix_too P [] ys h = tt
prefix_too P (x ∷ xs) ys h = (h.0, prefix_too P xs ys h.1)

pub servable_prefix : (paths more : List (List ℕ)) → IsServable (paths ++ more) → IsServable paths
servable_prefix paths more s =
    (s.0, All-from_recursion (ValleyFree (labels_of s.0)) paths (prefix_too (ValleyFree (labels_of s.0)) paths more (recursion_from_All (ValleyFree (labels_of s.0)) (paths ++ more) s.1)))

all_servable : (kept paths : List (List ℕ)) (keeps : List Bool) → KeepsFrom kept paths keeps → AllByRecursion (λ k. IsTrue k) keeps → IsServable kept → IsServable (kept ++ paths)
all_servable kept [] keeps h t s = subst IsServable (sym (append-nil kept)) s
all_servable kept (path ∷ paths) [] h t s = absurd h
all_servable kept (path ∷ paths) (true ∷ keeps) h t s =
    subst IsServable (append_assoc kept (path ∷ []) paths) (all_servable (kept ++ path ∷ []) paths keeps h.1 t.1 (h.0.0 refl))
all_servable kept (path ∷ paths) (false ∷ keeps) h t s = absurd (false≢true t.0)

all_true : (kept paths : List (List ℕ)) (keeps : List Bool) → KeepsFrom kept paths keeps → IsServable (kept ++ paths) → AllByRecursion (λ k. IsTrue k) keeps
all_true kept [] [] h s = tt
all_true kept [] (k ∷ keeps) h s = absurd h
all_true kept (path ∷ paths) [] h s = absurd h
all_true kept (path ∷ paths) (true ∷ keeps) h s =
    (refl, all_true (kept ++ path ∷ []) paths keeps h.1 (subst IsServable (sym (append_assoc kept (path ∷ []) paths)) s))
all_true kept (path ∷ paths) (false ∷ keeps) h s =
    absurd (false≢true (h.0.1 (servable_prefix (kept ++ path ∷ []) paths (subst IsServable (sym (append_assoc kept (path ∷ []) paths)) s))))

pub all_kept_law : AllKeptLaw
all_kept_law paths keeps h = (
  λ t. all_servable [] paths keeps h (recursion_from_All (λ k. IsTrue k) keeps t) nothing_servable,
  λ s. All-from_recursion (λ k. IsTrue k) keeps (all_true [] paths keeps h s),
)

pub selection_behind_law : SelectionBehindLaw
selection_behind_law begun paths keeps h = (
  λ keeps' h'. same_flags begun paths keeps keeps' h h',
  λ s. kept_servable begun paths keeps h s,
  λ s. (
    λ t. all_servable begun paths keeps h (recursion_from_All (λ k. IsTrue k) keeps t) s,
    λ all. All-from_recursion (λ k. IsTrue k) keeps (all_true begun paths keeps h all),
  ),
)

-- a path more, which is kept or not: for a loop that offers path by path
pub KeepsFrom-push : (kept paths : List (List ℕ)) (keeps : List Bool) (path : List ℕ) (keep : Bool) → KeepsFrom kept paths keeps →
    (IsTrue keep ↔ IsServable ((kept ++ items_where_true keeps paths) ++ path ∷ [])) → KeepsFrom kept (paths ++ path ∷ []) (keeps ++ keep ∷ [])
KeepsFrom-push kept [] [] path keep h k = (subst (λ l. IsTrue keep ↔ IsServable (l ++ path ∷ [])) (append-nil kept) k, tt)
KeepsFrom-push kept [] (b ∷ keeps) path keep h k = absurd h
KeepsFrom-push kept (p ∷ paths) [] path keep h k = absurd h
KeepsFrom-push kept (p ∷ paths) (true ∷ keeps) path keep h k = (
  h.0,
  KeepsFrom-push (kept ++ p ∷ []) paths keeps path keep h.1
      (subst (λ l. IsTrue keep ↔ IsServable (l ++ path ∷ [])) (sym (append_assoc kept (p ∷ []) (items_where_true keeps paths))) k),
)
KeepsFrom-push kept (p ∷ paths) (false ∷ keeps) path keep h k = (h.0, KeepsFrom-push kept paths keeps path keep h.1 k)

pub items_where_true-push : (kept paths : List (List ℕ)) (keeps : List Bool) (path : List ℕ) (keep : Bool) → KeepsFrom kept paths keeps →
    items_where_true (keeps ++ keep ∷ []) (paths ++ path ∷ []) ≡ (if keep then items_where_true keeps paths ++ path ∷ [] else items_where_true keeps paths)
items_where_true-push kept [] [] path true h = refl
items_where_true-push kept [] [] path false h = refl
items_where_true-push kept [] (b ∷ keeps) path keep h = absurd h
items_where_true-push kept (p ∷ paths) [] path keep h = absurd h
items_where_true-push kept (p ∷ paths) (true ∷ keeps) path true h = ap (λ (l : List (List ℕ)). p ∷ l) (items_where_true-push (kept ++ p ∷ []) paths keeps path true h.1)
items_where_true-push kept (p ∷ paths) (true ∷ keeps) path false h = ap (λ (l : List (List ℕ)). p ∷ l) (items_where_true-push (kept ++ p ∷ []) paths keeps path false h.1)
items_where_true-push kept (p ∷ paths) (false ∷ keeps) path keep h = items_where_true-push kept paths keeps path keep h.1

-- the two forms of "the kept paths"
pub paths_of-kept_from : (n : ℕ) (paths : List (List ℕ)) (keeps : List Bool) → paths_of (kept_from n paths keeps) ≡ items_where_true keeps paths
paths_of-kept_from n [] [] = refl
paths_of-kept_from n [] (k ∷ keeps) = refl
paths_of-kept_from n (path ∷ paths) [] = refl
paths_of-kept_from n (path ∷ paths) (true ∷ keeps) = ap (λ (l : List (List ℕ)). path ∷ l) (paths_of-kept_from (n + 1) paths keeps)
paths_of-kept_from n (path ∷ paths) (false ∷ keeps) = paths_of-kept_from (n + 1) paths keeps
