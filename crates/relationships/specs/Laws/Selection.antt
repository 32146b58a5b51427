-- Which paths are kept.
-- Each law is proved as the contract of a function in src/laws/selection.rt.
use Rattle.std.specs.Prelude.{◌≡◌, ◌↔◌, ℕ, Bool, List, ◌++◌, All, IsTrue}
use Rattle.relationships.specs.Selection.{IsServable, Keeps, KeepsFrom}
use Rattle.std.specs.List.{items_where_true}

-- the flags are determined
abbrev pub SelectionLaw : Type 0
SelectionLaw = (paths : List (List ℕ)) (keeps keeps' : List Bool) → Keeps paths keeps → Keeps paths keeps' → keeps ≡ keeps'

-- some orientation serves the kept paths
abbrev pub KeptLaw : Type 0
KeptLaw = (paths : List (List ℕ)) (keeps : List Bool) → Keeps paths keeps → IsServable (items_where_true keeps paths)

-- all paths are kept exactly if one orientation serves all
abbrev pub AllKeptLaw : Type 0
AllKeptLaw = (paths : List (List ℕ)) (keeps : List Bool) → Keeps paths keeps → All (λ k. IsTrue k) keeps ↔ IsServable paths

-- the same behind paths that are kept first: the flags are determined; and where some orientation serves those, one serves them with all
-- that are kept, and all are kept exactly if one orientation serves all
abbrev pub SelectionBehindLaw : Type 0
SelectionBehindLaw =
    (begun paths : List (List ℕ)) (keeps : List Bool) → KeepsFrom begun paths keeps →
    ((keeps' : List Bool) → KeepsFrom begun paths keeps' → keeps ≡ keeps') ×
    (IsServable begun → IsServable (begun ++ items_where_true keeps paths)) ×
    (IsServable begun → All (λ k. IsTrue k) keeps ↔ IsServable (begun ++ paths))
