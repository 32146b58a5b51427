-- Which paths are kept, and which edges these force.
-- The rule of selection is this project's own; how a result shows that it was followed is in docs/FORMATS.md.
use Rattle.std.specs.Prelude.{◌≡◌, ◌↔◌, ℕ, Bool, List, [], ◌∷◌, ◌++◌, IsTrue, if◌then◌else◌, ⊤}
use Rattle.relationships.specs.Relationship.{Orientation, Serves}

-- some orientation serves the paths
abbrev pub IsServable : List (List ℕ) → Type 0
IsServable paths = (O : Orientation) × Serves O paths

-- behind the kept paths each further path is kept exactly if some orientation serves it together with them
abbrev pub KeepsFrom : List (List ℕ) → List (List ℕ) → List Bool → Type 0
KeepsFrom kept [] [] = ⊤
KeepsFrom kept (path ∷ paths) (keep ∷ keeps) =
    (IsTrue keep ↔ IsServable (kept ++ path ∷ [])) × KeepsFrom (if keep then kept ++ path ∷ [] else kept) paths keeps
KeepsFrom kept _ _ = ⊥

-- the flags say of each path, in order, whether it is kept
abbrev pub Keeps : List (List ℕ) → List Bool → Type 0
Keeps paths keeps = KeepsFrom [] paths keeps

-- all orientations that serve the paths give the edge the same provider
abbrev pub IsForced : List (List ℕ) → ℕ → ℕ → Type 0
IsForced paths low high =
    (O O' : Orientation) → Serves O paths → Serves O' paths → O low high ≡ O' low high
