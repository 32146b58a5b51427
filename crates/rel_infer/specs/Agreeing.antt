-- What is asked of orientations behind the returns of givens, said of the orientations that agree with these. An orientation is admitted by
-- what it says of the givens alone.
use Rattle.std.specs.Prelude.{◌≡◌, ◌↔◌, ℕ, Bool, List, [], ◌∷◌, ◌++◌, All, IsTrue, if◌then◌else◌, ⊤}
use Rattle.relationships.specs.declared.label.End.{End}
use Rattle.relationships.specs.declared.given.Given.{Given}
use Rattle.relationships.specs.Relationship.{Orientation, labels_of, Serves}
use Rattle.relationships.specs.Graph.{Edge, SameOn}
use Rattle.relationships.specs.Givens.{AgreesWith, LabelsSay}

-- the orientation says what each given says whose two are neighbours on the paths
abbrev pub AgreesOnEdges : List Given → List (List ℕ) → Orientation → Type 0
AgreesOnEdges givens paths O = AgreesWith givens paths (labels_of O)

-- it says what each given says
abbrev pub AgreesWithAll : List Given → Orientation → Type 0
AgreesWithAll givens O = All (LabelsSay (labels_of O)) givens

-- behind the kept paths each further path is kept exactly if some orientation that is admitted serves it together with them
abbrev pub KeepsAmong : (Orientation → Type 0) → List (List ℕ) → List (List ℕ) → List Bool → Type 0
KeepsAmong admits kept [] [] = ⊤
KeepsAmong admits kept (path ∷ paths) (keep ∷ keeps) =
    (IsTrue keep ↔ ((O : Orientation) × admits O × Serves O (kept ++ path ∷ []))) ×
    KeepsAmong admits (if keep then kept ++ path ∷ [] else kept) paths keeps
KeepsAmong admits kept _ _ = ⊥

-- all orientations that are admitted and serve the paths give the edge the same provider
abbrev pub IsForcedAmong : (Orientation → Type 0) → List (List ℕ) → ℕ → ℕ → Type 0
IsForcedAmong admits paths low high =
    (O O' : Orientation) → admits O → Serves O paths → admits O' → Serves O' paths → O low high ≡ O' low high

-- each edge has its wanted provider exactly if some orientation that is admitted and serves agrees with that and with all edges before
abbrev pub IsPreferredAmong : (Orientation → Type 0) → List (List ℕ) → (Edge → End) → List Edge → Orientation → Type 0
IsPreferredAmong admits kept wanted order O =
    (before : List Edge) (e : Edge) (after : List Edge) → order ≡ before ++ (e ∷ after) →
    (O e.0 e.1 ≡ wanted e) ↔ ((O' : Orientation) × admits O' × Serves O' kept × SameOn before O O' × (O' e.0 e.1 ≡ wanted e))
