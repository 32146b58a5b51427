-- What becomes of a path that is offered.
use Rattle.std.specs.Prelude.{◌≡◌, ◌↔◌, ℕ, List, [], ◌∷◌, IsTrue, IfSome}
use Rattle.relationships.specs.Fates.{walk_of, is_kept}
use Rattle.relationships.specs.Evidence.{Refutes}
use Rattle.relationships.specs.Selection.{IsServable}
use Rattle.as_graph.specs.Paths.{paths_at}
use Rattle.tor_clauses.specs.Formulas.{FitsGraph, IsServed, numbered}
use Rattle.relationships.specs.declared.fate.Fate.{Fate}
use Rattle.path_offer.specs.Choices.{Choice, with_offered, ChangesFrom}

-- the path is kept exactly if some orientation serves it together with those that were kept before
abbrev pub IsKeptExactly : List (List ℕ) → Choice → ℕ → Fate → Type 0
IsKeptExactly graph old path offer = IsTrue (is_kept offer) ↔ IsServable (paths_at graph (with_offered old path))

-- if it is lost, its walk refutes over it and those that were kept before
abbrev pub IsRefutedIfLost : List (List ℕ) → Choice → ℕ → Fate → Type 0
IsRefutedIfLost graph old path offer = IfSome (walk_of offer) (Refutes (numbered graph (with_offered old path)))

-- what offering a path comes to. It is decided exactly, and where it is lost nothing changes. Where the orientation serves the path
-- already, it stays
pub record IsOffered (graph : List (List ℕ)) (path : ℕ) (old new : Choice) (fate : Fate) : Type 0 where
  pub fits : FitsGraph graph new.formula
  pub exact : IsKeptExactly graph old path fate
  pub kept : IsTrue (is_kept fate) → new.formula.paths ≡ with_offered old path
  pub lost : IfSome (walk_of fate) (λ walk. new ≡ old)
  pub walk : IsRefutedIfLost graph old path fate
  pub same : IsServed graph (path ∷ []) old.ends → new.ends ≡ old.ends
  pub changed : ChangesFrom graph path new.formula.net.arcs old.ends new.ends

-- what offering a path and taking it back comes to: it is decided exactly, and a walk refutes where it would be lost
pub record IsTried (graph : List (List ℕ)) (path : ℕ) (old : Choice) (fate : Fate) : Type 0 where
  pub exact : IsKeptExactly graph old path fate
  pub walk : IsRefutedIfLost graph old path fate
