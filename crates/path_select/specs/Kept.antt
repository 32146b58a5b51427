-- Which paths are kept of those that are offered in order.
use Rattle.std.specs.Prelude.{◌≡◌, ℕ, ◌+◌, List, ◌++◌, length, take, drop, map, is_none}
use Rattle.relationships.specs.Fates.{walk_of}
use Rattle.relationships.specs.Evidence.{kept_from}
use Rattle.relationships.specs.Checking.{kept_of, LostFrom}
use Rattle.relationships.specs.Selection.{KeepsFrom}
use Rattle.tor_clauses.specs.Formulas.{FitsGraph, numbered, numbered_of, demands_of}
use Rattle.relationships.specs.declared.fate.Fate.{Fate}
use Rattle.path_offer.specs.Choices.{Choice}

-- what is kept: the paths of `first`, and then exactly those of the first `count` paths of the graph, but for the first n, that were not
-- lost, numbered by their places. `offers` says what became of all of them, the first n too
abbrev pub HasKeptRest : List (List ℕ) → ℕ → List ℕ → ℕ → Choice → List Fate → Type 0
HasKeptRest graph n first count choice offers =
    numbered_of graph choice.formula ≡
    numbered graph first ++ kept_from (n + 1) (drop n (take count graph)) (map is_none (map walk_of (drop n offers)))

-- what offering the first `count` paths of the graph comes to, but for those whose fates are there: these fates stay, each other path is
-- kept exactly if some orientation serves it with those that were kept before, and a lost one has a walk that refutes over these and itself
pub record SelectsRest (graph : List (List ℕ)) (count : ℕ) (old new : Choice) (begun fates : List Fate) : Type 0 where
  pub fits : FitsGraph graph new.formula
  pub same : take (length begun) fates ≡ begun
  pub keeps : KeepsFrom (demands_of graph old.formula) (drop (length begun) (take count graph))
      (map is_none (map walk_of (drop (length begun) fates)))
  pub lost : LostFrom (length begun + 1) (numbered_of graph old.formula) (drop (length begun) (take count graph))
      (map walk_of (drop (length begun) fates))
  pub kept : HasKeptRest graph (length begun) old.formula.paths count new fates

-- so where all of the first `count` paths are offered
abbrev pub HasKeptBehind : List (List ℕ) → List ℕ → ℕ → Choice → List Fate → Type 0
HasKeptBehind graph first count choice offers =
    numbered_of graph choice.formula ≡ numbered graph first ++ kept_of (take count graph) (map walk_of offers)

-- exactly the paths that were not lost are kept, numbered by their places
abbrev pub HasKept : List (List ℕ) → Choice → List Fate → Type 0
HasKept graph choice offers = numbered_of graph choice.formula ≡ kept_of graph (map walk_of offers)
