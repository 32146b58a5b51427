-- The rows of the returns behind the paths of a graph, and the numbers of their givens. These words are the crate's own.
use Rattle.std.specs.Prelude.{◌≡◌, ℕ, ◌+◌, List, [], ◌∷◌, ◌++◌, length, if◌then◌else◌, map, option_map}
use Rattle.relationships.specs.declared.given.Given.{Given}
use Rattle.relationships.specs.declared.fate.Fate.{Fate}
use Rattle.relationships.specs.Fates.{walk_of}
use Rattle.relationships.specs.Givens.{names_edge, returns}
use Rattle.relationships.specs.GivenEvidence.{with_given_links}
use Rattle.path_select.specs.Behind.{places_from}
use Rattle.rel_infer.specs.declared.inferring.Inferred.{Inferred}
use Rattle.rel_infer.specs.Finding.{AreInferredIn}

-- the numbers, from n on, of those givens whose two are neighbours on the paths
abbrev pub numbers_from : List (List ℕ) → ℕ → List Given → List ℕ
numbers_from paths n [] = []
numbers_from paths n (g ∷ givens) =
    if names_edge paths g then n ∷ numbers_from paths (n + 1) givens else numbers_from paths (n + 1) givens

-- the fates are the old ones, with links into rows behind so many paths changed to name givens
abbrev pub AreRelinked : ℕ → List ℕ → List Fate → List Fate → Type 0
AreRelinked n numbers old new = map walk_of new ≡ map (option_map (with_given_links n numbers)) (map walk_of old)

-- what is inferred is what was, with the links of all walks so changed
pub record IsRelinked (n : ℕ) (numbers : List ℕ) (old new : Inferred) : Type 0 where
  pub fates : AreRelinked n numbers old.fates new.fates
  pub whys : new.found.whys ≡ map (with_given_links n numbers) old.found.whys
  pub edges : new.found.edges ≡ old.found.edges
  pub probes : new.found.probes ≡ old.found.probes

-- what is inferred under givens, with links into the rows of the returns, which are behind the paths, and the numbers of the givens of
-- these rows. The first paths have the fates `begun` beforehand
pub record IsUnlinked (givens : List Given) (ratio : ℕ) (paths : List (List ℕ)) (begun : List Fate) (numbers : List ℕ) (i : Inferred) :
    Type 0 where
  pub numbered : numbers ≡ numbers_from paths 1 givens
  pub inferred : AreInferredIn ratio (paths ++ returns paths givens) (places_from (length paths) (length (returns paths givens)))
      (length paths) begun i

-- the links name givens, where some are given, and else are as they were
abbrev pub IsLinked : ℕ → List Given → List ℕ → Inferred → Inferred → Type 0
IsLinked n [] numbers old new = new ≡ old
IsLinked n (g ∷ givens) numbers old new = IsRelinked n numbers old new
