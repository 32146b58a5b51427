-- What is known of open lines while they are tested in batches.
use Rattle.std.specs.Prelude.{◌≡◌, ◌⊎◌, ℕ, ◌+◌, ◌*◌, ◌<◌, ◌≤◌, Bool, IsTrue, List, ◌++◌, [], ◌∷◌, length, Option, Some, None, All, Contains}
use Rattle.result_text.specs.declared.file.ResultFile.{ResultFile}
use Rattle.result_rules.specs.File.{its_probes}
use Rattle.result_rules.specs.Rules.{ForSome}
use Rattle.line_rules.specs.Batches.{CanFlipTogether, HasRounds, IsBatch}
use Rattle.line_rules.specs.Serving.{CanFlip, ServesAt}
use Rattle.line_rules.specs.declared.marks.consistency.Testing.{Testing}

-- open line k can flip
abbrev pub FlipsAt : ResultFile → ℕ → Type 0
FlipsAt file k = ForSome (its_probes file) k (CanFlip file)

-- a line stands at the failing one, if there is one, or behind it
abbrev pub IsBehind : Option ℕ → ℕ → Type 0
IsBehind None k = ⊥
IsBehind (Some first) k = first ≤ k

-- where the lines before this one end, of so many; if there is none, where all end
abbrev pub end_before : Option ℕ → ℕ → ℕ
end_before None count = count
end_before (Some first) count = first

-- the failing line, if there is one, doesn't serve
abbrev pub IsFailing : ResultFile → Option ℕ → Type 0
IsFailing file None = Unit {0}
IsFailing file (Some k) = (k < length file.probes) × (ServesAt file k → ⊥)

-- open line k can flip, or doesn't come before the failing one
abbrev pub IsTested : ResultFile → Option ℕ → ℕ → Type 0
IsTested file failing k = FlipsAt file k ⊎ IsBehind failing k

-- one line was tested, or waits for another batch; in a new batch none waits
pub record Tests (file : ResultFile) (implied conflicting implying : List (List ℕ)) (place : ℕ) (old new : Testing) (done : Bool) :
    Type 0 where
  pub batch : IsBatch implied conflicting implying new.batch
  pub failing : IsFailing file old.failing → IsFailing file new.failing
  pub keeps : (k : ℕ) → IsBehind old.failing k → IsBehind new.failing k
  pub tested : IsTrue done → IsTested file new.failing place
  pub round : (IsTrue done × (new.batch.round ≤ old.batch.round + 1)) ⊎ ((IsTrue done → ⊥) × (new.batch.round ≡ old.batch.round))
  pub first : All (λ m. m < old.batch.round) old.batch.ruled.items → IsTrue done

-- one line was tried: it can flip, or it waits
pub record Tries (file : ResultFile) (implied conflicting : List (List ℕ)) (place : ℕ) (old new : Testing) (done : Bool) : Type 0 where
  pub rounds : HasRounds (length implied) new.batch
  pub together : CanFlipTogether implied conflicting new.batch.rounds.items new.batch.round
  pub failing : new.failing ≡ old.failing
  pub round : new.batch.round ≡ old.batch.round
  pub tested : IsTrue done → IsTested file new.failing place

-- a line that is tested is left out, and another one waits
abbrev pub IsWaiting : Bool → ℕ → List ℕ → List ℕ → Type 0
IsWaiting done n old new = (IsTrue done × (new ≡ old)) ⊎ ((IsTrue done → ⊥) × (new ≡ old ++ n ∷ []))

-- all of these lines are tested but those that wait
abbrev pub AreTestedBut : ResultFile → Option ℕ → List ℕ → List ℕ → Type 0
AreTestedBut file failing places waiting = (k : ℕ) → Contains places k → IsTested file failing k ⊎ Contains waiting k

-- a batch has tested all of these lines but those that wait, at least one of them, and took no more rounds than lines
pub record IsBatchTested (file : ResultFile) (implied conflicting implying : List (List ℕ)) (places : List ℕ) (old new : Testing)
    (waiting : List ℕ) : Type 0 where
  pub batch : IsBatch implied conflicting implying new.batch
  pub failing : IsFailing file new.failing
  pub keeps : (k : ℕ) → IsBehind old.failing k → IsBehind new.failing k
  pub tested : AreTestedBut file new.failing places waiting
  pub inside : All (λ k. k < length file.probes) waiting
  pub fewer : (length places ≡ 0) ⊎ (length waiting < length places)
  pub rounds : new.batch.round + length waiting ≤ old.batch.round + 1 + length places

-- all of these lines were tried in one round, and are tested but those that wait
pub record AreTried (file : ResultFile) (implied : List (List ℕ)) (places : List ℕ) (old new : Testing) (waiting : List ℕ) : Type 0 where
  pub rounds : HasRounds (length implied) new.batch
  pub failing : new.failing ≡ old.failing
  pub round : new.batch.round ≡ old.batch.round + 1
  pub tested : AreTestedBut file new.failing places waiting
  pub inside : All (λ k. k < length file.probes) waiting
  pub few : length waiting ≤ length places

-- the lines before `end` are tested but those that wait, and there were no more than two rounds for each that doesn't, and so many more
pub record IsUnderWay (file : ResultFile) (implied : List (List ℕ)) (end more : ℕ) (first : Option ℕ) (now : Testing)
    (waiting : List ℕ) : Type 0 where
  pub bears : HasRounds (length implied) now.batch
  pub failing : IsFailing file now.failing
  pub keeps : (k : ℕ) → IsBehind first k → IsBehind now.failing k
  pub tested : (k : ℕ) → k < end → IsTested file now.failing k ⊎ Contains waiting k
  pub inside : All (λ k. k < length file.probes) waiting
  pub rounds : now.batch.round + 2 * length waiting ≤ more + 2 * end

-- all lines before `end` are tested
pub record AreAllTested (file : ResultFile) (end : ℕ) (old new : Option ℕ) : Type 0 where
  pub failing : IsFailing file new
  pub keeps : (k : ℕ) → IsBehind old k → IsBehind new k
  pub tested : (k : ℕ) → k < end → IsTested file new k
