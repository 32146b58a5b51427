-- Which files a run opens: those that its words name, in their order, each as often as it is named, and none behind the one at which it
-- ends. What is opened is told by the names for which a shelf was asked.
use Rattle.std.specs.Prelude.{◌≡◌, ◌≤◌, ◌⊎◌, ◌++◌, ◌∷◌, [], ℕ, zero, suc, List, length, take, Option, None, Some, IsSome, ⊤}
use Rattle.dump_read.specs.Refusals.{IsOfDump}
use Rattle.run_base.specs.declared.answer.Refusal.{Refusal}
use Rattle.run_base.specs.declared.answer.Refusal.TheVariants as refusal

-- the files that words name: one that is read whole before any dump, or none; and dumps
pub record Named : Type 0 where
  pub first : Option (List ℕ)
  pub dumps : List (List ℕ)

abbrev pub first_named : Option (List ℕ) → List (List ℕ)
first_named None = []
first_named (Some name) = name ∷ []

-- all of them, in their order
abbrev pub all_of : Named → List (List ℕ)
all_of named = first_named named.first ++ named.dumps

-- those up to the dump of this number, from 1; up to 0 is the file that is read first
abbrev pub up_to : ℕ → Named → List (List ℕ)
up_to number named = first_named named.first ++ take number named.dumps

-- one of them has this number: a dump's, or 0
abbrev pub IsNumber : Named → ℕ → Type 0
IsNumber named zero = IsSome named.first
IsNumber named (suc n) = suc n ≤ length named.dumps

-- how far a run came with them
pub data FilesEnd : Type 0 where
  -- all were read
  AllRead : FilesEnd
  -- it ended at the one of this number
  EndedAt : ℕ → FilesEnd
  -- it ended at none of them, when so many were opened
  Behind : ℕ → FilesEnd

-- these were opened since then, in this order, and no others
abbrev pub OpensUpTo : Named → FilesEnd → (before after : List (List ℕ)) → Type 0
OpensUpTo named AllRead before after = after ≡ before ++ all_of named
OpensUpTo named (EndedAt number) before after = IsNumber named number × (after ≡ before ++ up_to number named)
OpensUpTo named (Behind many) before after = after ≡ before ++ take many (all_of named)

-- of words that name files these were opened in order, up to such an end; of words that name none, none was
abbrev pub OpensInOrder : Option Named → (FilesEnd → Type 0) → (before after : List (List ℕ)) → Type 0
OpensInOrder None Such before after = after ≡ before
OpensInOrder (Some named) Such before after = (end : FilesEnd) × Such end × OpensUpTo named end before after

-- ---- by the reason why there is nothing to write

abbrev pub RefusalEnds : Refusal → FilesEnd → Type 0
RefusalEnds (refusal.Words w) end = end ≡ Behind 0
RefusalEnds (refusal.Dumps stopped) end = IsOfDump stopped.dump stopped.error × (end ≡ EndedAt stopped.dump)
RefusalEnds refusal.NoMemory end = ⊤

-- the same of dumps alone, of which those up to the one at which reading stopped were opened; its number is this or more
abbrev pub OpensDumps : ℕ → List (List ℕ) → Refusal → (before after : List (List ℕ)) → Type 0
OpensDumps least dumps (refusal.Words w) before after = ⊥
OpensDumps least dumps (refusal.Dumps stopped) before after =
    IsOfDump stopped.dump stopped.error × (least ≤ stopped.dump) × (stopped.dump ≤ length dumps)
    × (after ≡ before ++ take stopped.dump dumps)
OpensDumps least dumps refusal.NoMemory before after = (many : ℕ) × (after ≡ before ++ take many dumps)
