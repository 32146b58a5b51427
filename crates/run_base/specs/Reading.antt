-- Dumps that are read one after the other.
use Rattle.std.specs.Prelude.{◌≡◌, length, ℕ, ◌+◌, ◌-◌, List, [], ◌∷◌, get_or, Result, Ok}
use Rattle.path_attrs.specs.Fields.{◌>>=◌}
use Rattle.dump_read.specs.declared.wanted.Wanted.{Wanted}
use Rattle.path_clean.specs.Counts.{no_counts}
use Rattle.tor_io.specs.Contents.{Files}
use Rattle.dump_read.specs.declared.taking.Taken.{Taken}
use Rattle.dump_read.specs.Seen.{DumpsEnd, of_file, of_octets}

-- the dumps from this number on, read one after the other: all that is taken in, or the first end
abbrev pub seen_from : Wanted → ℕ → Taken → List (List ℕ) → Files → Result Taken DumpsEnd
seen_from wanted dump taken [] files = Ok taken
seen_from wanted dump taken (name ∷ names) files =
    of_file wanted dump taken (files name) >>= λ further. seen_from wanted (dump + 1) further names files

-- the same of dumps of these octets
abbrev pub seen_of : Wanted → ℕ → Taken → List (List ℕ) → Result Taken DumpsEnd
seen_of wanted dump taken [] = Ok taken
seen_of wanted dump taken (octets ∷ rest) =
    of_octets wanted dump taken octets >>= λ further. seen_of wanted (dump + 1) further rest

-- this is what so many dumps give, of some octets each, that are read to their ends
abbrev pub IsOfSomeDumps : Wanted → ℕ → (old new : Taken) → Type 0
IsOfSomeDumps wanted many old new = (dumps : List (List ℕ)) × (length dumps ≡ many) × (seen_of wanted 1 old dumps ≡ Ok new)

-- before the first dump
abbrev pub nothing : ℕ → Taken
nothing limit = record { table = record { limit = limit; rows = [] }; counts = no_counts; files = [] }

-- the name of the dump of this number, from 1
abbrev pub name_of_dump : List (List ℕ) → ℕ → List ℕ
name_of_dump dumps dump = get_or dumps (dump - 1) []
