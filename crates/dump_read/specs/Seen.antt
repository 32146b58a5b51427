-- What a dump gives to what was taken in before it, or the first end in the order of reading: a fault of a record comes
-- before any of its routes, and a limit at the route that meets it.
use Rattle.std.specs.Prelude.{◌≡◌, ℕ, List, Option, Some, None, Result, Ok, Err}
use Rattle.path_attrs.specs.Fields.{◌>>=◌}
use Rattle.dump_read.specs.Wanted.{Wanted, file_routes}
use Rattle.dump_read.specs.declared.error.Place.{Place}
use Rattle.dump_read.specs.declared.error.Fault.{Fault}
use Rattle.dump_read.specs.declared.error.LimitKind.{LimitKind}
use Rattle.dump_read.specs.declared.error.LimitKind.TheVariants.{Bytes}
use Rattle.dump_read.specs.declared.error.DumpError.{DumpError}
use Rattle.dump_read.specs.declared.error.DumpError.TheVariants as error
use Rattle.dump_read.specs.Reading.{FileEnd, Whole, Broken, TooLong, file_reading}
use Rattle.dump_read.specs.Files.{FileCounts, file_counts, with_file}
use Rattle.dump_read.specs.Taking.{Taken, take_routes}

pub data DumpsEnd : Type 0 where
  -- the dump of this number, from 1, isn't there
  Absent : ℕ → DumpsEnd
  -- a record has a fault
  Malformed : Place → Fault → DumpsEnd
  -- a limit is met in the dump of this number
  Limit : LimitKind → ℕ → DumpsEnd

-- how the reading of the dump of this number ends, when its routes are taken in
abbrev pub of_end : ℕ → FileEnd → Taken → Result Taken DumpsEnd
of_end dump Whole taken = Ok taken
of_end dump (Broken at fault) taken = Err (Malformed (record { dump = dump; at = at }) fault)
of_end dump TooLong taken = Err (Limit Bytes dump)

abbrev pub of_taking : ℕ → Result Taken LimitKind → Result Taken DumpsEnd
of_taking dump (Ok taken) = Ok taken
of_taking dump (Err kind) = Err (Limit kind dump)

-- the routes of the file that count, and then its end; where it is read to its end, what it holds is counted
abbrev pub of_octets : Wanted → ℕ → Taken → List ℕ → Result Taken DumpsEnd
of_octets wanted dump taken octets =
    of_taking dump (take_routes wanted.sets taken (file_routes wanted octets)) >>= λ all.
    of_end dump (file_reading octets).end (with_file wanted octets all)

-- the same of a file that may be absent
abbrev pub of_file : Wanted → ℕ → Taken → Option (List ℕ) → Result Taken DumpsEnd
of_file wanted dump taken None = Err (Absent dump)
of_file wanted dump taken (Some octets) = of_octets wanted dump taken octets

-- the end that an error names
abbrev pub end_named : ℕ → DumpError → Option DumpsEnd
end_named dump (error.Malformed place fault) = Some (Malformed place fault)
end_named dump (error.Limit kind) = Some (Limit kind dump)
end_named dump error.ReadFault = None
end_named dump error.NoMemory = None

-- this is what some file gives that is read to its end
abbrev pub IsOfSomeFile : Wanted → ℕ → (old new : Taken) → Type 0
IsOfSomeFile wanted dump old new = (octets : List ℕ) × (of_octets wanted dump old octets ≡ Ok new)

-- the same before what the file holds is kept, which is this
abbrev pub IsOfSomeHolding : Wanted → ℕ → (old new : Taken) → FileCounts → Type 0
IsOfSomeHolding wanted dump old new file =
    (octets : List ℕ) × (of_octets wanted dump old octets ≡ Ok (with_file wanted octets new)) × (file ≡ file_counts wanted octets)
