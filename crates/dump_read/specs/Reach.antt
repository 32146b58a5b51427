-- How far a dump is read.
use Rattle.std.specs.Prelude.{◌≡◌, ◌⊎◌, ℕ, List, Option, Some, IfSome, IsSomeAnd}
use Rattle.tor_io.specs.Contents.{Files, nothing_left}
use Rattle.mrt_frame.specs.Reach.{ReadsUpTo, LeavesBehindHeader, max_read}
use Rattle.mrt_frame.specs.Records.{start}
use Rattle.dump_read.specs.declared.error.DumpError.{DumpError}
use Rattle.dump_read.specs.declared.error.DumpError.TheVariants.{ReadFault, NoMemory}

-- where files are known, there is one of this name, and none of its octets behind the octet 2 ^ 40 + 12 was read
abbrev pub ReadsBounded : List ℕ → Option Files → Option (List ℕ) → Type 0
ReadsBounded name known left = IfSome known (λ files. IsSomeAnd (files name) (λ octets. ReadsUpTo 0 max_read (Some octets) left))

-- the same where this error was answered; or the file was not opened, as is then a read fault or for want of memory, and nothing is left
abbrev pub StopsBounded : DumpError → List ℕ → Option Files → Option (List ℕ) → Type 0
StopsBounded e name known left =
    ReadsBounded name known left ⊎ (((e ≡ ReadFault) ⊎ (e ≡ NoMemory)) × (left ≡ nothing_left known))

-- there is that file, and the header that shows that it has too many octets is the last that was read; what is behind it is left
abbrev pub LeavesRestOfDump : List ℕ → Option Files → Option (List ℕ) → Type 0
LeavesRestOfDump name known left = IfSome known (λ files. IsSomeAnd (files name) (λ octets. LeavesBehindHeader start (Some octets) left))
