-- How far a run reads a dump at which it stops.
use Rattle.std.specs.Prelude.{◌≡◌, ◌≤◌, ℕ, List, length, Option, ⊤}
use Rattle.tor_io.specs.Contents.{Files}
use Rattle.dump_read.specs.declared.error.DumpError.{DumpError}
use Rattle.dump_read.specs.declared.error.DumpError.TheVariants as error
use Rattle.dump_read.specs.declared.error.LimitKind.TheVariants.{Bytes}
use Rattle.dump_read.specs.Reach.{StopsBounded, LeavesRestOfDump}
use Rattle.dump_read.specs.Refusals.{IsOfDump}
use Rattle.run_base.specs.Reading.{name_of_dump}

-- of the dump of this number, one of these, at which reading stopped for this, no octet behind the octet 2 ^ 40 + 12 was read, or it was
-- not opened; and at the limit on bytes the header that shows it is the last thing that was read
pub record IsDumpInReach (dumps : List (List ℕ)) (known : Option Files) (left : Option (List ℕ)) (dump : ℕ) (e : DumpError) : Type 0 where
  pub from_one : 1 ≤ dump
  pub named : dump ≤ length dumps
  pub placed : IsOfDump dump e
  pub bounded : StopsBounded e (name_of_dump dumps dump) known left
  pub shown : e ≡ error.Limit Bytes → LeavesRestOfDump (name_of_dump dumps dump) known left
