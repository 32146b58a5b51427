-- Why routes were not taken in.
use Rattle.std.specs.Prelude.{◌≡◌, ℕ, List, Result, Ok, Err}
use Rattle.path_table.specs.declared.table.AddRefused.{AddRefused}
use Rattle.path_table.specs.declared.table.AddRefused.TheVariants.{TooManyPaths, TooManyNumbers, NoMemory}
use Rattle.dump_read.specs.declared.error.LimitKind.{LimitKind}
use Rattle.dump_read.specs.declared.error.LimitKind.TheVariants.{Paths, Numbers, Bytes}
use Rattle.dump_read.specs.declared.error.Fault.TheVariants as fault
use Rattle.dump_read.specs.declared.error.DumpError.{DumpError}
use Rattle.dump_read.specs.declared.error.DumpError.TheVariants as error
use Rattle.mrt_frame.specs.declared.header.At.{At}
use Rattle.mrt_frame.specs.declared.error.FrameError.{FrameError}
use Rattle.mrt_frame.specs.declared.error.FrameError.TheVariants as frame
use Rattle.dump_read.specs.declared.taking.Untaken.{Untaken}
use Rattle.dump_read.specs.declared.taking.Untaken.TheVariants as untaken
use Rattle.dump_read.specs.declared.records.Unread.{Unread}
use Rattle.dump_read.specs.declared.records.Unread.TheVariants as unread
use Rattle.dump_read.specs.Routes.{Route}
use Rattle.dump_read.specs.Taking.{Taken, take_routes, Takes, TakesSome}
use Rattle.path_attrs.specs.declared.fault.RibFault.{RibFault}
use Rattle.dump_read.specs.Wanted.{Wanted, which_count}

abbrev pub of_add : AddRefused → Untaken
of_add TooManyPaths = untaken.Limit Paths
of_add TooManyNumbers = untaken.Limit Numbers
of_add NoMemory = untaken.NoMemory

-- the limit that was answered is the one that the taking gives; memory may always run out
abbrev pub IsLimit : Result Taken LimitKind → Untaken → Type 0
IsLimit taking (untaken.Limit kind) = taking ≡ Err kind
IsLimit taking untaken.NoMemory = Unit {0}

-- the routes that were read, those that count, were taken in
abbrev pub TakesRead : Wanted → Taken → Result (List Route) RibFault → Taken → Type 0
TakesRead wanted old read new = (routes : List Route) × (read ≡ Ok routes) × Takes wanted.sets old (which_count wanted routes) new

-- of the routes that were read and count some of the first were taken in, and none where there is a fault
abbrev pub TakesSomeRead : Wanted → Taken → Result (List Route) RibFault → Taken → Type 0
TakesSomeRead wanted old (Ok routes) new = TakesSome wanted.sets old (which_count wanted routes) new
TakesSomeRead wanted old (Err fault) new = new ≡ old

-- the fault is that of the reading, the limit that of the taking; memory may always run out
abbrev pub IsUnread : Wanted → Taken → Result (List Route) RibFault → Unread → Type 0
IsUnread wanted old read (unread.Fault fault) = read ≡ Err fault
IsUnread wanted old read (unread.Untaken (untaken.Limit kind)) =
    (routes : List Route) × (read ≡ Ok routes) × (take_routes wanted.sets old (which_count wanted routes) ≡ Err kind)
IsUnread wanted old read (unread.Untaken untaken.NoMemory) = Unit {0}

-- the error of a dump that an error of its records is
abbrev pub of_frame : ℕ → FrameError → DumpError
of_frame dump (frame.HeadCut at) = error.Malformed (record { dump = dump; at = at }) fault.HeadCut
of_frame dump (frame.BodyCut at) = error.Malformed (record { dump = dump; at = at }) fault.BodyCut
of_frame dump (frame.Oversize at) = error.Malformed (record { dump = dump; at = at }) fault.Oversize
of_frame dump frame.TooManyBytes = error.Limit Bytes
of_frame dump frame.ReadFault = error.ReadFault
of_frame dump frame.NoMemory = error.NoMemory

-- the error of a dump for which the record that stands there was not taken in
abbrev pub of_unread : ℕ → At → Unread → DumpError
of_unread dump at (unread.Fault broken) = error.Malformed (record { dump = dump; at = at }) (fault.Rib broken)
of_unread dump at (unread.Untaken (untaken.Limit kind)) = error.Limit kind
of_unread dump at (unread.Untaken untaken.NoMemory) = error.NoMemory

-- where an error names a place, it is one in this dump
abbrev pub IsOfDump : ℕ → DumpError → Type 0
IsOfDump dump (error.Malformed place broken) = place.dump ≡ dump
IsOfDump dump (error.Limit kind) = Unit {0}
IsOfDump dump error.ReadFault = Unit {0}
IsOfDump dump error.NoMemory = Unit {0}
