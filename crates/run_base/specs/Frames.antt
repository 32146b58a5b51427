-- What a run leaves in the objects that it was given.
use Rattle.std.specs.Prelude.{◌≡◌, ◌≢◌, ◌≤◌}
use Rattle.tor_io.specs.Counts.{Rose}
use Rattle.tor_io.specs.declared.shelf.Shelf as shelf
use Rattle.tor_io.specs.declared.sink.Sink as sink
use Rattle.run_base.specs.declared.status.Status.{Status}
use Rattle.run_base.specs.declared.status.Status.TheVariants.{ReadFault, WriteFault, NoMemory}

-- the shelf's files are the same, it is steady if it was, and its count of faults didn't fall
pub record KeepsShelf {H : Type 0} (g : shelf.Ghosts H) (old new : H) : Type 0 where
  pub files : g.files new ≡ g.files old
  pub steady : g.steady old → g.steady new
  pub later : g.faults old ≤ g.faults new

-- the same, and the count rose where a read failed, and else is as it was
pub record ReadsShelf {H : Type 0} (g : shelf.Ghosts H) (failed : Type 0) (old new : H) : Type 0 where
  pub keeps : KeepsShelf g old new
  pub rose : failed → Rose (g.faults old) (g.faults new)
  pub quiet : (failed → ⊥) → g.faults new ≡ g.faults old

-- a run that ends with this status keeps the shelf, and no failed read is passed over: the count rose at ReadFault, and but for
-- NoMemory is else as it was
pub record RunLeavesShelf {H : Type 0} (g : shelf.Ghosts H) (status : Status) (old new : H) : Type 0 where
  pub keeps : KeepsShelf g old new
  pub read_fault : status ≡ ReadFault → Rose (g.faults old) (g.faults new)
  pub no_lost_read : status ≢ ReadFault → status ≢ NoMemory → g.faults new ≡ g.faults old

-- no failed write is passed over: the count of out rose at WriteFault, and else is as it was
pub record RunLeavesOut {O : Type 0} (g : sink.Ghosts O) (status : Status) (old new : O) : Type 0 where
  pub later : g.faults old ≤ g.faults new
  pub write_fault : status ≡ WriteFault → Rose (g.faults old) (g.faults new)
  pub no_lost_write : status ≢ WriteFault → g.faults new ≡ g.faults old
