use Rattle.std.proofs.Common.{◌≡◌, ◌-◌, List, length}
use Rattle.rib_bodies.specs.declared.rib.Entry.{Entry}
use Rattle.rib_bodies.specs.Rib.{entries_of}
use Rattle.rib_bodies.proofs.Loops.{with_head}
use Rattle.rib_bodies.proofs.rib.entries_over.Given as goal

-- one entry for each turn, and with those that are left they are all
abbrev pub invariant-entries : goal.invariant-entries
invariant-entries l = (before : List Entry) × (length before ≡ l.counter)
    × (with_head before (entries_of l.form l.peers.count (l.count - l.counter) l.rest) ≡ entries_of l.form l.peers.count l.count l.bytes)
