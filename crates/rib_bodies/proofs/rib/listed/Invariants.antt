use Rattle.std.proofs.Common.{◌≡◌, ◌++◌, length}
use Rattle.rib_bodies.proofs.rib.listed.Given as goal

-- the entries so far, and those that are left
abbrev pub invariant-entries : goal.invariant-entries
invariant-entries l = l.list ++ l.left ≡ l.fn.entries

abbrev pub decreases-entries : goal.decreases-entries
decreases-entries l = length l.left
