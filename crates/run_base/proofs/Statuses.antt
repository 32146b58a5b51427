-- A count of faults that rose, and one that didn't.
use Rattle.std.proofs.Common.{ℕ, arith}
use Rattle.tor_io.specs.Counts.{Rose, IsQuiet}

pub not_quiet : {X : Type 0} (before now : ℕ) → Rose before now → IsQuiet before now → X
not_quiet before now rose quiet = absurd (omega (arith, rose, quiet))
