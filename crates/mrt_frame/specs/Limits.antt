-- The bound on a file.
use Rattle.std.specs.Prelude.{ℕ}
use Rattle.mrt_frame.specs.declared.next.TheConstants.{MAX_FILE}

-- how many octets a file may have: each record ends at this offset or before
abbrev pub max_file : ℕ
max_file = MAX_FILE
