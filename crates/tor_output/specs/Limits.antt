-- The bound on a file of known relationships.
use Rattle.std.specs.Prelude.{ℕ}
use Rattle.as_rel.specs.Limits.{max_rel}

-- how many octets it may have
abbrev pub max_given_octets : ℕ
max_given_octets = max_rel
