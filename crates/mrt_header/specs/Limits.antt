-- The bound on the body of a record.
use Rattle.std.specs.Prelude.{ℕ}
use Rattle.mrt_header.specs.declared.header.TheConstants.{MAX_BODY}

-- how many octets the body of a record that is read may have
abbrev pub max_body : ℕ
max_body = MAX_BODY
