-- How far a file is read.
use Rattle.std.specs.Prelude.{◌≡◌, ◌≤◌, ℕ, ◌+◌, List, length, drop, sum_by, Option, Some, IfSome}
use Rattle.std.specs.Io.KnownBytes.{prepend_known}
use Rattle.mrt_frame.specs.declared.header.At.{At}
use Rattle.mrt_frame.specs.Limits.{max_file}
use Rattle.mrt_frame.specs.Records.{Record, Well, cut, cut_from}

-- octets of a file were read, from the first of these offsets on and at most to the second, and those behind them are left
abbrev pub ReadsUpTo : (first last : ℕ) → (before left : Option (List ℕ)) → Type 0
ReadsUpTo first last before left = (octets : List ℕ) × (first + length octets ≤ last) × (before ≡ prepend_known octets left)

-- how many octets of a file are read at most: those that it may have, and a header that begins where they end
abbrev pub max_read : ℕ
max_read = max_file + 12

-- how many octets records have, with their headers
abbrev pub octets_of_records : List Record → ℕ
octets_of_records records = sum_by (λ r. 12 + length r.body) records

-- where the octets are known, all records from this place on were read or passed over, and behind them one header; what is behind that is
-- left
abbrev pub LeavesBehindHeader : At → (before left : Option (List ℕ)) → Type 0
LeavesBehindHeader at before left =
    IfSome before (λ octets. left ≡ Some (drop (octets_of_records (cut_from at octets).records + 12) octets))

-- the records of a file have at most 2 ^ 40 octets, and they are all of its octets where it ends behind a whole record
abbrev pub ReachLaw : Type 0
ReachLaw =
    (octets : List ℕ) → (octets_of_records (cut octets).records ≤ max_file) × ((cut octets).end ≡ Well →
    octets_of_records (cut octets).records ≡ length octets)
