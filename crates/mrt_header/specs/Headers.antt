-- The fields of a header, of twelve octets (RFC 6396, section 2): a timestamp, and the type, the subtype and the length of the record.
use Rattle.std.specs.Prelude.{◌≡◌, ℕ, ◌<◌, List, length, drop}
use Rattle.byteorder.specs.Endian.{big_number}
use Rattle.mrt_header.specs.declared.header.Head.{Head}
use Rattle.mrt_header.specs.declared.header.Head.TheVariants as heads
use Rattle.mrt_header.specs.declared.header.Header.{Header}

-- the type that a header says, its octets 5 and 6
abbrev pub kind_in : List ℕ → ℕ
kind_in header = big_number 2 (drop 4 header)

-- the subtype, its octets 7 and 8
abbrev pub subtype_in : List ℕ → ℕ
subtype_in header = big_number 2 (drop 6 header)

-- the length of the body, its octets 9 to 12
abbrev pub length_in : List ℕ → ℕ
length_in header = big_number 4 (drop 8 header)

-- the fields of the header that these octets are
pub record Says (head : List ℕ) (header : Header) : Type 0 where
  pub kind : header.kind ≡ kind_in head
  pub subtype : header.subtype ≡ subtype_in head
  pub len : header.len ≡ length_in head

-- what stands where a header is to begin, by these octets of it
abbrev pub IsHead : List ℕ → Head → Type 0
IsHead head heads.Nothing = length head ≡ 0
IsHead head heads.Cut = (0 < length head) × (length head < 12)
IsHead head (heads.Whole header) = (length head ≡ 12) × Says head header
