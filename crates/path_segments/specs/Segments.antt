-- The segments of an AS_PATH (RFC 4271, section 4.3; RFC 5065, section 3). Where a value is malformed: RFC 7606, section 7.2.
use Rattle.std.specs.Prelude.{◌≡◌, ℕ, zero, suc, ◌*◌, ◌<◌, ◌==◌, ◌&&◌, nat_lt, nat_le, List, [], ◌∷◌, ◌++◌, length, drop, Option, Some}
use Rattle.std.specs.Prelude.{None, option_map, option_and_then, unwrap_or, if◌then◌else◌, ◌↔◌}
use Rattle.byteorder.specs.Endian.{big_number}
use Rattle.path_segments.specs.declared.as_path.Width.{Width}
use Rattle.path_segments.specs.declared.as_path.Width.TheVariants.{Two, Four}
use Rattle.path_segments.specs.declared.as_path.SegKind.{SegKind}
use Rattle.path_segments.specs.declared.as_path.SegKind.TheVariants.{Set, Sequence, ConfedSequence, ConfedSet}
use Rattle.path_segments.specs.declared.as_path.Segment.{Segment}

-- how many octets a number has
abbrev pub octets_in : Width → ℕ
octets_in Two = 2
octets_in Four = 4

-- 1 AS_SET, 2 AS_SEQUENCE, 3 AS_CONFED_SEQUENCE, 4 AS_CONFED_SET
abbrev pub code_of : SegKind → ℕ
code_of Set = 1
code_of Sequence = 2
code_of ConfedSequence = 3
code_of ConfedSet = 4

-- the kind of a type code
abbrev pub segment_kind : ℕ → Option SegKind
segment_kind code =
    if code == 1 then Some Set
    else if code == 2 then Some Sequence
    else if code == 3 then Some ConfedSequence
    else if code == 4 then Some ConfedSet
    else None

-- count numbers of n octets each
abbrev pub big_numbers : ℕ → ℕ → List ℕ → List ℕ
big_numbers n zero bytes = []
big_numbers n (suc count) bytes = big_number n bytes ∷ big_numbers n count (drop n bytes)

-- the segment of a kind and a count of numbers that begins the octets, and the octets behind it
abbrev pub segment_of : Width → ℕ → List ℕ → SegKind → Segment × List ℕ
segment_of width count bytes kind =
    (record { kind = kind; ases = big_numbers (octets_in width) count bytes }, drop (octets_in width * count) bytes)

-- the segment that stands first, and the octets behind it: it is not empty, whole, and of a kind that there is
unfoldable pub segment : Width → List ℕ → Option (Segment × List ℕ)
segment width [] = None
segment width (code ∷ []) = None
segment width (code ∷ count ∷ bytes) =
    if nat_lt 0 count && nat_le (octets_in width * count) (length bytes)
    then option_map (segment_of width count bytes) (segment_kind code)
    else None

-- at most n segments, one behind the other, and nothing else
unfoldable pub segments_within : ℕ → Width → List ℕ → Option (List Segment)
segments_within n width [] = Some []
segments_within zero width (octet ∷ octets) = None
segments_within (suc n) width (octet ∷ octets) =
    option_and_then (λ first. option_map (λ others. first.0 ∷ others) (segments_within n width first.1))
    (segment width (octet ∷ octets))

-- the segments of a value, None where it is malformed; there are no more of them than octets
unfoldable pub segments_of : Width → List ℕ → Option (List Segment)
segments_of width value = segments_within (length value) width value

-- those of a value that is well formed
unfoldable pub segments_in : Width → List ℕ → List Segment
segments_in width value = unwrap_or (segments_of width value) []

-- the numbers are encoded one behind the other, in n octets each, the highest first
abbrev pub NumbersAreEncoded : ℕ → List ℕ → List ℕ → Type 0
NumbersAreEncoded n [] bytes = bytes ≡ []
NumbersAreEncoded n (x ∷ xs) bytes =
    (prefix : List ℕ) × (rest : List ℕ) × (length prefix ≡ n) × (big_number n prefix ≡ x)
    × NumbersAreEncoded n xs rest × (bytes ≡ prefix ++ rest)

-- the code of the kind, the count of the numbers, which is not zero, and the numbers
pub record SegmentIsEncoded (width : Width) (s : Segment) (bytes : List ℕ) : Type 0 where
  pub octets : List ℕ
  pub some : 0 < length s.ases
  pub ases : NumbersAreEncoded (octets_in width) s.ases octets
  pub parts : bytes ≡ code_of s.kind ∷ length s.ases ∷ octets

-- the segments are encoded one behind the other, and nothing else stands there
abbrev pub SegmentsAreEncoded : Width → List Segment → List ℕ → Type 0
SegmentsAreEncoded width [] bytes = bytes ≡ []
SegmentsAreEncoded width (s ∷ more) bytes =
    (prefix : List ℕ) × (rest : List ℕ) × SegmentIsEncoded width s prefix
    × SegmentsAreEncoded width more rest × (bytes ≡ prefix ++ rest)

-- a value has these segments exactly if it is their encoding
abbrev pub ValueLaw : Type 0
ValueLaw =
    (width : Width) (value : List ℕ) (found : List Segment)
    → (segments_of width value ≡ Some found) ↔ SegmentsAreEncoded width found value
