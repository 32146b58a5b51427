-- How the records of a file are encoded (RFC 6396, section 2), and the law that a file is cut into exactly the records
-- that it encodes.
use Rattle.std.specs.Prelude.{◌≡◌, ◌↔◌, ℕ, ◌+◌, ◌<◌, ◌≤◌, IsTrue, List, [], ◌∷◌, ◌++◌, length}
use Rattle.mrt_frame.specs.declared.header.At.{At}
use Rattle.mrt_header.specs.Headers.{kind_in, subtype_in, length_in}
use Rattle.mrt_header.specs.Kinds.{is_read}
use Rattle.mrt_header.specs.Limits.{max_body}
use Rattle.mrt_frame.specs.Limits.{max_file}
use Rattle.mrt_frame.specs.Records.{Record, RecordsEnd, Well, HeadCut, TooManyBytes, Oversize, BodyCut, place_behind, start, cut}

-- twelve octets are the header of this record; their first four, its timestamp, are free
pub record IsHeader (header : List ℕ) (r : Record) : Type 0 where
  pub octets : length header ≡ 12
  pub kind : kind_in header ≡ r.kind
  pub subtype : subtype_in header ≡ r.subtype
  pub len : length_in header ≡ length r.body

-- the octets are the record, encoded as its header and its body, and then the rest
pub record Encodes (octets : List ℕ) (r : Record) (rest : List ℕ) : Type 0 where
  pub header : List ℕ
  pub is_header : IsHeader header r
  pub encoded : octets ≡ header ++ r.body ++ rest

-- the record ends within the bound on a file, and it is not too long if it is one that is read
pub record IsWithin (r : Record) : Type 0 where
  pub file : r.at.offset + 12 + length r.body ≤ max_file
  pub body : IsTrue (is_read r.kind r.subtype) → length r.body ≤ max_body

-- a whole header stands at this place, and its record would end within the bound on a file
pub record IsNear (at : At) (octets : List ℕ) : Type 0 where
  pub header : 12 ≤ length octets
  pub file : at.offset + 12 + length_in octets ≤ max_file

-- the header that stands first is that of a record that is read
abbrev pub IsRead : List ℕ → Type 0
IsRead octets = IsTrue (is_read (kind_in octets) (subtype_in octets))

-- no record stands at this place, for this reason
abbrev pub IsEnd : At → List ℕ → RecordsEnd → Type 0
IsEnd at octets Well = octets ≡ []
IsEnd at octets (HeadCut a) = (a ≡ at) × (0 < length octets) × (length octets < 12)
IsEnd at octets TooManyBytes = (12 ≤ length octets) × (max_file < at.offset + 12 + length_in octets)
IsEnd at octets (Oversize a) = (a ≡ at) × IsNear at octets × IsRead octets × (max_body < length_in octets)
IsEnd at octets (BodyCut a) =
    (a ≡ at) × IsNear at octets × (IsRead octets → length_in octets ≤ max_body) × (length octets < 12 + length_in octets)

-- from this place on, the octets encode these records one behind the other, and then there is this end
abbrev pub EncodeRecords : At → List ℕ → List Record → RecordsEnd → Type 0
EncodeRecords at octets [] end = IsEnd at octets end
EncodeRecords at octets (r ∷ records) end =
    (rest : List ℕ) × (r.at ≡ at) × IsWithin r × Encodes octets r rest × EncodeRecords (place_behind r) rest records end

-- a file is cut into these records with this end exactly if it encodes them and then has this end; with the end Well, it
-- is their encoding and nothing else
abbrev pub EncodingLaw : Type 0
EncodingLaw =
    (octets : List ℕ) (records : List Record) (end : RecordsEnd) →
    (cut octets ≡ record { records = records; end = end }) ↔ EncodeRecords start octets records end

-- what a file encodes is one list of records, with one end
abbrev pub OneReadingLaw : Type 0
OneReadingLaw =
    (octets : List ℕ) (records others : List Record) (end other : RecordsEnd) →
    EncodeRecords start octets records end → EncodeRecords start octets others other → (records ≡ others) × (end ≡ other)
