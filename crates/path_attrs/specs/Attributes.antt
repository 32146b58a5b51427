-- Path attributes (RFC 4271, section 4.3).
use Rattle.std.specs.Prelude.{◌≡◌, ℕ, zero, suc, ◌==◌, bit_and, List, [], ◌∷◌, ◌++◌, length, Option, Some, None, Result, Ok, Err}
use Rattle.std.specs.Prelude.{if◌then◌else◌, ◌↔◌}
use Rattle.std.specs.Result.{result_unwrap_or}
use Rattle.byteorder.specs.Endian.{big_number}
use Rattle.path_attrs.specs.declared.block.AttrCut.{AttrCut}
use Rattle.path_attrs.specs.Fields.{◌>>=◌, octets, number}

-- a type code, and the octets of the value
pub record Attribute : Type 0 where
  pub code : ℕ
  pub value : List ℕ

abbrev pub attr_cut : AttrCut
attr_cut = record {}

-- the type code of AS_PATH (RFC 4271, section 5.1.2)
abbrev pub as_path : ℕ
as_path = 2

-- how many octets the length of a value has: two where the flag 0x10 is set
abbrev pub length_octets : ℕ → ℕ
length_octets flags = if bit_and flags 0x10 == 0 then 1 else 2

-- the attribute that stands first, and the octets behind it
unfoldable pub attribute : List ℕ → Result (Attribute × List ℕ) AttrCut
attribute bytes = do
  flags ← number attr_cut 1 bytes
  code ← number attr_cut 1 flags.1
  len ← number attr_cut (length_octets flags.0) code.1
  value ← octets attr_cut len.0 len.1
  Ok (record { code = code.0; value = value.0 }, value.1)

-- at most n attributes, one behind the other, and nothing else
unfoldable pub attributes_within : ℕ → List ℕ → Result (List Attribute) AttrCut
attributes_within n [] = Ok []
attributes_within zero (octet ∷ octets) = Err attr_cut
attributes_within (suc n) (octet ∷ octets) = do
  first ← attribute (octet ∷ octets)
  others ← attributes_within n first.1
  Ok (first.0 ∷ others)

-- the attributes of a block; there are no more of them than octets
unfoldable pub attributes_of : List ℕ → Result (List Attribute) AttrCut
attributes_of block = attributes_within (length block) block

-- those of a block that is a list of whole attributes
unfoldable pub attributes_in : List ℕ → List Attribute
attributes_in block = result_unwrap_or (attributes_of block) []

-- the value of the first attribute of a code
abbrev pub first_value : ℕ → List Attribute → Option (List ℕ)
first_value code [] = None
first_value code (a ∷ attrs) = if a.code == code then Some a.value else first_value code attrs

-- flags, code, the value's length in as many octets as the flags say, and the value
pub record IsEncoded (a : Attribute) (bytes : List ℕ) : Type 0 where
  pub flags : ℕ
  pub len : List ℕ
  pub width : length len ≡ length_octets flags
  pub counts : big_number (length_octets flags) len ≡ length a.value
  pub parts : bytes ≡ flags ∷ a.code ∷ (len ++ a.value)

-- the attributes are encoded one behind the other, and nothing else stands there
abbrev pub AreEncoded : List Attribute → List ℕ → Type 0
AreEncoded [] bytes = bytes ≡ []
AreEncoded (a ∷ attrs) bytes =
    (prefix : List ℕ) × (rest : List ℕ) × IsEncoded a prefix × AreEncoded attrs rest × (bytes ≡ prefix ++ rest)

-- a block has these attributes exactly if it is their encoding
abbrev pub BlockLaw : Type 0
BlockLaw = (block : List ℕ) (attrs : List Attribute) → (attributes_of block ≡ Ok attrs) ↔ AreEncoded attrs block
