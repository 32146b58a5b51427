-- Lists of AS numbers, as options take them: numbers from 0 to 2^32 - 1 in decimal, without sign, blank or leading zero, joined by commas.
use Rattle.std.specs.Prelude.{◌≡◌, ◌↔◌, ℕ, ◌≤◌, ◌==◌, if◌then◌else◌, List, [], ◌∷◌, length, map, All, Option, Some, None}
use Rattle.std.specs.Fmt.{decimal}
use Rattle.std.specs.List.{join_with_byte}
use Rattle.clap.specs.Words.{Text}
use Rattle.text_fields.specs.Fields.{IsU32}
use Rattle.text_fields.specs.Reading.{◌>>=◌, u32_at}

-- the octet in front of the first part
abbrev pub onto_part : ℕ → List Text → List Text
onto_part b [] = (b ∷ []) ∷ []
onto_part b (part ∷ parts) = (b ∷ part) ∷ parts

-- the parts of a text between its commas, one more than there are commas
abbrev pub comma_parts : Text → List Text
comma_parts [] = [] ∷ []
comma_parts (b ∷ text) = if b == 44 then [] ∷ comma_parts text else onto_part b (comma_parts text)

-- a number behind which nothing is left
abbrev pub whole_number : ℕ × Text → Option ℕ
whole_number (n, []) = Some n
whole_number (n, b ∷ text) = None

-- the AS number that a text is
abbrev pub as_number : Text → Option ℕ
as_number text = u32_at text >>= whole_number

-- the numbers that the parts are, if each is one
abbrev pub numbers_listed : List Text → Option (List ℕ)
numbers_listed [] = Some []
numbers_listed (part ∷ parts) = as_number part >>= λ n. numbers_listed parts >>= λ ases. Some (n ∷ ases)

-- the AS numbers that a text lists, as they stand there: who asks for one of them doesn't see whether it stands there twice
abbrev pub as_list : Text → Option (List ℕ)
as_list text = numbers_listed (comma_parts text)

-- a text lists numbers exactly if it is their decimal forms, of at least one, joined by commas
abbrev pub AsListLaw : Type 0
AsListLaw =
    (text : Text) (ases : List ℕ) → (as_list text ≡ Some ases) ↔
    ((1 ≤ length ases) × All IsU32 ases × (text ≡ join_with_byte 44 (map decimal ases)))
