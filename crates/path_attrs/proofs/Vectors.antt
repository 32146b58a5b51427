-- Blocks that were worked by hand.
use Rattle.std.proofs.Common.{◌≡◌, ℕ, List, [], ◌∷◌, ◌++◌, Some, None, Ok, Err, refl}
use Rattle.path_attrs.specs.Attributes.{attr_cut, attribute, attributes_within, attributes_of, attributes_in, first_value}

-- the value of the AS_PATH 10 20, in two octets and in four
two : List ℕ
two = 2 ∷ 2 ∷ 0 ∷ 10 ∷ 0 ∷ 20 ∷ []

four : List ℕ
four = 2 ∷ 2 ∷ 0 ∷ 0 ∷ 0 ∷ 10 ∷ 0 ∷ 0 ∷ 0 ∷ 20 ∷ []

-- ORIGIN
origin : List ℕ
origin = 64 ∷ 1 ∷ 1 ∷ 0 ∷ []

one_edge_v1 : attributes_of (64 ∷ 2 ∷ 6 ∷ 2 ∷ 2 ∷ 0 ∷ 10 ∷ 0 ∷ 20 ∷ []) ≡ Ok (record { code = 2; value = 2 ∷ 2 ∷ 0 ∷ 10 ∷ 0 ∷ 20 ∷ [] } ∷ [])
unfolding attributes_of attributes_within attribute
one_edge_v1 = refl

one_edge_v2 : attributes_of (origin ++ 64 ∷ 2 ∷ 10 ∷ four) ≡ Ok (record { code = 1; value = 0 ∷ [] } ∷ record { code = 2; value = four } ∷ [])
unfolding attributes_of attributes_within attribute origin four
one_edge_v2 = refl

-- the flag of a length in two octets
extended : attributes_of (origin ++ 80 ∷ 2 ∷ 0 ∷ 10 ∷ four) ≡ attributes_of (origin ++ 64 ∷ 2 ∷ 10 ∷ four)
unfolding attributes_of attributes_within attribute origin four
extended = refl

-- a length of one octet more
length_too_great : attributes_of (origin ++ 64 ∷ 2 ∷ 11 ∷ four) ≡ Err attr_cut
unfolding attributes_of attributes_within attribute origin four
length_too_great = refl

-- a length of one octet less leaves an octet behind
length_too_small : attributes_of (origin ++ 64 ∷ 2 ∷ 9 ∷ four) ≡ Err attr_cut
unfolding attributes_of attributes_within attribute origin four
length_too_small = refl

no_attributes : attributes_of [] ≡ Ok []
unfolding attributes_of attributes_within
no_attributes = refl

-- of two AS_PATHs the first counts
two_paths : first_value 2 (attributes_in (origin ++ 64 ∷ 2 ∷ 6 ∷ (two ++ 64 ∷ 2 ∷ 6 ∷ 2 ∷ 2 ∷ 0 ∷ 30 ∷ 0 ∷ 40 ∷ []))) ≡ Some two
unfolding attributes_in attributes_of attributes_within attribute origin two
two_paths = refl

no_path : first_value 2 (attributes_in origin) ≡ None
unfolding attributes_in attributes_of attributes_within attribute origin
no_path = refl

-- a block of an AS_PATH alone, whose value has a segment of count zero
empty_segment : first_value 2 (attributes_in (64 ∷ 2 ∷ 2 ∷ 2 ∷ 0 ∷ [])) ≡ Some (2 ∷ 0 ∷ [])
unfolding attributes_in attributes_of attributes_within attribute
empty_segment = refl
