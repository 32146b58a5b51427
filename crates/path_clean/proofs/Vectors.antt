-- Values of an AS_PATH that were worked by hand.
use Rattle.std.proofs.Common.{◌≡◌, ℕ, ◌/◌, ◌%◌, true, false, List, [], ◌∷◌, ◌++◌, length, refl}
use Rattle.path_segments.specs.declared.as_path.Width.TheVariants.{Two}
use Rattle.path_segments.specs.Segments.{segment, segments_within, segments_of}
use Rattle.path_clean.specs.declared.cleaned.Sets.{Sets}
use Rattle.path_clean.specs.declared.cleaned.Sets.TheVariants.{Cut, Skip}
use Rattle.path_clean.specs.declared.cleaned.Cause.{Cause}
use Rattle.path_clean.specs.declared.cleaned.Cause.TheVariants.{NoPath, BadSegments, Confed, Reserved, Loop, Short}
use Rattle.path_clean.specs.declared.cleaned.Cleaned.{Cleaned}
use Rattle.path_clean.specs.declared.cleaned.Cleaned.TheVariants.{Path, Aside}
use Rattle.path_clean.specs.Paths.{is_reserved}
use Rattle.path_clean.specs.Clean.{clean_of, merged_of}

abbrev in_octets : List ℕ → List ℕ
in_octets [] = []
in_octets (x ∷ xs) = x / 256 ∷ x % 256 ∷ in_octets xs

abbrev set : List ℕ → List ℕ
set xs = 1 ∷ length xs ∷ in_octets xs

abbrev sequence : List ℕ → List ℕ
sequence xs = 2 ∷ length xs ∷ in_octets xs

abbrev confed_sequence : List ℕ → List ℕ
confed_sequence xs = 3 ∷ length xs ∷ in_octets xs

-- with numbers of two octets
abbrev cleaned : Sets → List ℕ → Cleaned
cleaned sets value = clean_of sets Two (record { code = 2; value = value } ∷ [])

-- ---- one sequence, under `cut`

merges : cleaned Cut (sequence (10 ∷ 10 ∷ 20 ∷ 20 ∷ 30 ∷ [])) ≡ Path (10 ∷ 20 ∷ 30 ∷ [])
unfolding segments_of segments_within segment
merges = refl

loops : cleaned Cut (sequence (10 ∷ 20 ∷ 10 ∷ [])) ≡ Aside Loop
unfolding segments_of segments_within segment
loops = refl

one_as : cleaned Cut (sequence (10 ∷ 10 ∷ [])) ≡ Aside Short
unfolding segments_of segments_within segment
one_as = refl

no_segment : cleaned Cut [] ≡ Aside Short
unfolding segments_of segments_within segment
no_segment = refl

zero_number : cleaned Cut (sequence (10 ∷ 0 ∷ 10 ∷ [])) ≡ Aside Reserved
unfolding segments_of segments_within segment
zero_number = refl

as_trans : cleaned Cut (sequence (10 ∷ 23456 ∷ [])) ≡ Aside Reserved
unfolding segments_of segments_within segment
as_trans = refl

private_number : cleaned Cut (sequence (10 ∷ 64512 ∷ [])) ≡ Aside Reserved
unfolding segments_of segments_within segment
private_number = refl

-- ---- other segments

mixed_set : cleaned Cut (sequence (10 ∷ 20 ∷ []) ++ (set (30 ∷ 40 ∷ []) ++ sequence (50 ∷ []))) ≡ Path (10 ∷ 20 ∷ [])
unfolding segments_of segments_within segment
mixed_set = refl

mixed_set_skipped : cleaned Skip (sequence (10 ∷ 20 ∷ []) ++ (set (30 ∷ 40 ∷ []) ++ sequence (50 ∷ []))) ≡ Aside Cause.Sets
unfolding segments_of segments_within segment
mixed_set_skipped = refl

equal_set : cleaned Cut (sequence (10 ∷ 20 ∷ []) ++ set (30 ∷ 30 ∷ [])) ≡ Path (10 ∷ 20 ∷ 30 ∷ [])
unfolding segments_of segments_within segment
equal_set = refl

equal_set_kept : cleaned Skip (sequence (10 ∷ 20 ∷ []) ++ set (30 ∷ 30 ∷ [])) ≡ Path (10 ∷ 20 ∷ 30 ∷ [])
unfolding segments_of segments_within segment
equal_set_kept = refl

set_first : cleaned Cut (set (10 ∷ 20 ∷ []) ++ sequence (30 ∷ [])) ≡ Aside Short
unfolding segments_of segments_within segment
set_first = refl

set_first_skipped : cleaned Skip (set (10 ∷ 20 ∷ []) ++ sequence (30 ∷ [])) ≡ Aside Cause.Sets
unfolding segments_of segments_within segment
set_first_skipped = refl

behind_the_set : cleaned Cut (sequence (10 ∷ 20 ∷ []) ++ (set (30 ∷ 40 ∷ []) ++ sequence (0 ∷ []))) ≡ Path (10 ∷ 20 ∷ [])
unfolding segments_of segments_within segment
behind_the_set = refl

behind_the_set_skipped : cleaned Skip (sequence (10 ∷ 20 ∷ []) ++ (set (30 ∷ 40 ∷ []) ++ sequence (0 ∷ []))) ≡ Aside Cause.Sets
unfolding segments_of segments_within segment
behind_the_set_skipped = refl

confederation : cleaned Cut (confed_sequence (64512 ∷ []) ++ sequence (10 ∷ 20 ∷ [])) ≡ Aside Confed
unfolding segments_of segments_within segment
confederation = refl

confederation_skipped : cleaned Skip (confed_sequence (64512 ∷ []) ++ sequence (10 ∷ 20 ∷ [])) ≡ Aside Confed
unfolding segments_of segments_within segment
confederation_skipped = refl

-- ---- merged, and not judged

abbrev merged : Sets → List ℕ → Cleaned
merged sets value = merged_of sets Two (record { code = 2; value = value } ∷ [])

unjudged_loop : merged Cut (sequence (10 ∷ 20 ∷ 20 ∷ 10 ∷ [])) ≡ Path (10 ∷ 20 ∷ 10 ∷ [])
unfolding segments_of segments_within segment
unjudged_loop = refl

unjudged_set_first : merged Cut (set (10 ∷ 20 ∷ []) ++ sequence (30 ∷ [])) ≡ Path []
unfolding segments_of segments_within segment
unjudged_set_first = refl

unmerged_set : merged Skip (set (10 ∷ 20 ∷ []) ++ sequence (30 ∷ [])) ≡ Aside Cause.Sets
unfolding segments_of segments_within segment
unmerged_set = refl

-- ---- no path, and bad segments

no_path : clean_of Cut Two [] ≡ Aside NoPath
no_path = refl

count_of_zero : cleaned Cut (2 ∷ 0 ∷ []) ≡ Aside BadSegments
unfolding segments_of segments_within segment
count_of_zero = refl

-- ---- the ends of the reserved ranges

documentation : is_reserved 64495 ≡ false
documentation = refl

documentation_begins : is_reserved 64496 ≡ true
documentation_begins = refl

documentation_ends : is_reserved 65551 ≡ true
documentation_ends = refl

behind_documentation : is_reserved 65552 ≡ false
behind_documentation = refl

private_begins : is_reserved 4200000000 ≡ true
private_begins = refl

before_private : is_reserved 4199999999 ≡ false
before_private = refl

last_number : is_reserved 4294967295 ≡ true
last_number = refl
