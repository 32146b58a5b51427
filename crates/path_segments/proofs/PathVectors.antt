-- AS paths that were worked by hand.
use Rattle.std.proofs.Common.{◌≡◌, ℕ, List, [], ◌∷◌, refl}
use Rattle.path_segments.specs.declared.as_path.Width.TheVariants.{Two, Four}
use Rattle.path_segments.specs.declared.as_path.SegKind.TheVariants.{Set, Sequence, ConfedSequence}
use Rattle.path_segments.specs.declared.as_path.Segment.{Segment}
use Rattle.path_segments.specs.declared.path.PathOf.TheVariants.{Absent, Malformed, Segments}
use Rattle.path_attrs.specs.Attributes.{Attribute}
use Rattle.path_segments.specs.Segments.{segment, segments_within, segments_of}
use Rattle.path_segments.specs.PathOf.{path_of}

abbrev attr : ℕ → List ℕ → Attribute
attr code value = record { code = code; value = value }

abbrev set : List ℕ → Segment
set ases = record { kind = Set; ases = ases }

abbrev sequence : List ℕ → Segment
sequence ases = record { kind = Sequence; ases = ases }

abbrev confed_sequence : List ℕ → Segment
confed_sequence ases = record { kind = ConfedSequence; ases = ases }

-- 10 23456 20 and 70000 20
merges_two : path_of Two (attr 2 (2 ∷ 3 ∷ 0 ∷ 10 ∷ 91 ∷ 160 ∷ 0 ∷ 20 ∷ []) ∷ attr 17 (2 ∷ 2 ∷ 0 ∷ 1 ∷ 17 ∷ 112 ∷ 0 ∷ 0 ∷ 0 ∷ 20 ∷ []) ∷ [])
    ≡ Segments (sequence (10 ∷ []) ∷ sequence (70000 ∷ 20 ∷ []) ∷ [])
unfolding segments_of segments_within segment
merges_two = refl

without_as4_path : path_of Two (attr 2 (2 ∷ 3 ∷ 0 ∷ 10 ∷ 91 ∷ 160 ∷ 0 ∷ 20 ∷ []) ∷ [])
    ≡ Segments (sequence (10 ∷ 23456 ∷ 20 ∷ []) ∷ [])
unfolding segments_of segments_within segment
without_as4_path = refl

-- AS4_PATH has no effect where AS_PATH has numbers of four octets
in_four_octets : path_of Four (attr 2 (2 ∷ 3 ∷ 0 ∷ 0 ∷ 0 ∷ 10 ∷ 0 ∷ 0 ∷ 91 ∷ 160 ∷ 0 ∷ 0 ∷ 0 ∷ 20 ∷ []) ∷ attr 17 (2 ∷ 2 ∷ 0 ∷ 1 ∷ 17 ∷ 112 ∷ 0 ∷ 0 ∷ 0 ∷ 20 ∷ []) ∷ [])
    ≡ Segments (sequence (10 ∷ 23456 ∷ 20 ∷ []) ∷ [])
unfolding segments_of segments_within segment
in_four_octets = refl

-- nothing of AS_PATH is left
counts_are_equal : path_of Two (attr 2 (2 ∷ 3 ∷ 0 ∷ 10 ∷ 91 ∷ 160 ∷ 0 ∷ 20 ∷ []) ∷ attr 17 (2 ∷ 3 ∷ 0 ∷ 0 ∷ 0 ∷ 11 ∷ 0 ∷ 1 ∷ 17 ∷ 112 ∷ 0 ∷ 0 ∷ 0 ∷ 20 ∷ []) ∷ [])
    ≡ Segments (sequence (11 ∷ 70000 ∷ 20 ∷ []) ∷ [])
unfolding segments_of segments_within segment
counts_are_equal = refl

longer_as4_path : path_of Two (attr 2 (2 ∷ 2 ∷ 0 ∷ 10 ∷ 91 ∷ 160 ∷ []) ∷ attr 17 (2 ∷ 3 ∷ 0 ∷ 0 ∷ 0 ∷ 11 ∷ 0 ∷ 1 ∷ 17 ∷ 112 ∷ 0 ∷ 0 ∷ 0 ∷ 20 ∷ []) ∷ [])
    ≡ Segments (sequence (10 ∷ 23456 ∷ []) ∷ [])
unfolding segments_of segments_within segment
longer_as4_path = refl

-- all of AS_PATH is left
empty_as4_path : path_of Two (attr 2 (2 ∷ 3 ∷ 0 ∷ 10 ∷ 91 ∷ 160 ∷ 0 ∷ 20 ∷ []) ∷ attr 17 ([]) ∷ [])
    ≡ Segments (sequence (10 ∷ 23456 ∷ 20 ∷ []) ∷ [])
unfolding segments_of segments_within segment
empty_as4_path = refl

malformed_as4_path : path_of Two (attr 2 (2 ∷ 3 ∷ 0 ∷ 10 ∷ 91 ∷ 160 ∷ 0 ∷ 20 ∷ []) ∷ attr 17 (9 ∷ 2 ∷ 0 ∷ 1 ∷ 17 ∷ 112 ∷ 0 ∷ 0 ∷ 0 ∷ 20 ∷ []) ∷ [])
    ≡ Segments (sequence (10 ∷ 23456 ∷ 20 ∷ []) ∷ [])
unfolding segments_of segments_within segment
malformed_as4_path = refl

first_as4_path_counts : path_of Two (attr 2 (2 ∷ 3 ∷ 0 ∷ 10 ∷ 91 ∷ 160 ∷ 0 ∷ 20 ∷ []) ∷ attr 17 (2 ∷ 2 ∷ 0 ∷ 1 ∷ 17 ∷ 112 ∷ 0 ∷ 0 ∷ 0 ∷ 20 ∷ []) ∷ attr 17 (2 ∷ 2 ∷ 0 ∷ 1 ∷ 17 ∷ 113 ∷ 0 ∷ 0 ∷ 0 ∷ 30 ∷
    []) ∷ [])
    ≡ Segments (sequence (10 ∷ []) ∷ sequence (70000 ∷ 20 ∷ []) ∷ [])
unfolding segments_of segments_within segment
first_as4_path_counts = refl

-- where the first is malformed the second doesn't help
first_is_malformed : path_of Two (attr 2 (2 ∷ 3 ∷ 0 ∷ 10 ∷ 91 ∷ 160 ∷ 0 ∷ 20 ∷ []) ∷ attr 17 (9 ∷ 2 ∷ 0 ∷ 1 ∷ 17 ∷ 112 ∷ 0 ∷ 0 ∷ 0 ∷ 20 ∷ []) ∷ attr 17 (2 ∷ 2 ∷ 0 ∷ 1 ∷ 17 ∷ 112 ∷ 0 ∷ 0 ∷ 0 ∷ 20 ∷
    []) ∷ [])
    ≡ Segments (sequence (10 ∷ 23456 ∷ 20 ∷ []) ∷ [])
unfolding segments_of segments_within segment
first_is_malformed = refl

confed_in_as_path : path_of Two (attr 2 (3 ∷ 1 ∷ 252 ∷ 0 ∷ 2 ∷ 3 ∷ 0 ∷ 10 ∷ 91 ∷ 160 ∷ 0 ∷ 20 ∷ []) ∷ attr 17 (2 ∷ 2 ∷ 0 ∷ 1 ∷ 17 ∷ 112 ∷ 0 ∷ 0 ∷ 0 ∷ 20 ∷ []) ∷ [])
    ≡ Segments (confed_sequence (64512 ∷ []) ∷ sequence (10 ∷ 23456 ∷ 20 ∷ []) ∷ [])
unfolding segments_of segments_within segment
confed_in_as_path = refl

-- it is discarded there
confed_in_as4_path : path_of Two (attr 2 (2 ∷ 3 ∷ 0 ∷ 10 ∷ 91 ∷ 160 ∷ 0 ∷ 20 ∷ []) ∷ attr 17 (3 ∷ 1 ∷ 0 ∷ 0 ∷ 252 ∷ 0 ∷ 2 ∷ 2 ∷ 0 ∷ 1 ∷ 17 ∷ 112 ∷ 0 ∷ 0 ∷ 0 ∷ 20 ∷ []) ∷ [])
    ≡ Segments (sequence (10 ∷ []) ∷ sequence (70000 ∷ 20 ∷ []) ∷ [])
unfolding segments_of segments_within segment
confed_in_as4_path = refl

-- AGGREGATOR of AS 10 beside AS4_AGGREGATOR
aggregated_anew : path_of Two (attr 2 (2 ∷ 3 ∷ 0 ∷ 10 ∷ 91 ∷ 160 ∷ 0 ∷ 20 ∷ []) ∷ attr 17 (2 ∷ 2 ∷ 0 ∷ 1 ∷ 17 ∷ 112 ∷ 0 ∷ 0 ∷ 0 ∷ 20 ∷ []) ∷ attr 7 (0 ∷ 10 ∷ 192 ∷ 0 ∷ 2 ∷ 1 ∷ []) ∷ attr 18 (0 ∷ 1 ∷
    17 ∷ 112 ∷ 192 ∷ 0 ∷ 2 ∷ 1 ∷ []) ∷ [])
    ≡ Segments (sequence (10 ∷ 23456 ∷ 20 ∷ []) ∷ [])
unfolding segments_of segments_within segment
aggregated_anew = refl

-- AGGREGATOR of AS_TRANS beside AS4_AGGREGATOR
aggregated_in_four_octets : path_of Two (attr 2 (2 ∷ 3 ∷ 0 ∷ 10 ∷ 91 ∷ 160 ∷ 0 ∷ 20 ∷ []) ∷ attr 17 (2 ∷ 2 ∷ 0 ∷ 1 ∷ 17 ∷ 112 ∷ 0 ∷ 0 ∷ 0 ∷ 20 ∷ []) ∷ attr 7 (91 ∷ 160 ∷ 192 ∷ 0 ∷ 2 ∷ 1 ∷ []) ∷ attr
    18 (0 ∷ 1 ∷ 17 ∷ 112 ∷ 192 ∷ 0 ∷ 2 ∷ 1 ∷ []) ∷ [])
    ≡ Segments (sequence (10 ∷ []) ∷ sequence (70000 ∷ 20 ∷ []) ∷ [])
unfolding segments_of segments_within segment
aggregated_in_four_octets = refl

-- AGGREGATOR of AS 10 alone
aggregated_once : path_of Two (attr 2 (2 ∷ 3 ∷ 0 ∷ 10 ∷ 91 ∷ 160 ∷ 0 ∷ 20 ∷ []) ∷ attr 17 (2 ∷ 2 ∷ 0 ∷ 1 ∷ 17 ∷ 112 ∷ 0 ∷ 0 ∷ 0 ∷ 20 ∷ []) ∷ attr 7 (0 ∷ 10 ∷ 192 ∷ 0 ∷ 2 ∷ 1 ∷ []) ∷ [])
    ≡ Segments (sequence (10 ∷ []) ∷ sequence (70000 ∷ 20 ∷ []) ∷ [])
unfolding segments_of segments_within segment
aggregated_once = refl

as4_aggregator_alone : path_of Two (attr 2 (2 ∷ 3 ∷ 0 ∷ 10 ∷ 91 ∷ 160 ∷ 0 ∷ 20 ∷ []) ∷ attr 17 (2 ∷ 2 ∷ 0 ∷ 1 ∷ 17 ∷ 112 ∷ 0 ∷ 0 ∷ 0 ∷ 20 ∷ []) ∷ attr 18 (0 ∷ 1 ∷ 17 ∷ 112 ∷ 192 ∷ 0 ∷ 2 ∷ 1 ∷ []) ∷
    [])
    ≡ Segments (sequence (10 ∷ []) ∷ sequence (70000 ∷ 20 ∷ []) ∷ [])
unfolding segments_of segments_within segment
as4_aggregator_alone = refl

-- an AGGREGATOR of 8 octets, or an AS4_AGGREGATOR of 6, is as if absent
other_lengths : path_of Two (attr 2 (2 ∷ 3 ∷ 0 ∷ 10 ∷ 91 ∷ 160 ∷ 0 ∷ 20 ∷ []) ∷ attr 17 (2 ∷ 2 ∷ 0 ∷ 1 ∷ 17 ∷ 112 ∷ 0 ∷ 0 ∷ 0 ∷ 20 ∷ []) ∷ attr 7 (0 ∷ 0 ∷ 0 ∷ 10 ∷ 192 ∷ 0 ∷ 2 ∷ 1 ∷ []) ∷ attr 18 (0
    ∷ 1 ∷ 17 ∷ 112 ∷ 192 ∷ 0 ∷ 2 ∷ 1 ∷ []) ∷ [])
    ≡ Segments (sequence (10 ∷ []) ∷ sequence (70000 ∷ 20 ∷ []) ∷ [])
unfolding segments_of segments_within segment
other_lengths = refl

other_lengths_of_as4_aggregator : path_of Two (attr 2 (2 ∷ 3 ∷ 0 ∷ 10 ∷ 91 ∷ 160 ∷ 0 ∷ 20 ∷ []) ∷ attr 17 (2 ∷ 2 ∷ 0 ∷ 1 ∷ 17 ∷ 112 ∷ 0 ∷ 0 ∷ 0 ∷ 20 ∷ []) ∷ attr 7 (0 ∷ 10 ∷ 192 ∷ 0 ∷ 2 ∷ 1 ∷ []) ∷
    attr 18 (0 ∷ 10 ∷ 192 ∷ 0 ∷ 2 ∷ 1 ∷ []) ∷ [])
    ≡ Segments (sequence (10 ∷ []) ∷ sequence (70000 ∷ 20 ∷ []) ∷ [])
unfolding segments_of segments_within segment
other_lengths_of_as4_aggregator = refl

-- 10 {30 40} 23456 and 70000: an AS_SET counts as one
set_before_the_cut : path_of Two (attr 2 (2 ∷ 1 ∷ 0 ∷ 10 ∷ 1 ∷ 2 ∷ 0 ∷ 30 ∷ 0 ∷ 40 ∷ 2 ∷ 1 ∷ 91 ∷ 160 ∷ []) ∷ attr 17 (2 ∷ 1 ∷ 0 ∷ 1 ∷ 17 ∷ 112 ∷ []) ∷ [])
    ≡ Segments (sequence (10 ∷ []) ∷ set (30 ∷ 40 ∷ []) ∷ sequence (70000 ∷ []) ∷ [])
unfolding segments_of segments_within segment
set_before_the_cut = refl

-- 10 {30 40} 23456, and {30 40} 70000
set_at_the_cut : path_of Two (attr 2 (2 ∷ 1 ∷ 0 ∷ 10 ∷ 1 ∷ 2 ∷ 0 ∷ 30 ∷ 0 ∷ 40 ∷ 2 ∷ 1 ∷ 91 ∷ 160 ∷ []) ∷ attr 17 (1 ∷ 2 ∷ 0 ∷ 0 ∷ 0 ∷ 30 ∷ 0 ∷ 0 ∷ 0 ∷ 40 ∷ 2 ∷ 1 ∷ 0 ∷ 1 ∷ 17 ∷ 112 ∷ []) ∷ [])
    ≡ Segments (sequence (10 ∷ []) ∷ set (30 ∷ 40 ∷ []) ∷ sequence (70000 ∷ []) ∷ [])
unfolding segments_of segments_within segment
set_at_the_cut = refl

-- {30 40 50} counts no more than 10
set_is_longer_than_as_path : path_of Two (attr 2 (2 ∷ 1 ∷ 0 ∷ 10 ∷ []) ∷ attr 17 (1 ∷ 3 ∷ 0 ∷ 0 ∷ 0 ∷ 30 ∷ 0 ∷ 0 ∷ 0 ∷ 40 ∷ 0 ∷ 0 ∷ 0 ∷ 50 ∷ []) ∷ [])
    ≡ Segments (set (30 ∷ 40 ∷ 50 ∷ []) ∷ [])
unfolding segments_of segments_within segment
set_is_longer_than_as_path = refl

-- 10 11, 12 23456, and 70000
cut_in_the_second_sequence : path_of Two (attr 2 (2 ∷ 2 ∷ 0 ∷ 10 ∷ 0 ∷ 11 ∷ 2 ∷ 2 ∷ 0 ∷ 12 ∷ 91 ∷ 160 ∷ []) ∷ attr 17 (2 ∷ 1 ∷ 0 ∷ 1 ∷ 17 ∷ 112 ∷ []) ∷ [])
    ≡ Segments (sequence (10 ∷ 11 ∷ []) ∷ sequence (12 ∷ []) ∷ sequence (70000 ∷ []) ∷ [])
unfolding segments_of segments_within segment
cut_in_the_second_sequence = refl

no_as_path : path_of Two (attr 17 (2 ∷ 2 ∷ 0 ∷ 1 ∷ 17 ∷ 112 ∷ 0 ∷ 0 ∷ 0 ∷ 20 ∷ []) ∷ [])
    ≡ Absent
unfolding segments_of segments_within segment
no_as_path = refl

-- a malformed AS_PATH stays so
malformed_as_path : path_of Two (attr 2 (2 ∷ 0 ∷ []) ∷ attr 17 (2 ∷ 2 ∷ 0 ∷ 1 ∷ 17 ∷ 112 ∷ 0 ∷ 0 ∷ 0 ∷ 20 ∷ []) ∷ [])
    ≡ Malformed
unfolding segments_of segments_within segment
malformed_as_path = refl
