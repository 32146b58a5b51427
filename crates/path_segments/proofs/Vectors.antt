-- Values that were worked by hand.
use Rattle.std.proofs.Common.{◌≡◌, ℕ, List, [], ◌∷◌, Some, None, refl}
use Rattle.path_segments.specs.declared.as_path.Width.TheVariants.{Two, Four}
use Rattle.path_segments.specs.declared.as_path.SegKind.TheVariants.{Set, Sequence, ConfedSequence, ConfedSet}
use Rattle.path_segments.specs.Segments.{segment, segments_within, segments_of}

-- the value of the AS_PATH 10 20, in two octets and in four
two : List ℕ
two = 2 ∷ 2 ∷ 0 ∷ 10 ∷ 0 ∷ 20 ∷ []

four : List ℕ
four = 2 ∷ 2 ∷ 0 ∷ 0 ∷ 0 ∷ 10 ∷ 0 ∷ 0 ∷ 0 ∷ 20 ∷ []

-- a sequence, by the two widths
sequence_of_two : segments_of Two two ≡ Some (record { kind = Sequence; ases = 10 ∷ 20 ∷ [] } ∷ [])
unfolding segments_of segments_within segment two
sequence_of_two = refl

sequence_of_four : segments_of Four four ≡ Some (record { kind = Sequence; ases = 10 ∷ 20 ∷ [] } ∷ [])
unfolding segments_of segments_within segment four
sequence_of_four = refl

-- the octets of the one width read by the other
another_width : segments_of Four two ≡ None
unfolding segments_of segments_within segment two
another_width = refl

all_kinds : segments_of Two (1 ∷ 1 ∷ 0 ∷ 30 ∷ 2 ∷ 1 ∷ 1 ∷ 0 ∷ 3 ∷ 1 ∷ 0 ∷ 40 ∷ 4 ∷ 2 ∷ 0 ∷ 50 ∷ 255 ∷ 255 ∷ [])
    ≡ Some (record { kind = Set; ases = 30 ∷ [] } ∷ record { kind = Sequence; ases = 256 ∷ [] } ∷ record { kind = ConfedSequence; ases = 40 ∷ [] }
    ∷ record { kind = ConfedSet; ases = 50 ∷ 65535 ∷ [] } ∷ [])
unfolding segments_of segments_within segment
all_kinds = refl

no_segments : segments_of Four [] ≡ Some []
unfolding segments_of segments_within
no_segments = refl

count_zero : segments_of Four (2 ∷ 0 ∷ []) ≡ None
unfolding segments_of segments_within segment
count_zero = refl

other_kind : segments_of Two (5 ∷ 1 ∷ 0 ∷ 10 ∷ []) ≡ None
unfolding segments_of segments_within segment
other_kind = refl

kind_zero : segments_of Two (0 ∷ 1 ∷ 0 ∷ 10 ∷ []) ≡ None
unfolding segments_of segments_within segment
kind_zero = refl

not_whole : segments_of Two (2 ∷ 2 ∷ 0 ∷ 10 ∷ 0 ∷ []) ≡ None
unfolding segments_of segments_within segment
not_whole = refl

octets_behind : segments_of Two (2 ∷ 1 ∷ 0 ∷ 10 ∷ 0 ∷ []) ≡ None
unfolding segments_of segments_within segment
octets_behind = refl
