-- The AS path of a route. A TABLE_DUMP record has AS numbers of two octets, where AS_TRANS stands for each greater one; then
-- AS4_PATH may have the numbers themselves (RFC 6793). How the two are merged follows section 4.2.3 of that document. What
-- it leaves open, or says of a speaker with confederations of its own, is decided here, as is said at each line.
use Rattle.std.specs.Prelude.{◌≡◌, ◌≤◌, ℕ, zero, suc, ◌+◌, ◌-◌, ◌==◌, Bool, true, false, not, ◌&&◌, nat_le, List, [], ◌∷◌, ◌++◌, length}
use Rattle.std.specs.Prelude.{take, filter, Option, Some, None, option_map, option_and_then, Result, Ok, Err, if◌then◌else◌}
use Rattle.std.specs.List.{list_all}
use Rattle.byteorder.specs.Endian.{big_number}
use Rattle.path_attrs.specs.Attributes.{Attribute, as_path, first_value}
use Rattle.path_segments.specs.Segments.{segments_of}
use Rattle.path_segments.specs.declared.as_path.Width.{Width}
use Rattle.path_segments.specs.declared.as_path.Width.TheVariants.{Two, Four}
use Rattle.path_segments.specs.declared.as_path.SegKind.{SegKind}
use Rattle.path_segments.specs.declared.as_path.SegKind.TheVariants.{Set, Sequence, ConfedSequence, ConfedSet}
use Rattle.path_segments.specs.declared.as_path.Segment.{Segment}
use Rattle.path_segments.specs.declared.path.PathOf.{PathOf}
use Rattle.path_segments.specs.declared.path.PathOf.TheVariants.{Absent, Malformed, Segments}
use Rattle.path_segments.specs.declared.path_cursor.Pathless.{Pathless}
use Rattle.path_segments.specs.declared.path_cursor.Pathless.TheVariants as pathless

-- the type codes of AGGREGATOR (RFC 4271, section 5.1.7), AS4_PATH and AS4_AGGREGATOR (RFC 6793, section 9)
abbrev pub aggregator : ℕ
aggregator = 7

abbrev pub as4_path : ℕ
as4_path = 17

abbrev pub as4_aggregator : ℕ
as4_aggregator = 18

-- the AS that stands in two octets for one above 65535 (RFC 6793, section 9)
abbrev pub as_trans : ℕ
as_trans = 23456

-- a segment of a confederation: AS_CONFED_SEQUENCE or AS_CONFED_SET (RFC 5065, section 3)
abbrev pub is_confed : SegKind → Bool
is_confed Set = false
is_confed Sequence = false
is_confed ConfedSequence = true
is_confed ConfedSet = true

abbrev pub is_outside : Segment → Bool
is_outside s = not (is_confed s.kind)

-- ---- the first condition: numbers have two octets, and AS_PATH has no confederation segment. RFC 6793 would put such a segment
-- in front too; this project merges nothing there, since it sets such a route aside.
abbrev pub is_two : Width → Bool
is_two Two = true
is_two Four = false

abbrev pub has_no_confed : List Segment → Bool
has_no_confed segments = list_all is_outside segments

-- ---- the second: the first AS4_PATH, with numbers of four octets, is there and well formed; a malformed one is as if absent, and
-- the confederation segments of another are discarded (RFC 6793, section 6)
abbrev pub as4_segments : List Attribute → Option (List Segment)
as4_segments attrs = option_map (filter is_outside) (option_and_then (segments_of Four) (first_value as4_path attrs))

-- ---- the third: no speaker that knows no numbers of four octets has aggregated the route anew and left AS4_PATH as it was: then
-- AGGREGATOR names another AS than AS_TRANS beside an AS4_AGGREGATOR. The first of each counts, and one of another length than
-- 6 or 8 octets is as if absent, which is this project's own choice.
abbrev pub names_as : Option (List ℕ) → Bool
names_as None = false
names_as (Some value) = (length value == 6) && not (big_number 2 value == as_trans)

abbrev pub is_as4_aggregator : Option (List ℕ) → Bool
is_as4_aggregator None = false
is_as4_aggregator (Some value) = length value == 8

abbrev pub is_aggregated_anew : List Attribute → Bool
is_aggregated_anew attrs = names_as (first_value aggregator attrs) && is_as4_aggregator (first_value as4_aggregator attrs)

-- ---- the fourth: AS4_PATH counts no more ASes than AS_PATH. An AS_SET counts as one AS (RFC 4271, section 9.1.2.2), and
-- confederation segments don't count (RFC 5065, section 5.3).
abbrev pub count_by : SegKind → ℕ → ℕ
count_by Set members = 1
count_by Sequence members = members
count_by ConfedSequence members = 0
count_by ConfedSet members = 0

abbrev pub count_in : Segment → ℕ
count_in s = count_by s.kind (length s.ases)

abbrev pub ases_in : List Segment → ℕ
ases_in [] = 0
ases_in (s ∷ segments) = count_in s + ases_in segments

-- all four, of the segments of AS_PATH and AS4_PATH
abbrev pub is_merged : Width → List Attribute → (segments as4 : List Segment) → Bool
is_merged width attrs segments as4 =
    is_two width
    && has_no_confed segments
    && not (is_aggregated_anew attrs)
    && nat_le (ases_in as4) (ases_in segments)

-- ---- the merge

-- the segment as far as it has so many ASes
abbrev pub cut_to : ℕ → Segment → Segment
cut_to n s = record { kind = s.kind; ases = take n s.ases }

-- the first segments that count so many ASes, the last sequence cut where needed
abbrev pub leading : ℕ → List Segment → List Segment
leading n [] = []
leading zero (s ∷ segments) = []
leading (suc n) (s ∷ segments) =
    if nat_le (count_in s) (suc n) then s ∷ leading (suc n - count_in s) segments
    else cut_to (suc n) s ∷ []

-- all of the segments, or those that count so many ASes
abbrev pub leading_in : Option ℕ → List Segment → List Segment
leading_in None segments = segments
leading_in (Some n) segments = leading n segments

-- what AS_PATH counts more than AS4_PATH stands before that
abbrev pub merged : List Segment → List Segment → List Segment
merged segments as4 = leading (ases_in segments - ases_in as4) segments ++ as4

-- so the merged path counts as many ASes as AS_PATH (RFC 6793, section 4.2.3), and ends in AS4_PATH
abbrev pub MergeLaw : Type 0
MergeLaw =
    (segments as4 : List Segment) → ases_in as4 ≤ ases_in segments
    → (ases_in (merged segments as4) ≡ ases_in segments)
    × ((before : List Segment) × (merged segments as4 ≡ before ++ as4))

abbrev pub merged_with : Width → List Attribute → List Segment → Option (List Segment) → List Segment
merged_with width attrs segments None = segments
merged_with width attrs segments (Some as4) = if is_merged width attrs segments as4 then merged segments as4 else segments

abbrev pub path_of_segments : Width → List Attribute → Option (List Segment) → PathOf
path_of_segments width attrs None = Malformed
path_of_segments width attrs (Some segments) = Segments (merged_with width attrs segments (as4_segments attrs))

abbrev pub path_of_value : Width → List Attribute → Option (List ℕ) → PathOf
path_of_value width attrs None = Absent
path_of_value width attrs (Some value) = path_of_segments width attrs (segments_of width value)

-- the AS path by the first AS_PATH, with AS numbers of the width; where that is malformed (RFC 7606, section 7.2), AS4_PATH
-- doesn't help
abbrev pub path_of : Width → List Attribute → PathOf
path_of width attrs = path_of_value width attrs (first_value as_path attrs)

-- segments, or why there are none, are the AS path
abbrev pub IsPath : Result (List Segment) Pathless → PathOf → Type 0
IsPath (Ok segments) path = path ≡ Segments segments
IsPath (Err pathless.Absent) path = path ≡ Absent
IsPath (Err pathless.Malformed) path = path ≡ Malformed
