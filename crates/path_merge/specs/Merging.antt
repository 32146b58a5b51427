-- What the segments of an AS path stand for, and numbers that go onto a path one by one, behind others.
use Rattle.std.specs.Prelude.{◌≡◌, ℕ, ◌-◌, ◌==◌, Bool, true, false, not, ◌&&◌, nat_lt, nat_eq}
use Rattle.std.specs.Prelude.{List, [], ◌∷◌, ◌++◌, length, take, slice_index, fold}
use Rattle.std.specs.Prelude.{Option, Some, None, if◌then◌else◌}
use Rattle.std.specs.List.{list_any, list_all, flat_map, before_first, dedup}
use Rattle.path_segments.specs.PathOf.{is_confed}
use Rattle.path_segments.specs.declared.as_path.Segment.{Segment}
use Rattle.path_segments.specs.declared.as_path.SegKind.{SegKind}
use Rattle.path_segments.specs.declared.as_path.SegKind.TheVariants.{Set, Sequence, ConfedSequence, ConfedSet}
use Rattle.path_merge.specs.declared.merging.Oddity.{Oddity}
use Rattle.path_merge.specs.declared.merging.Oddity.TheVariants.{Confederation, MixedSet}

abbrev pub is_set : SegKind → Bool
is_set Set = true
is_set Sequence = false
is_set ConfedSequence = false
is_set ConfedSet = false

-- the members are all equal
abbrev pub are_equal : List ℕ → Bool
are_equal [] = true
are_equal (x ∷ xs) = list_all (λ y. y == x) xs

-- an AS_SET whose members differ
abbrev pub is_mixed_set : Segment → Bool
is_mixed_set s = is_set s.kind && not (are_equal s.ases)

-- the ASes that a segment stands for: an AS_SET whose members are all equal stands for that one AS
abbrev pub ases_of : Segment → List ℕ
ases_of s = if is_set s.kind then take 1 s.ases else s.ases

-- what stands before the first AS_SET whose members differ, with equal neighbours merged into one (RFC 4271, section 5.1.2: an
-- AS may put its number there more than once)
abbrev pub merged_path : List Segment → List ℕ
merged_path segments = dedup nat_eq (flat_map ases_of (before_first is_mixed_set segments))

-- the number stands last, behind the first so many
abbrev pub ends_behind : (start : ℕ) → List ℕ → ℕ → Bool
ends_behind start numbers number = nat_lt start (length numbers) && number == slice_index numbers (length numbers - 1)

-- a number goes last on the path behind the first so many numbers, unless it stands last there already
abbrev pub merged_behind : (start : ℕ) → List ℕ → ℕ → List ℕ
merged_behind start numbers number = if ends_behind start numbers number then numbers else numbers ++ number ∷ []

-- the number of a run goes last, where the next one is another
abbrev pub with_run : List ℕ → (last next : ℕ) → List ℕ
with_run numbers last next = if next == last then numbers else numbers ++ last ∷ []

-- a segment of a confederation, or else an AS_SET whose members differ
abbrev pub oddity_in : List Segment → Option Oddity
oddity_in segments =
    if list_any (λ s. is_confed s.kind) segments then Some Confederation
    else if list_any is_mixed_set segments then Some MixedSet
    else None

-- the same, where such an AS_SET stands before the segments
abbrev pub oddity_from_set : List Segment → Oddity
oddity_from_set segments = if list_any (λ s. is_confed s.kind) segments then Confederation else MixedSet

-- numbers went behind those that were there, and none of these changed
abbrev pub GoesBehind : (old new : List ℕ) → Type 0
GoesBehind old new = (more : List ℕ) × (new ≡ old ++ more)

-- where no segment is a confederation's, the ASes before the first AS_SET whose members differ went onto the path behind the first so
-- many numbers
abbrev pub MergesOnto : (start : ℕ) (old : List ℕ) (segments : List Segment) (new : List ℕ) → Type 0
MergesOnto start old segments new =
    list_any (λ s. is_confed s.kind) segments ≡ false
    → new ≡ fold (merged_behind start) old (flat_map ases_of (before_first is_mixed_set segments))
