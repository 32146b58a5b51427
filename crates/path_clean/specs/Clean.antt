-- What a route's AS path is cleaned to. The first rule that sets the route aside decides.
use Rattle.std.specs.Prelude.{◌≡◌, ℕ, Bool, true, false, not, ◌&&◌, nat_lt, List, [], ◌∷◌, length, Option, Some, None, if◌then◌else◌}
use Rattle.std.specs.List.{list_any}
use Rattle.path_attrs.specs.Attributes.{Attribute}
use Rattle.path_segments.specs.PathOf.{is_confed, path_of}
use Rattle.path_segments.specs.declared.path.PathOf.{PathOf}
use Rattle.path_segments.specs.declared.path.PathOf.TheVariants.{Absent, Malformed, Segments}
use Rattle.path_segments.specs.declared.as_path.Width.{Width}
use Rattle.path_segments.specs.declared.as_path.SegKind.TheVariants.{Sequence}
use Rattle.path_segments.specs.declared.as_path.Segment.{Segment}
use Rattle.path_merge.specs.Merging.{is_mixed_set, merged_path}
use Rattle.path_clean.specs.declared.cleaned.Sets.{Sets}
use Rattle.path_clean.specs.declared.cleaned.Sets.TheVariants.{Cut, Skip}
use Rattle.path_clean.specs.declared.cleaned.Cause.{Cause}
use Rattle.path_clean.specs.declared.cleaned.Cause.TheVariants.{NoPath, BadSegments, Confed, Reserved, Loop, Short}
use Rattle.path_clean.specs.declared.cleaned.Cleaned.{Cleaned}
use Rattle.path_clean.specs.declared.cleaned.Cleaned.TheVariants.{Path, Aside}
use Rattle.tor_arena.specs.Distinct.{is_distinct}
use Rattle.path_clean.specs.Paths.{is_reserved, is_cleaned}

-- a path without a cause, and else the cause
abbrev pub cleaned_as : Option Cause → List ℕ → Cleaned
cleaned_as None path = Path path
cleaned_as (Some cause) path = Aside cause

abbrev pub is_skip : Sets → Bool
is_skip Cut = false
is_skip Skip = true

-- a reserved number is left; an AS stands there twice; fewer than two ASes are left
abbrev pub judged : List ℕ → Cleaned
judged path =
    if list_any is_reserved path then Aside Reserved
    else if not (is_distinct path) then Aside Loop
    else if nat_lt (length path) 2 then Aside Short
    else Path path

-- a segment of a confederation; with `skip`, an AS_SET whose members differ; else the path before the first such set is judged
abbrev pub clean_segments : Sets → List Segment → Cleaned
clean_segments sets segments =
    if list_any (λ s. is_confed s.kind) segments then Aside Confed
    else if is_skip sets && list_any is_mixed_set segments then Aside Cause.Sets
    else judged (merged_path segments)

-- there is no AS_PATH; its value is malformed; or it has segments
abbrev pub clean_path : Sets → PathOf → Cleaned
clean_path sets Absent = Aside NoPath
clean_path sets Malformed = Aside BadSegments
clean_path sets (Segments segments) = clean_segments sets segments

-- the AS path of the attributes, merged with AS4_PATH where that counts
abbrev pub clean_of : Sets → Width → List Attribute → Cleaned
clean_of sets width attrs = clean_path sets (path_of width attrs)

-- ---- cleaning in two steps: what is known of a route before its path is judged, and the judging

-- a segment of a confederation; with `skip`, an AS_SET whose members differ; else the path before the first such set, unjudged
abbrev pub merge_segments : Sets → List Segment → Cleaned
merge_segments sets segments =
    if list_any (λ s. is_confed s.kind) segments then Aside Confed
    else if is_skip sets && list_any is_mixed_set segments then Aside Cause.Sets
    else Path (merged_path segments)

abbrev pub merge_path : Sets → PathOf → Cleaned
merge_path sets Absent = Aside NoPath
merge_path sets Malformed = Aside BadSegments
merge_path sets (Segments segments) = merge_segments sets segments

-- the cause for which a route is set aside before its path is judged, or the path that is left to judge
abbrev pub merged_of : Sets → Width → List Attribute → Cleaned
merged_of sets width attrs = merge_path sets (path_of width attrs)

-- the path is judged, where there is no cause before
abbrev pub judge_merged : Cleaned → Cleaned
judge_merged (Path path) = judged path
judge_merged (Aside cause) = Aside cause

-- a route is cleaned to what it is merged to, judged
abbrev pub JudgedLast : Type 0
JudgedLast = (sets : Sets) (width : Width) (attrs : List Attribute) → clean_of sets width attrs ≡ judge_merged (merged_of sets width attrs)

-- ---- the laws

-- what is cleaned to a path has at least two ASes, all distinct, none reserved
abbrev pub PathsAreClean : Type 0
PathsAreClean =
    (sets : Sets) (width : Width) (attrs : List Attribute) (path : List ℕ)
    → clean_of sets width attrs ≡ Path path → is_cleaned path ≡ true

-- a clean path that is one AS_SEQUENCE comes out as it stands
abbrev pub CleanPathsStay : Type 0
CleanPathsStay =
    (sets : Sets) (width : Width) (attrs : List Attribute) (path : List ℕ)
    → path_of width attrs ≡ Segments (record { kind = Sequence; ases = path } ∷ [])
    → is_cleaned path ≡ true → clean_of sets width attrs ≡ Path path
