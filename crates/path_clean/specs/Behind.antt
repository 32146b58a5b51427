-- Paths that go behind others, each of which, with a cause if there is one, is what a route is merged to.
use Rattle.std.specs.Prelude.{◌≡◌, ℕ, List, [], ◌∷◌, ◌++◌, Option, Some, None}
use Rattle.path_segments.specs.declared.as_path.Segment.{Segment}
use Rattle.path_segments.specs.declared.as_path.SegKind.TheVariants.{Sequence}
use Rattle.path_merge.specs.declared.merging.Oddity.{Oddity}
use Rattle.path_merge.specs.declared.merging.Oddity.TheVariants.{Confederation, MixedSet}
use Rattle.path_clean.specs.declared.cleaned.Sets.{Sets}
use Rattle.path_clean.specs.declared.cleaned.Sets.TheVariants.{Cut, Skip}
use Rattle.path_clean.specs.declared.cleaned.Cause.{Cause}
use Rattle.path_clean.specs.declared.cleaned.Cause.TheVariants.{Confed}
use Rattle.path_clean.specs.declared.cleaned.Cleaned.{Cleaned}
use Rattle.path_clean.specs.Clean.{cleaned_as}

-- the segments of a path that is one AS_SEQUENCE
abbrev pub one_sequence : (ases : List ℕ) → List Segment
one_sequence ases = record { kind = Sequence; ases = ases } ∷ []

-- why a route with this among its segments is set aside, if it is
abbrev pub cause_of : Sets → Oddity → Option Cause
cause_of sets Confederation = Some Confed
cause_of Cut MixedSet = None
cause_of Skip MixedSet = Some Cause.Sets

-- a path went behind the numbers, which with the cause, if there is one, is what a route is merged to
pub record IsPutBehind (old new : List ℕ) (merged : Cleaned) (cause : Option Cause) : Type 0 where
  pub path : List ℕ
  pub behind : new ≡ old ++ path
  pub same : cleaned_as cause path ≡ merged

-- the same of a path that went behind others
pub record IsMergedBehind (old new : List (List ℕ)) (merged : Cleaned) (cause : Option Cause) : Type 0 where
  pub path : List ℕ
  pub behind : new ≡ old ++ path ∷ []
  pub same : cleaned_as cause path ≡ merged
