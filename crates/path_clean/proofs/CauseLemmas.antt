-- What the segments of a route are merged to, by what stands among them.
use Rattle.std.proofs.Common.{◌≡◌, ℕ, drop, ◌&&◌, Bool, true, false, cond, nat_eq, List, [], ◌++◌, Option, Some, None, length, refl}
use Rattle.std.proofs.Common.{sym, ap, ◌∙◌}
use Rattle.std.specs.List.{dedup, flat_map, before_first, list_any}
use Rattle.std.proofs.Math.Seq.{drop-append_seam}
use Rattle.std.proofs.lemmas.List.{append-nil}
use Rattle.path_segments.specs.declared.as_path.Segment.{Segment}
use Rattle.path_segments.specs.PathOf.{is_confed}
use Rattle.path_merge.specs.declared.merging.Oddity.{Oddity}
use Rattle.path_merge.specs.declared.merging.Oddity.TheVariants.{Confederation, MixedSet}
use Rattle.path_merge.specs.Merging.{is_mixed_set, ases_of, merged_path, oddity_in, GoesBehind, MergesOnto}
use Rattle.path_merge.proofs.MergeLemmas.{merged-dedup}
use Rattle.path_clean.specs.declared.cleaned.Sets.{Sets}
use Rattle.path_clean.specs.declared.cleaned.Sets.TheVariants.{Cut, Skip}
use Rattle.path_clean.specs.declared.cleaned.Cause.{Cause}
use Rattle.path_clean.specs.declared.cleaned.Cause.TheVariants.{Confed}
use Rattle.path_clean.specs.declared.cleaned.Cleaned.TheVariants.{Path, Aside}
use Rattle.path_clean.specs.Clean.{is_skip, cleaned_as, merge_segments}
use Rattle.path_clean.specs.Behind.{one_sequence, cause_of, IsPutBehind}

abbrev pub oddity_by : (confed mixed : Bool) → Option Oddity
oddity_by confed mixed = cond confed (Some Confederation) (cond mixed (Some MixedSet) None)

-- why a route is set aside, by what stands among its segments
abbrev pub cause_by : Sets → Option Oddity → Option Cause
cause_by sets None = None
cause_by sets (Some oddity) = cause_of sets oddity

merged_with : (sets : Sets) (confed mixed : Bool) (path whole : List ℕ) → (confed ≡ false → path ≡ whole)
    → cleaned_as (cause_by sets (oddity_by confed mixed)) path ≡ cond confed (Aside Confed) (cond (is_skip sets && mixed) (Aside Cause.Sets) (Path whole))
merged_with Cut true mixed path whole is = refl
merged_with Skip true mixed path whole is = refl
merged_with Cut false true path whole is = ap Path (is refl)
merged_with Skip false true path whole is = refl
merged_with Cut false false path whole is = ap Path (is refl)
merged_with Skip false false path whole is = ap Path (is refl)

same_more : (old more whole : List ℕ) → old ++ more ≡ old ++ whole → more ≡ whole
same_more old more whole is = sym (drop-append_seam old more) ∙ ap (drop (length old)) is ∙ drop-append_seam old whole

-- what the segments of a route are merged to
pub merged_by : (sets : Sets) (segments : List Segment) (old new : List ℕ) (oddity : Option Oddity) → oddity ≡ oddity_in segments → GoesBehind old new
    → MergesOnto (length old) old segments new → IsPutBehind old new (merge_segments sets segments) (cause_by sets oddity)
merged_by sets segments old new oddity is goes merges = record {
  path = goes.0;
  behind = goes.1;
  same = ap (λ o. cleaned_as (cause_by sets o) goes.0) is
      ∙ merged_with sets (list_any (λ s. is_confed s.kind) segments) (list_any is_mixed_set segments) goes.0 (merged_path segments)
      (λ none. same_more old goes.0 (merged_path segments)
      (sym goes.1 ∙ merges none ∙ merged-dedup old (flat_map ases_of (before_first is_mixed_set segments))));
}

-- ---- one AS_SEQUENCE

none_skipped : (sets : Sets) → (is_skip sets && false) ≡ false
none_skipped Cut = refl
none_skipped Skip = refl

-- what a path that is one AS_SEQUENCE is merged to
pub plain-merged : (sets : Sets) (ases old new : List ℕ) → new ≡ old ++ dedup nat_eq ases → IsPutBehind old new (merge_segments sets (one_sequence ases)) None
plain-merged sets ases old new is = record {
  path = dedup nat_eq ases;
  behind = is;
  same = ap Path (sym (ap (dedup nat_eq) (append-nil ases)))
      ∙ sym (ap (λ skips. cond skips (Aside Cause.Sets) (Path (dedup nat_eq (ases ++ [])))) (none_skipped sets));
}
