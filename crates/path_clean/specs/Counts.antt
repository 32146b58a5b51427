-- How many routes were set aside for each cause.
use Rattle.std.specs.Prelude.{ℕ, List, slice_index}
use Rattle.tor_arena.specs.Growth.{one_more}
use Rattle.path_clean.specs.declared.cleaned.Cause.{Cause}
use Rattle.path_clean.specs.declared.cleaned.Cause.TheVariants.{NoPath, BadSegments, Confed, Sets, Reserved, Loop, Short}

pub record CauseCounts : Type 0 where
  pub no_path : ℕ
  pub bad_segments : ℕ
  pub confed : ℕ
  pub sets : ℕ
  pub reserved : ℕ
  pub loop : ℕ
  pub short : ℕ

abbrev pub no_counts : CauseCounts
no_counts = record { no_path = 0; bad_segments = 0; confed = 0; sets = 0; reserved = 0; loop = 0; short = 0 }

-- the place of a cause in their order, from 0
abbrev pub place_of_cause : Cause → ℕ
place_of_cause NoPath = 0
place_of_cause BadSegments = 1
place_of_cause Confed = 2
place_of_cause Sets = 3
place_of_cause Reserved = 4
place_of_cause Loop = 5
place_of_cause Short = 6

-- seven numbers as counts, in the order of the causes
abbrev pub counts_from : List ℕ → CauseCounts
counts_from numbers = record {
  no_path = slice_index numbers 0;
  bad_segments = slice_index numbers 1;
  confed = slice_index numbers 2;
  sets = slice_index numbers 3;
  reserved = slice_index numbers 4;
  loop = slice_index numbers 5;
  short = slice_index numbers 6;
}

abbrev pub cause_count : Cause → CauseCounts → ℕ
cause_count NoPath counts = counts.no_path
cause_count BadSegments counts = counts.bad_segments
cause_count Confed counts = counts.confed
cause_count Sets counts = counts.sets
cause_count Reserved counts = counts.reserved
cause_count Loop counts = counts.loop
cause_count Short counts = counts.short

-- the same with one more route set aside for the cause
abbrev pub counted_one : Cause → CauseCounts → CauseCounts
counted_one NoPath counts = record counts { no_path = one_more counts.no_path }
counted_one BadSegments counts = record counts { bad_segments = one_more counts.bad_segments }
counted_one Confed counts = record counts { confed = one_more counts.confed }
counted_one Sets counts = record counts { sets = one_more counts.sets }
counted_one Reserved counts = record counts { reserved = one_more counts.reserved }
counted_one Loop counts = record counts { loop = one_more counts.loop }
counted_one Short counts = record counts { short = one_more counts.short }
