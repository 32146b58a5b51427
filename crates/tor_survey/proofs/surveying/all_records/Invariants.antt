use Rattle.std.proofs.Common.{◌≡◌, ◌+◌, ◌-◌, ◌^◌, ◌≤◌, drop}
use Rattle.std.specs.Prelude.{sum_by}
use Rattle.record_counts.specs.Counting.{capped}
use Rattle.tor_survey.proofs.surveying.all_records.Given as goal

-- the records so far, with those of the types that are left, are all
abbrev pub invariant-loop-count : goal.invariant-loop-count
invariant-loop-count l = record {
  sum : capped (l.records + sum_by (λ count. count.records) (drop l.count-index l.types)) ≡ capped (sum_by (λ count. count.records) l.fn.types);
  few : l.records ≤ 2 ^ 64 - 1;
}
