-- What the counts of records are: which types are listed, and with which counts (RFC 6396, section 2).
use Rattle.std.specs.Prelude.{◌≡◌, ◌↔◌, ℕ, ◌&&◌, Bool, List, ◌++◌, map, nat_eq, count_by, Contains}
use Rattle.std.specs.List.Sorted.{IsStrictlySortedBy}
use Rattle.std.specs.Map.{keys_of}
use Rattle.record_counts.specs.declared.type_count.RecordType.{RecordType}
use Rattle.record_counts.specs.Counting.{Counts, type_cmp, count_of, capped, counts_together}
use Rattle.record_counts.specs.Counted.{Occurs}
use Rattle.mrt_frame.specs.Counting.{type_of_record, records_in}
use Rattle.mrt_frame.specs.Records.{Record, cut}

-- whether a record has this type and subtype
abbrev pub has_type : RecordType → Record → Bool
has_type t r = nat_eq r.kind t.kind && nat_eq r.subtype t.subtype

-- the types of these records are listed in ascending order, none twice and no other, each with how many of the records have it, up to
-- 2 ^ 64 - 1
pub record AreCountsOf (records : List Record) (counts : Counts) : Type 0 where
  pub many : (t : RecordType) → count_of t counts ≡ capped (count_by (has_type t) records)
  pub listed : (t : RecordType) → Occurs t counts ↔ Contains (map type_of_record records) t
  pub ascend : IsStrictlySortedBy type_cmp (keys_of counts)

-- the counts of a file are those of its records
abbrev pub FileCountsLaw : Type 0
FileCountsLaw = (octets : List ℕ) → AreCountsOf (cut octets).records (records_in octets)

-- the counts of some records, put together with those of others, are the counts of all of them
abbrev pub CountsTogetherLaw : Type 0
CountsTogetherLaw =
    (records others : List Record) (counts more : Counts) → AreCountsOf records counts → AreCountsOf others more →
    AreCountsOf (records ++ others) (counts_together counts more)
