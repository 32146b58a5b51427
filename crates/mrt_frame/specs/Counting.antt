-- The records of a file, counted by type and subtype.
use Rattle.std.specs.Prelude.{◌≡◌, ℕ, List, [], ◌∷◌, Option, Some, None, IfSome}
use Rattle.record_counts.specs.declared.type_count.RecordType.{RecordType}
use Rattle.record_counts.specs.Counting.{Counts, with_more}
use Rattle.mrt_frame.specs.declared.header.At.{At}
use Rattle.mrt_frame.specs.Records.{Record, cut, cut_from}

abbrev pub type_of_record : Record → RecordType
type_of_record r = record { kind = r.kind; subtype = r.subtype }

-- the counts with these records besides
unfoldable pub with_records : List Record → Counts → Counts
with_records [] counts = counts
with_records (r ∷ records) counts = with_records records (with_more (type_of_record r) 1 counts)

-- the counts of the records of a file
abbrev pub records_in : List ℕ → Counts
records_in octets = with_records (cut octets).records []

-- from the first place and octets on, where these are known, up to the second ones the records were counted: with those that are left
-- the new counts come to what the old ones come to with all
abbrev pub CountsOn : Option (List ℕ) → At → Counts → Option (List ℕ) → At → Counts → Type 0
CountsOn None at old left reached new = Unit {0}
CountsOn (Some octets) at old left reached new = IfSome left (λ rest.
    with_records (cut_from reached rest).records new ≡ with_records (cut_from at octets).records old)

-- all records from there on were counted
abbrev pub CountsAll : Option (List ℕ) → At → Counts → Counts → Type 0
CountsAll known at old new = IfSome known (λ octets. new ≡ with_records (cut_from at octets).records old)
