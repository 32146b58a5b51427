-- How many records of each type and subtype there are (RFC 6396, section 2).
use Rattle.std.specs.Prelude.{ℕ, ◌+◌, ◌-◌, ◌^◌, min, List, [], ◌∷◌, map, unwrap_or}
use Rattle.std.specs.Ordering.{nat_cmp, ordering_then}
use Rattle.std.specs.declared.cmp.Ordering.{Ordering}
use Rattle.std.specs.BTreeMap.{insert_entry, is_at}
use Rattle.std.specs.Map.{lookup}
use Rattle.record_counts.specs.declared.type_count.RecordType.{RecordType}
use Rattle.record_counts.specs.declared.type_count.TypeCount.{TypeCount}

-- by type, and then by subtype
abbrev pub type_cmp : RecordType → RecordType → Ordering
type_cmp a b = ordering_then (nat_cmp a.kind b.kind) (nat_cmp a.subtype b.subtype)

-- the types that occur, in ascending order, each with how many records it has
abbrev pub Counts : Type 0
Counts = List (RecordType × ℕ)

-- how many records of a type are counted
abbrev pub count_of : RecordType → Counts → ℕ
count_of t counts = unwrap_or (lookup (is_at (type_cmp t)) counts) 0

-- a sum, which stops at 2 ^ 64 - 1
abbrev pub capped : ℕ → ℕ
capped n = min n (2 ^ 64 - 1)

-- so many records of a type more
unfoldable pub with_more : RecordType → ℕ → Counts → Counts
with_more t n counts = insert_entry type_cmp counts t (capped (count_of t counts + n))

-- those of the second counts besides
unfoldable pub counts_together : Counts → Counts → Counts
counts_together counts [] = counts
counts_together counts (entry ∷ more) = counts_together (with_more entry.0 entry.1 counts) more

-- as plain values
abbrev pub type_counts : Counts → List TypeCount
type_counts counts = map (λ entry. record { kind = entry.0.kind; subtype = entry.0.subtype; records = entry.1 }) counts
