-- What counts are: how many records of a type are counted, and which types are listed, when more are counted and when two counts are
-- put together.
use Rattle.std.specs.Prelude.{◌≡◌, ◌≢◌, ◌↔◌, ◌⊎◌, ℕ, ◌+◌, ◌-◌, ◌^◌, ◌≤◌, [], Contains}
use Rattle.std.specs.List.Sorted.{IsStrictlySortedBy}
use Rattle.std.specs.Map.{keys_of}
use Rattle.record_counts.specs.declared.type_count.RecordType.{RecordType}
use Rattle.record_counts.specs.Counting.{Counts, type_cmp, count_of, capped, with_more, counts_together}

-- the type stands among those that occur
abbrev pub Occurs : RecordType → Counts → Type 0
Occurs t counts = Contains (keys_of counts) t

-- the types stand in ascending order, none twice, and none has a count above 2 ^ 64 - 1
pub record AreCounted (counts : Counts) : Type 0 where
  pub ascend : IsStrictlySortedBy type_cmp (keys_of counts)
  pub bounded : (t : RecordType) → count_of t counts ≤ 2 ^ 64 - 1

-- of this type so many records more are counted, and of every other as many as before; it is listed, and else what was listed before
pub record CountsMore (t : RecordType) (n : ℕ) (old new : Counts) : Type 0 where
  pub gains : count_of t new ≡ capped (count_of t old + n)
  pub others : (other : RecordType) → other ≢ t → count_of other new ≡ count_of other old
  pub listed : (other : RecordType) → Occurs other new ↔ ((other ≡ t) ⊎ Occurs other old)

-- of each type as many records are counted as in both together, and it is listed exactly if one of the two lists it
pub record CountsBoth (counts more all : Counts) : Type 0 where
  pub sums : (t : RecordType) → count_of t all ≡ capped (count_of t counts + count_of t more)
  pub listed : (t : RecordType) → Occurs t all ↔ (Occurs t counts ⊎ Occurs t more)

abbrev pub MoreLaw : Type 0
MoreLaw = (t : RecordType) (n : ℕ) (counts : Counts) → CountsMore t n counts (with_more t n counts)

abbrev pub CountsBothLaw : Type 0
CountsBothLaw = (counts more : Counts) → AreCounted counts → AreCounted more → CountsBoth counts more (counts_together counts more)

-- what counting gives, from no counts on: with more of a type, and with other counts besides
pub record CountedLaw : Type 0 where
  pub none : AreCounted []
  pub one_more : (t : RecordType) (n : ℕ) (counts : Counts) → AreCounted counts → AreCounted (with_more t n counts)
  pub both : (counts more : Counts) → AreCounted counts → AreCounted (counts_together counts more)
