-- What the counts of records are: with one record more, and put together.
use Rattle.std.proofs.Common.{◌≡◌, ◌⊎◌, inl, inr, ⊎_elim, ℕ, zero, suc, ◌+◌, ◌<◌, ◌&&◌, true, cond}
use Rattle.std.proofs.Common.{List, [], ◌∷◌, ◌++◌, map, length, slice_index_or}
use Rattle.std.proofs.Common.{count_by, Contains, refl, sym, ap, subst, ◌∙◌, arith}
use Rattle.std.specs.BTreeMap.{is_at}
use Rattle.std.specs.Cmp.{both_ways, first_so, second_so}
use Rattle.std.proofs.lemmas.Bool.{cases_Bool}
use Rattle.std.proofs.lemmas.List.Elements.{Contains-append_left, Contains-append_right, Contains-append_cases}
use Rattle.std.proofs.lemmas.List.Sums.{sum_by-cons, sum_by-append}
use borrow.Author.Tests.{eqb-true, eq-eqb}
use Rattle.record_counts.specs.declared.type_count.RecordType.{RecordType}
use Rattle.record_counts.specs.Counting.{Counts, type_cmp, count_of, capped, with_more}
use Rattle.record_counts.specs.Counted.{Occurs, AreCounted}
use Rattle.record_counts.proofs.CountedLemmas.{same_at, at_itself, gained, kept, now_listed, was_listed}
use Rattle.record_counts.proofs.CountedLemmas.{counted_none, counted_more, counted_both, together_law}
use Rattle.mrt_frame.specs.Counted.{has_type, AreCountsOf, FileCountsLaw, CountsTogetherLaw}
use Rattle.mrt_frame.specs.Counting.{type_of_record, with_records}
use Rattle.mrt_frame.specs.Records.{Record, cut}

-- ---- the test of a type

abbrev typed : ℕ → ℕ → RecordType
typed kind subtype = record { kind = kind; subtype = subtype }

has_type-is_at : (t : RecordType) (r : Record) → has_type t r ≡ is_at (type_cmp t) (type_of_record r)
has_type-is_at t r = both_ways (has_type t r) (is_at (type_cmp t) (type_of_record r))
    (λ h.
    let kind : r.kind ≡ t.kind = eqb-true r.kind t.kind (first_so _ _ h) in
    let subtype : r.subtype ≡ t.subtype = eqb-true r.subtype t.subtype (second_so _ _ h) in
    let same : t ≡ type_of_record r = λ i. typed (sym kind i) (sym subtype i) in
    subst (λ u. is_at (type_cmp t) u ≡ true) same (at_itself t))
    (λ h.
    let same : t ≡ type_of_record r = same_at t (type_of_record r) h in
    let kind : r.kind ≡ t.kind = ap (λ (u : RecordType). u.kind) (sym same) in
    let subtype : r.subtype ≡ t.subtype = ap (λ (u : RecordType). u.subtype) (sym same) in
    λ i. eq-eqb r.kind t.kind kind i && eq-eqb r.subtype t.subtype subtype i)

-- ---- one record more

abbrev many : RecordType → List Record → ℕ
many t records = count_by (has_type t) records

one_more : (t : RecordType) (r : Record) (records : List Record) → many t (r ∷ records) ≡ cond (has_type t r) 1 0 + many t records
one_more t r records = sum_by-cons (λ x. cond (has_type t x) 1 0) r records

counted : (records : List Record) (counts : Counts) → AreCounted counts → AreCounted (with_records records counts)
unfolding with_records
counted [] counts c = c
counted (r ∷ records) counts c = counted records (with_more (type_of_record r) 1 counts) (counted_more (type_of_record r) 1 counts c)

counted_many : (t : RecordType) (records : List Record) (counts : Counts) → AreCounted counts
    → count_of t (with_records records counts) ≡ capped (count_of t counts + many t records)
unfolding with_records
counted_many t [] counts c = let below = c.bounded t in omega (arith, below)
counted_many t (r ∷ records) counts c =
    let u = type_of_record r in
    let next = with_more u 1 counts in
    let rest = many t records in
    let later : count_of t (with_records records next) ≡ capped (count_of t next + many t records) =
    counted_many t records next (counted_more u 1 counts c) in
    let whole : many t (r ∷ records) ≡ cond (has_type t r) 1 0 + many t records = one_more t r records in
    ⊎_elim
    (λ y.
    let one : many t (r ∷ records) ≡ 1 + many t records = whole ∙ ap (λ b. cond b 1 0 + rest) (has_type-is_at t r ∙ y) in
    let first : count_of t next ≡ capped (count_of t counts + 1) =
    subst (λ q. count_of q next ≡ capped (count_of q counts + 1)) (sym (same_at t u y)) (gained u 1 counts) in
    omega (arith, later, one, first))
    (λ apart.
    let one : many t (r ∷ records) ≡ 0 + many t records = whole ∙ ap (λ b. cond b 1 0 + rest) (has_type-is_at t r ∙ apart) in
    let first : count_of t next ≡ count_of t counts = kept t u 1 counts apart in
    omega (arith, later, one, first))
    (cases_Bool (is_at (type_cmp t) u))

-- ---- which types are listed

abbrev types : List Record → List RecordType
types records = map type_of_record records

first_or_later : (q x : RecordType) (xs : List RecordType) (k : ℕ) → k < length (x ∷ xs) → slice_index_or (x ∷ xs) k q ≡ q
    → (q ≡ x) ⊎ Contains xs q
first_or_later q x xs zero below e = inl (sym e)
first_or_later q x xs (suc k) below e = inr (k, omega arith, e)

either_of : (q x : RecordType) (xs : List RecordType) → (q ≡ x) ⊎ Contains xs q → Contains (x ∷ xs) q
either_of q x xs (inl same) = (0, omega arith, sym same)
either_of q x xs (inr h) = let below = h.1 in (suc h.0, omega arith, h.2)

listed_of : (t : RecordType) (records : List Record) (counts : Counts) → Occurs t (with_records records counts)
    → Occurs t counts ⊎ Contains (types records) t
unfolding with_records
listed_of t [] counts h = inl h
listed_of t (r ∷ records) counts h = ⊎_elim
    (λ now. ⊎_elim
    (λ same. inr (either_of t (type_of_record r) (types records) (inl same)))
    (λ old. inl old)
    (was_listed t (type_of_record r) 1 counts now))
    (λ later. inr (either_of t (type_of_record r) (types records) (inr later)))
    (listed_of t records (with_more (type_of_record r) 1 counts) h)

listed_with : (t : RecordType) (records : List Record) (counts : Counts) → Occurs t counts ⊎ Contains (types records) t
    → Occurs t (with_records records counts)
unfolding with_records
listed_with t [] counts (inl h) = h
listed_with t [] counts (inr h) = absurd (let below = h.1 in omega arith)
listed_with t (r ∷ records) counts (inl h) =
    listed_with t records (with_more (type_of_record r) 1 counts) (inl (now_listed t (type_of_record r) 1 counts (inr h)))
listed_with t (r ∷ records) counts (inr h) = listed_with t records (with_more (type_of_record r) 1 counts) (⊎_elim
    (λ same. inl (now_listed t (type_of_record r) 1 counts (inl same)))
    (λ later. inr later)
    (first_or_later t (type_of_record r) (types records) h.0 h.1 h.2))

none_listed : (t : RecordType) → Occurs t [] → ⊥
none_listed t h = let below = h.1 in omega arith

-- ---- the laws

pub counts_of : (records : List Record) → AreCountsOf records (with_records records [])
counts_of records = record {
  many = λ t. let none : 0 + many t records ≡ many t records = omega arith in counted_many t records [] counted_none ∙ ap capped none;
  listed = λ t. (
    λ h. ⊎_elim (λ none. absurd (none_listed t none)) (λ there. there) (listed_of t records [] h),
    λ h. listed_with t records [] (inr h),
  );
  ascend = (counted records [] counted_none).ascend;
}

pub file_counts_law : FileCountsLaw
file_counts_law octets = counts_of (cut octets).records

are_counted : (records : List Record) (counts : Counts) → AreCountsOf records counts → AreCounted counts
are_counted records counts a = record { ascend = a.ascend; bounded = λ t. let is = a.many t in omega (arith, is) }

map-append : (records others : List Record) → types (records ++ others) ≡ types records ++ types others
map-append [] others = refl
map-append (r ∷ records) others = ap (λ l. type_of_record r ∷ l) (map-append records others)

pub counts_together_law : CountsTogetherLaw
counts_together_law records others counts more a b =
    let both = together_law counts more (are_counted records counts a) (are_counted others more b) in
    record {
      many = λ t.
          let sums = both.sums t in
          let one = a.many t in
          let other = b.many t in
          let all : many t (records ++ others) ≡ many t records + many t others =
          sum_by-append (λ x. cond (has_type t x) 1 0) records others in
          omega (arith, sums, one, other, all);
      listed = λ t. (
        λ h. subst (λ l. Contains l t) (sym (map-append records others)) (⊎_elim
            (λ here. Contains-append_left (types records) (types others) t ((a.listed t).0 here))
            (λ there. Contains-append_right (types records) (types others) t ((b.listed t).0 there))
            ((both.listed t).0 h)),
        λ h. (both.listed t).1 (⊎_elim
            (λ here. inl ((a.listed t).1 here))
            (λ there. inr ((b.listed t).1 there))
            (Contains-append_cases (types records) (types others) t (subst (λ l. Contains l t) (map-append records others) h))),
      );
      ascend = (counted_both counts more (are_counted records counts a)).ascend;
    }
