-- What counts are, by look-ups: with more of a type, and put together.
use Rattle.std.proofs.Common.{◌≡◌, ◌≢◌, ◌⊎◌, inl, inr, ⊎_elim, ℕ, ◌+◌, ◌-◌, ◌^◌, ◌≤◌, Bool, true, false, cond, [], ◌∷◌, Option, Some, None, Equal, IsSome, is_some, is_eq, unwrap_or, refl, sym, ap}
use Rattle.std.proofs.Common.{subst, ◌∙◌, arith}
use Rattle.std.specs.BTreeMap.{is_at}
use Rattle.std.specs.Cmp.{IsTotalOrder, then_total, on_total, nat_cmp_total, eq_by_cmp_equiv, tied_itself, Equal-is}
use Rattle.std.specs.List.Sorted.{IsStrictlySortedBy}
use Rattle.std.specs.Map.{keys_of, lookup}
use Rattle.std.specs.Ordering.{nat_cmp}
use Rattle.std.proofs.lemmas.Bool.{cases_Bool}
use Rattle.std.proofs.lemmas.Map.{lookup-none}
use Rattle.std.proofs.lemmas.Map.Entries.{lookup_head, lookup_tail, none_past_head}
use Rattle.std.proofs.lemmas.Map.Keys.{sorted_tail, IsDistinct-from_sorted}
use Rattle.std.proofs.lemmas.Map.Lookups.{exact_pairs, exact_unsigned}
use Rattle.std.proofs.lemmas.Map.Views.{Contains-keys_from_lookup, IsSome-lookup_from_Contains}
use Rattle.record_counts.specs.declared.type_count.RecordType.{RecordType}
use Rattle.record_counts.specs.Counting.{Counts, type_cmp, count_of, capped, with_more, counts_together}
use Rattle.record_counts.specs.Counted.{Occurs, AreCounted, MoreLaw, CountsBothLaw, CountedLaw}
use Rattle.record_counts.proofs.Inserting.{lookup-insert_entry, sorted-insert_entry}

-- ---- the order of types

pub types_total : IsTotalOrder type_cmp
types_total = then_total (on_total (λ (t : RecordType). t.kind) nat_cmp_total) (on_total (λ (t : RecordType). t.subtype) nat_cmp_total)

abbrev of_pair : ℕ × ℕ → RecordType
of_pair p = record { kind = p.0; subtype = p.1 }

pub same_type : (a b : RecordType) → type_cmp a b ≡ Equal → a ≡ b
same_type a b e = ap of_pair (exact_pairs nat_cmp nat_cmp exact_unsigned exact_unsigned (a.kind, a.subtype) (b.kind, b.subtype) e)

pub same_at : (a b : RecordType) → is_at (type_cmp a) b ≡ true → a ≡ b
same_at a b h = same_type a b ((Equal-is (type_cmp a b)).0 h)

pub at_itself : (t : RecordType) → is_at (type_cmp t) t ≡ true
at_itself t = ap is_eq (tied_itself types_total t)

pub apart_at : (a b : RecordType) → a ≢ b → is_at (type_cmp a) b ≡ false
apart_at a b apart = ⊎_elim (λ y. absurd (apart (same_at a b y))) (λ n. n) (cases_Bool (is_at (type_cmp a) b))

same_key : (a b : RecordType) → a ≡ b → is_at (type_cmp a) b ≡ true
same_key a b e = ap (λ x. is_at (type_cmp a) x) (sym e) ∙ at_itself a

-- ---- a type is listed exactly if a look-up finds it

abbrev found : RecordType → Counts → Option ℕ
found t counts = lookup (is_at (type_cmp t)) counts

found_listed : (t : RecordType) (counts : Counts) → IsSome (found t counts) → Occurs t counts
found_listed t counts h = Contains-keys_from_lookup same_at t counts h

listed_found : (t : RecordType) (counts : Counts) → Occurs t counts → IsSome (found t counts)
listed_found t counts h = IsSome-lookup_from_Contains (eq_by_cmp_equiv types_total) t counts h

-- ---- more of a type

unwrapped : (b : Bool) (n : ℕ) (u : Option ℕ) → unwrap_or (cond b (Some n) u) 0 ≡ cond b n (unwrap_or u 0)
unwrapped true n u = refl
unwrapped false n u = refl

pub lookup-with_more : (q t : RecordType) (n : ℕ) (counts : Counts)
    → found q (with_more t n counts) ≡ cond (is_at (type_cmp q) t) (Some (capped (count_of t counts + n))) (found q counts)
unfolding with_more
lookup-with_more q t n counts = lookup-insert_entry types_total q t (capped (count_of t counts + n)) counts

count-with_more : (q t : RecordType) (n : ℕ) (counts : Counts)
    → count_of q (with_more t n counts) ≡ cond (is_at (type_cmp q) t) (capped (count_of t counts + n)) (count_of q counts)
count-with_more q t n counts =
    ap (λ u. unwrap_or u 0) (lookup-with_more q t n counts) ∙ unwrapped (is_at (type_cmp q) t) _ (found q counts)

pub gained : (t : RecordType) (n : ℕ) (counts : Counts) → count_of t (with_more t n counts) ≡ capped (count_of t counts + n)
gained t n counts =
    count-with_more t t n counts ∙ ap (λ b. cond b (capped (count_of t counts + n)) (count_of t counts)) (at_itself t)

pub kept : (q t : RecordType) (n : ℕ) (counts : Counts) → is_at (type_cmp q) t ≡ false
    → count_of q (with_more t n counts) ≡ count_of q counts
kept q t n counts apart =
    count-with_more q t n counts ∙ ap (λ b. cond b (capped (count_of t counts + n)) (count_of q counts)) apart

is_some-with_more : (q t : RecordType) (n : ℕ) (counts : Counts) (b : Bool) → is_at (type_cmp q) t ≡ b
    → is_some (found q (with_more t n counts)) ≡ cond b true (is_some (found q counts))
is_some-with_more q t n counts b e =
    ap is_some (lookup-with_more q t n counts ∙ ap (λ b. cond b (Some (capped (count_of t counts + n))) (found q counts)) e)
    ∙ passed b (found q counts)
  where
    passed : (b : Bool) (u : Option ℕ) → is_some (cond b (Some (capped (count_of t counts + n))) u) ≡ cond b true (is_some u)
    passed true u = refl
    passed false u = refl

pub now_listed : (q t : RecordType) (n : ℕ) (counts : Counts) → (q ≡ t) ⊎ Occurs q counts → Occurs q (with_more t n counts)
now_listed q t n counts (inl e) =
    found_listed q (with_more t n counts) (is_some-with_more q t n counts true (same_key q t e))
now_listed q t n counts (inr h) = found_listed q (with_more t n counts) (⊎_elim
    (λ y. is_some-with_more q t n counts true y)
    (λ apart. is_some-with_more q t n counts false apart ∙ listed_found q counts h)
    (cases_Bool (is_at (type_cmp q) t)))

pub was_listed : (q t : RecordType) (n : ℕ) (counts : Counts) → Occurs q (with_more t n counts) → (q ≡ t) ⊎ Occurs q counts
was_listed q t n counts h = ⊎_elim
    (λ y. inl (same_at q t y))
    (λ apart.
    inr (found_listed q counts (sym (is_some-with_more q t n counts false apart) ∙ listed_found q (with_more t n counts) h)))
    (cases_Bool (is_at (type_cmp q) t))

pub more_law : MoreLaw
more_law t n counts = record {
  gains = gained t n counts;
  others = λ other apart. kept other t n counts (apart_at other t apart);
  listed = λ other. (was_listed other t n counts, now_listed other t n counts);
}

-- ---- what counting gives

bounded_with_more : (q t : RecordType) (n : ℕ) (counts : Counts) → count_of q counts ≤ 2 ^ 64 - 1
    → count_of q (with_more t n counts) ≤ 2 ^ 64 - 1
bounded_with_more q t n counts below = by (is_at (type_cmp q) t) (count-with_more q t n counts)
  where
    by : (b : Bool) → count_of q (with_more t n counts) ≡ cond b (capped (count_of t counts + n)) (count_of q counts)
        → count_of q (with_more t n counts) ≤ 2 ^ 64 - 1
    by true e = omega (arith, e)
    by false e = omega (arith, e, below)

ascend_with_more : (t : RecordType) (n : ℕ) (counts : Counts) → IsStrictlySortedBy type_cmp (keys_of counts)
    → IsStrictlySortedBy type_cmp (keys_of (with_more t n counts))
unfolding with_more
ascend_with_more t n counts s = sorted-insert_entry types_total t (capped (count_of t counts + n)) counts s

ascend_none : IsStrictlySortedBy type_cmp []
unfolding IsStrictlySortedBy
ascend_none = tt

pub counted_none : AreCounted []
counted_none = record { ascend = ascend_none; bounded = λ t. omega arith }

pub counted_more : (t : RecordType) (n : ℕ) (counts : Counts) → AreCounted counts → AreCounted (with_more t n counts)
counted_more t n counts c = record {
  ascend = ascend_with_more t n counts c.ascend;
  bounded = λ q. bounded_with_more q t n counts (c.bounded q);
}

-- ---- together

pub counted_both : (counts more : Counts) → AreCounted counts → AreCounted (counts_together counts more)
unfolding counts_together
counted_both counts [] c = c
counted_both counts (e ∷ more) c = counted_both (with_more e.0 e.1 counts) more (counted_more e.0 e.1 counts c)

-- of the type of the first entry the others have none
none_behind : (t : RecordType) (e : RecordType × ℕ) (more : Counts) → IsStrictlySortedBy type_cmp (keys_of (e ∷ more))
    → is_at (type_cmp t) e.0 ≡ true → found t more ≡ None
none_behind t e more s h =
    let apart = IsDistinct-from_sorted type_cmp (keys_of (e ∷ more)) s in
    lookup-none (is_at (type_cmp t)) more (none_past_head (eq_by_cmp_equiv types_total) t e more apart h)

pub summed : (t : RecordType) (more counts : Counts) → count_of t counts ≤ 2 ^ 64 - 1 → IsStrictlySortedBy type_cmp (keys_of more)
    → count_of t (counts_together counts more) ≡ capped (count_of t counts + count_of t more)
unfolding counts_together
summed t [] counts below s = omega (arith, below)
summed t (e ∷ more) counts below s =
    let next = with_more e.0 e.1 counts in
    let later : count_of t (counts_together next more) ≡ capped (count_of t next + count_of t more) =
    summed t more next (bounded_with_more t e.0 e.1 counts below) (sorted_tail type_cmp e.0 (keys_of more) s) in
    ⊎_elim
    (λ y.
    let first : count_of t (e ∷ more) ≡ e.1 = ap (λ u. unwrap_or u 0) (lookup_head (is_at (type_cmp t)) e more y) in
    let rest : count_of t more ≡ 0 = ap (λ u. unwrap_or u 0) (none_behind t e more s y) in
    let one : count_of t next ≡ capped (count_of t counts + e.1) =
    subst (λ q. count_of q next ≡ capped (count_of q counts + e.1)) (sym (same_at t e.0 y)) (gained e.0 e.1 counts) in
    omega (arith, later, first, rest, one))
    (λ apart.
    let first : count_of t (e ∷ more) ≡ count_of t more = ap (λ u. unwrap_or u 0) (lookup_tail (is_at (type_cmp t)) e more apart) in
    let one : count_of t next ≡ count_of t counts = kept t e.0 e.1 counts apart in
    omega (arith, later, first, one))
    (cases_Bool (is_at (type_cmp t) e.0))

first_or_later : (t : RecordType) (e : RecordType × ℕ) (more : Counts) → Occurs t (e ∷ more) → (t ≡ e.0) ⊎ Occurs t more
first_or_later t e more h = ⊎_elim
    (λ y. inl (same_at t e.0 y))
    (λ apart.
    inr (found_listed t more (ap is_some (sym (lookup_tail (is_at (type_cmp t)) e more apart)) ∙ listed_found t (e ∷ more) h)))
    (cases_Bool (is_at (type_cmp t) e.0))

either_of : (t : RecordType) (e : RecordType × ℕ) (more : Counts) → (t ≡ e.0) ⊎ Occurs t more → Occurs t (e ∷ more)
either_of t e more (inl same) =
    found_listed t (e ∷ more) (ap is_some (lookup_head (is_at (type_cmp t)) e more (same_key t e.0 same)))
either_of t e more (inr h) = found_listed t (e ∷ more) (⊎_elim
    (λ y. ap is_some (lookup_head (is_at (type_cmp t)) e more y))
    (λ apart. ap is_some (lookup_tail (is_at (type_cmp t)) e more apart) ∙ listed_found t more h)
    (cases_Bool (is_at (type_cmp t) e.0)))

pub listed_of : (t : RecordType) (more counts : Counts) → Occurs t (counts_together counts more) → Occurs t counts ⊎ Occurs t more
unfolding counts_together
listed_of t [] counts h = inl h
listed_of t (e ∷ more) counts h = ⊎_elim
    (λ now. ⊎_elim (λ same. inr (either_of t e more (inl same))) (λ old. inl old) (was_listed t e.0 e.1 counts now))
    (λ later. inr (either_of t e more (inr later)))
    (listed_of t more (with_more e.0 e.1 counts) h)

pub listed_in_both : (t : RecordType) (more counts : Counts) → Occurs t counts ⊎ Occurs t more → Occurs t (counts_together counts more)
unfolding counts_together
listed_in_both t [] counts (inl h) = h
listed_in_both t [] counts (inr h) = absurd (let below = h.1 in omega arith)
listed_in_both t (e ∷ more) counts (inl h) = listed_in_both t more (with_more e.0 e.1 counts) (inl (now_listed t e.0 e.1 counts (inr h)))
listed_in_both t (e ∷ more) counts (inr h) = listed_in_both t more (with_more e.0 e.1 counts) (⊎_elim
    (λ same. inl (now_listed t e.0 e.1 counts (inl same)))
    (λ later. inr later)
    (first_or_later t e more h))

pub together_law : CountsBothLaw
together_law counts more c m = record {
  sums = λ t. summed t more counts (c.bounded t) m.ascend;
  listed = λ t. (listed_of t more counts, listed_in_both t more counts);
}

pub counted_law : CountedLaw
counted_law = record { none = counted_none; one_more = counted_more; both = counted_both }
