-- Searches from slot to slot, and what they find when a slot has changed.
use Rattle.std.proofs.Common.{◌≡◌, ◌≢◌, ℕ, zero, suc, ◌+◌, ◌<◌, ◌≤◌, ◌⊎◌, inl, inr, Bool, true, false, List, [], ◌∷◌, ◌++◌, Some, length, take, drop, set, refl, sym, ap, ◌∙◌, subst, arith, length-set}
use Rattle.std.specs.Prelude.{slice_get, slice_index_or, replicate, Contains}
use Rattle.std.proofs.lemmas.List.{take-take, take-append-le}
use Rattle.std.proofs.lemmas.List.Elements.{Contains-append_left, Contains-append_right, Contains-append_cases}
use Rattle.std.proofs.Math.Seq.{take-append_seam, take-length, take-suc}
use Rattle.std.proofs.lemmas.Option.{slice_get-get_or, slice_get_within, same_Some}
use Rattle.tor_arena.specs.Growth.{next_slot}
use Rattle.tor_arena.proofs.Gets.{slice_get-push_cases, slice_get-take, slice_get-set_cases, slice_get-set_other, slice_get-set_same, slice_get-replicate, has-from_Contains, Contains-from_has}
use Rattle.tor_numbers.specs.Slots.{start_at, HeldFrom, StaysUsed, SearchLeadsTo, IsSearchEnd, Keeps, IsHeld, IsHolding, Leaves, IsApart}
use Rattle.tor_numbers.specs.declared.slot_search.SearchEnd.{SearchEnd}
use Rattle.tor_numbers.specs.declared.slot_search.SearchEnd.TheVariants.{Held, Free, Full}

-- ---- a search from slot to slot

-- what a search from the start has shown when it comes to a slot, with so many left
pub record IsSeeking (slots : List ℕ) (start number slot left : ℕ) : Type 0 where
  pub inside : slot < length slots
  pub still : HeldFrom slots number start (length slots) → HeldFrom slots number slot left
  pub back : (new : List ℕ) → length new ≡ length slots → StaysUsed slots new → HeldFrom new number slot left → HeldFrom new number start (length slots)

pub seeking_begins : (slots : List ℕ) (start number : ℕ) → start < length slots → IsSeeking slots start number start (length slots)
seeking_begins slots start number h = record { inside = h; still = (λ k. k); back = (λ new len used k. k) }

pub seeking_goes : (slots : List ℕ) (start number slot left n next s : ℕ) → left ≡ suc n → IsSeeking slots start number slot left →
    slice_get slots slot ≡ Some s → s ≢ number → s ≢ 0 → next ≡ next_slot (length slots) slot → next < length slots → IsSeeking slots start number next n
seeking_goes slots start number slot left n next s so k at other used is inside =
    record {
      inside = inside;
      still = (λ h. subst (λ p. HeldFrom slots number p n) (sym is) (rest (subst (HeldFrom slots number slot) so (k.still h))));
      back = (λ new len stays h. k.back new len stays (subst (HeldFrom new number slot) (sym so)
          (inr (
            (λ e. used (same_Some s 0 (sym at ∙ stays slot e))),
            subst (λ m. HeldFrom new number (next_slot m slot) n) (sym len) (subst (λ p. HeldFrom new number p n) is h),
          ))));
    }
  where
    rest : HeldFrom slots number slot (suc n) → HeldFrom slots number (next_slot (length slots) slot) n
    rest (inl e) = absurd (other (same_Some s number (sym at ∙ e)))
    rest (inr h) = h.1

-- the number can be put where the search has come to
pub seeking_leads : (slots : List ℕ) (start number slot left : ℕ) → 0 < left → IsSeeking slots start number slot left → SearchLeadsTo slots start number slot
seeking_leads slots start number slot zero some k new len stays e = absurd (omega arith)
seeking_leads slots start number slot (suc n) some k new len stays e = k.back new len stays (inl e)

-- past a slot that is free nothing is found
pub seeking_free : (slots : List ℕ) (start number slot left : ℕ) → 0 < left → 2 ≤ number → IsSeeking slots start number slot left →
    slice_get slots slot ≡ Some 0 → HeldFrom slots number start (length slots) → ⊥
seeking_free slots start number slot zero some least k at h = absurd (omega arith)
seeking_free slots start number slot (suc n) some least k at h = ends (k.still h)
  where
    ends : HeldFrom slots number slot (suc n) → ⊥
    ends (inl e) = let is : 0 ≡ number = same_Some 0 number (sym at ∙ e) in omega (arith, is, least)
    ends (inr r) = r.0 at

pub seeking_full : (slots : List ℕ) (start number slot left : ℕ) → left ≤ 0 → IsSeeking slots start number slot left → HeldFrom slots number start (length slots) → ⊥
seeking_full slots start number slot zero none k h = k.still h
seeking_full slots start number slot (suc n) none k h = absurd (omega arith)

-- ---- what is held

held-some : (slots : List ℕ) (k slot n : ℕ) → HeldFrom slots k slot n → 0 < n
held-some slots k slot zero h = absurd h
held-some slots k slot (suc n) h = omega arith

-- the only number of a list of one
pub alone : (x y : ℕ) → Contains (x ∷ []) y → y ≡ x
alone x y c = elim (slice_get-push_cases [] x (has-from_Contains (x ∷ []) y c).0 y (has-from_Contains (x ∷ []) y c).1) [ inl e ↦ cc | inr h ↦ h.1 ]

pub contains_one : (x : ℕ) → Contains (x ∷ []) x
contains_one x = Contains-from_has (x ∷ []) x (0, refl)

pub contains_none : (x : ℕ) → Contains [] x → ⊥
contains_none x c = let h : slice_get [] (has-from_Contains [] x c).0 ≡ Some x = (has-from_Contains [] x c).1 in cc

-- ---- the first of some numbers

-- the first ones when one number was put behind: those of before, or all
take_push : (count : ℕ) (numbers : List ℕ) (number : ℕ) →
    (take count (numbers ++ number ∷ []) ≡ take count numbers) ⊎ (take count (numbers ++ number ∷ []) ≡ numbers ++ number ∷ [])
take_push zero numbers number = inl refl
take_push (suc n) [] number = inr (ap (λ l. number ∷ l) (take-nil n))
  where
    take-nil : (n : ℕ) → take {A = ℕ} n [] ≡ []
    take-nil zero = refl
    take-nil (suc n) = refl
take_push (suc n) (m ∷ numbers) number = elim (take_push n numbers number) [
  | inl same ↦ inl (ap (λ l. m ∷ l) same)
  | inr all ↦ inr (ap (λ l. m ∷ l) all)
]

-- the first ones are the first ones too when one number was put behind
take_within : (count : ℕ) (numbers : List ℕ) (number : ℕ) → (n : ℕ) × (take count numbers ≡ take n (numbers ++ number ∷ []))
take_within zero numbers number = (0, refl)
take_within (suc n) [] number = (0, refl)
take_within (suc n) (m ∷ numbers) number =
    let w = take_within n numbers number in (suc w.0, ap (λ l. m ∷ l) w.1)

contains_take : (count : ℕ) (numbers : List ℕ) (k : ℕ) → Contains (take count numbers) k → Contains numbers k
contains_take count numbers k c =
    let w = has-from_Contains (take count numbers) k c in
    Contains-from_has numbers k (w.0, (slice_get-take count numbers w.0 k w.1).1)

-- a number is found as long as all of them keep their slots
pub held-each : (seed : ℕ) (slots numbers : List ℕ) → IsHeld seed slots numbers → (k : ℕ) → Contains numbers k → (new : List ℕ) → length new ≡ length slots →
    Keeps numbers slots new → HeldFrom new k (start_at seed k (length slots)) (length slots)
held-each seed slots numbers h k c new len keeps =
    h.each (length numbers) k (subst (λ l. Contains l k) (sym (take-length numbers)) c) new len (subst (λ l. Keeps l slots new) (sym (take-length numbers)) keeps)

-- a number is found
pub held-now : (seed : ℕ) (slots numbers : List ℕ) → IsHeld seed slots numbers → (k : ℕ) → Contains numbers k → HeldFrom slots k (start_at seed k (length slots)) (length slots)
held-now seed slots numbers h k c = held-each seed slots numbers h k c slots refl (λ q n at i. at)

-- where all keep their slots no other slot is made free
keeps_used : (seed : ℕ) (slots numbers new : List ℕ) → IsHeld seed slots numbers → length new ≡ length slots → Keeps numbers slots new → StaysUsed slots new
keeps_used seed slots numbers new h len keeps q e = free (slice_index_or slots q 0) (slice_get-get_or slots q 0 inside)
  where
    inside : q < length slots
    inside = subst (λ n. q < n) len (slice_get_within new q 0 e)

    free : (v : ℕ) → slice_get slots q ≡ Some v → slice_get slots q ≡ Some 0
    free zero at = at
    free (suc v) at =
        let is : suc v ≡ 0 = same_Some (suc v) 0 (sym (keeps q (suc v) at (h.only q (suc v) at (omega arith))) ∙ e) in
        absurd (omega (arith, is))

-- slots of which all are free hold nothing
pub held-none : (seed count : ℕ) (slots : List ℕ) → slots ≡ replicate count 0 → IsHeld seed slots []
held-none seed count slots e = subst (λ s. IsHeld seed s []) (sym e) (record {
  only = (λ q k at least. let is : k ≡ 0 = slice_get-replicate count 0 q k at in absurd (omega (arith, is, least)));
  each = (λ n k c. absurd (contains_none k (contains_take n [] k c)));
  once = (λ p q k at at' least. let is : k ≡ 0 = slice_get-replicate count 0 p k at in absurd (omega (arith, is, least)));
  least = (λ k c. absurd (contains_none k c));
})

-- a number that is held already
pub held-again : (seed number : ℕ) (slots numbers : List ℕ) → IsHeld seed slots numbers → Contains numbers number → IsHeld seed slots (numbers ++ number ∷ [])
held-again seed number slots numbers h c = record {
  only = (λ q k at least. Contains-append_left numbers (number ∷ []) k (h.only q k at least));
  each = each;
  once = h.once;
  least = (λ k i. h.least k (in_all k i));
}
  where
    in_all : (k : ℕ) → Contains (numbers ++ number ∷ []) k → Contains numbers k
    in_all k i = elim (Contains-append_cases numbers (number ∷ []) k i) [ inl a ↦ a | inr b ↦ subst (Contains numbers) (sym (alone number k b)) c ]

    each : (n k : ℕ) → Contains (take n (numbers ++ number ∷ [])) k → (new : List ℕ) → length new ≡ length slots → Keeps (take n (numbers ++ number ∷ [])) slots new →
        HeldFrom new k (start_at seed k (length slots)) (length slots)
    each n k i new len keeps = elim (take_push n numbers number) [
      | inl same ↦ h.each n k (subst (λ l. Contains l k) same i) new len (subst (λ l. Keeps l slots new) same keeps)
      | inr all ↦ held-each seed slots numbers h k (in_all k (subst (λ l. Contains l k) all i)) new len
          (λ q m at j. keeps q m at (subst (λ l. Contains l m) (sym all) (Contains-append_left numbers (number ∷ []) m j)))
    ]

-- a number that is put into a free slot
pub held-put : (seed number : ℕ) (slots : List ℕ) (slot : ℕ) (numbers : List ℕ) → 2 ≤ number → slot < length slots → slice_get slots slot ≡ Some 0 →
    SearchLeadsTo slots (start_at seed number (length slots)) number slot → (HeldFrom slots number (start_at seed number (length slots)) (length slots) → ⊥) →
    IsHeld seed slots numbers → (Contains numbers number → ⊥) × IsHeld seed (set slots slot number) (numbers ++ number ∷ [])
held-put seed number slots slot numbers some inside free leads none h =
    (absent, record { only = only; each = each; once = once; least = least })
  where
    len : length (set slots slot number) ≡ length slots
    len = length-set slots slot number

    absent : Contains numbers number → ⊥
    absent c = none (held-now seed slots numbers h number c)

    keep : (k q : ℕ) → 2 ≤ k → slice_get slots q ≡ Some k → slice_get (set slots slot number) q ≡ Some k
    keep k q least e = slice_get-set_other slots slot number q (λ is.
        let zero_is : k ≡ 0 = same_Some k 0 (sym e ∙ ap (slice_get slots) is ∙ free) in omega (arith, zero_is, least)) ∙ e

    only : (q k : ℕ) → slice_get (set slots slot number) q ≡ Some k → 0 < k → Contains (numbers ++ number ∷ []) k
    only q k e least = elim (slice_get-set_cases slots slot number q k e) [
      | inl a ↦ Contains-append_right numbers (number ∷ []) k (subst (Contains (number ∷ [])) (sym a.1) (contains_one number))
      | inr b ↦ Contains-append_left numbers (number ∷ []) k (h.only q k b.1 least)
    ]

    last : Contains (numbers ++ number ∷ []) number
    last = Contains-append_right numbers (number ∷ []) number (contains_one number)

    -- those that were there before keep their slots
    kept : (l new : List ℕ) → ((k : ℕ) → Contains l k → 2 ≤ k) → Keeps l (set slots slot number) new → Keeps l slots new
    kept l new least keeps q k at i = keeps q k (keep k q (least k i) at) i

    all_kept : (new : List ℕ) → Keeps (numbers ++ number ∷ []) (set slots slot number) new → Keeps numbers slots new
    all_kept new keeps = kept numbers new h.least (λ q k at i. keeps q k at (Contains-append_left numbers (number ∷ []) k i))

    here : (new : List ℕ) → length new ≡ length slots → Keeps (numbers ++ number ∷ []) (set slots slot number) new →
        HeldFrom new number (start_at seed number (length slots)) (length slots)
    here new len keeps = leads new len (keeps_used seed slots numbers new h len (all_kept new keeps)) (keeps slot number (slice_get-set_same slots slot number inside) last)

    found : (n k : ℕ) → Contains (take n (numbers ++ number ∷ [])) k → (new : List ℕ) → length new ≡ length slots →
        Keeps (take n (numbers ++ number ∷ [])) (set slots slot number) new → HeldFrom new k (start_at seed k (length slots)) (length slots)
    found n k c new len keeps = elim (take_push n numbers number) [
      | inl same ↦ h.each n k (subst (λ l. Contains l k) same c) new len
          (kept (take n numbers) new (λ m i. h.least m (contains_take n numbers m i)) (subst (λ l. Keeps l (set slots slot number) new) same keeps))
      | inr all ↦ (let whole = subst (λ l. Keeps l (set slots slot number) new) all keeps in
          elim (Contains-append_cases numbers (number ∷ []) k (subst (λ l. Contains l k) all c)) [
            | inl a ↦ held-each seed slots numbers h k a new len (all_kept new whole)
            | inr b ↦ subst (λ x. HeldFrom new x (start_at seed x (length slots)) (length slots)) (sym (alone number k b)) (here new len whole)
          ])
    ]

    each : (n k : ℕ) → Contains (take n (numbers ++ number ∷ [])) k → (new : List ℕ) → length new ≡ length (set slots slot number) →
        Keeps (take n (numbers ++ number ∷ [])) (set slots slot number) new →
        HeldFrom new k (start_at seed k (length (set slots slot number))) (length (set slots slot number))
    each n k c new same keeps = subst (λ m. HeldFrom new k (start_at seed k m) m) (sym len) (found n k c new (same ∙ len) keeps)

    once : (p q k : ℕ) → slice_get (set slots slot number) p ≡ Some k → slice_get (set slots slot number) q ≡ Some k → 0 < k → p ≡ q
    once p q k e f least = elim (slice_get-set_cases slots slot number p k e) [
      | inl a ↦ elim (slice_get-set_cases slots slot number q k f) [
        | inl b ↦ a.0 ∙ sym b.0
        | inr b ↦ absurd (absent (subst (Contains numbers) a.1 (h.only q k b.1 least)))
      ]
      | inr a ↦ elim (slice_get-set_cases slots slot number q k f) [
        | inl b ↦ absurd (absent (subst (Contains numbers) b.1 (h.only p k a.1 least)))
        | inr b ↦ h.once p q k a.1 b.1 least
      ]
    ]

    least : (k : ℕ) → Contains (numbers ++ number ∷ []) k → 2 ≤ k
    least k c = elim (Contains-append_cases numbers (number ∷ []) k c) [ inl a ↦ h.least k a | inr b ↦ subst (λ x. 2 ≤ x) (sym (alone number k b)) some ]

-- the last number leaves its slot, and the slot is free
pub held-leave : (seed number : ℕ) (slots : List ℕ) (slot : ℕ) (numbers : List ℕ) → 2 ≤ number → slice_get slots slot ≡ Some number →
    IsHeld seed slots (numbers ++ number ∷ []) → (Contains numbers number → ⊥) → IsHeld seed (set slots slot 0) numbers
held-leave seed number slots slot numbers some at h absent = record { only = only; each = each; once = once; least = least }
  where
    len : length (set slots slot 0) ≡ length slots
    len = length-set slots slot 0

    in_all : (k : ℕ) → Contains numbers k → Contains (numbers ++ number ∷ []) k
    in_all k c = Contains-append_left numbers (number ∷ []) k c

    keep : (k q : ℕ) → Contains numbers k → slice_get slots q ≡ Some k → slice_get (set slots slot 0) q ≡ Some k
    keep k q c e = slice_get-set_other slots slot 0 q (λ is.
        absent (subst (Contains numbers) (same_Some k number (sym e ∙ ap (slice_get slots) is ∙ at)) c)) ∙ e

    old : (q k : ℕ) → slice_get (set slots slot 0) q ≡ Some k → 0 < k → (q ≢ slot) × (slice_get slots q ≡ Some k)
    old q k e least = elim (slice_get-set_cases slots slot 0 q k e) [
      | inl a ↦ (let is = a.1 in absurd (omega (arith, is, least)))
      | inr b ↦ b
    ]

    only : (q k : ℕ) → slice_get (set slots slot 0) q ≡ Some k → 0 < k → Contains numbers k
    only q k e least = elim (Contains-append_cases numbers (number ∷ []) k (h.only q k (old q k e least).1 least)) [
      | inl a ↦ a
      | inr b ↦ absurd ((old q k e least).0 (h.once q slot k (old q k e least).1 (at ∙ ap (λ x. Some x) (sym (alone number k b))) least))
    ]

    each : (n k : ℕ) → Contains (take n numbers) k → (new : List ℕ) → length new ≡ length (set slots slot 0) → Keeps (take n numbers) (set slots slot 0) new →
        HeldFrom new k (start_at seed k (length (set slots slot 0))) (length (set slots slot 0))
    each n k c new same keeps =
        let w = take_within n numbers number in
        subst (λ m. HeldFrom new k (start_at seed k m) m) (sym len) (h.each w.0 k (subst (λ l. Contains l k) w.1 c) new (same ∙ len) (λ q m e i.
        let j = subst (λ l. Contains l m) (sym w.1) i in keeps q m (keep m q (contains_take n numbers m j) e) j))

    once : (p q k : ℕ) → slice_get (set slots slot 0) p ≡ Some k → slice_get (set slots slot 0) q ≡ Some k → 0 < k → p ≡ q
    once p q k e f least = h.once p q k (old p k e least).1 (old q k f least).1 least

    least : (k : ℕ) → Contains numbers k → 2 ≤ k
    least k c = h.least k (in_all k c)

-- the last number was in a slot
pub held-last : (seed number : ℕ) (slots numbers : List ℕ) → IsHeld seed slots (numbers ++ number ∷ []) → HeldFrom slots number (start_at seed number (length slots)) (length slots)
held-last seed number slots numbers h = held-now seed slots (numbers ++ number ∷ []) h number (Contains-append_right numbers (number ∷ []) number (contains_one number))

-- where numbers are held there are slots
pub held-room : (seed number : ℕ) (slots numbers : List ℕ) → IsHeld seed slots numbers → Contains numbers number → 0 < length slots
held-room seed number slots numbers h c = held-some slots number (start_at seed number (length slots)) (length slots) (held-now seed slots numbers h number c)

-- a list that is written back whole
pub written_back : (len : ℕ) (new old : List ℕ) → length new ≡ len → len ≡ length old → take len (new ++ drop (length new) old) ≡ new
written_back len new old e f = take-append-le len new (drop (length new) old) (omega (arith, e)) ∙ ap (λ n. take n new) (sym e) ∙ take-length new

-- ---- no number twice

pub apart-push : (numbers : List ℕ) (number : ℕ) → IsApart numbers → (Contains numbers number → ⊥) → IsApart (numbers ++ number ∷ [])
apart-push numbers number a absent n m e c = elim (slice_get-push_cases numbers number n m e) [
  | inl old ↦ (let lt : n < length numbers = slice_get_within numbers n m old in
      a n m old (subst (λ l. Contains l m) (take-append-le n numbers (number ∷ []) (omega (arith, lt))) c))
  | inr last ↦ absent (subst (λ l. Contains l number) (ap (λ k. take k (numbers ++ number ∷ [])) last.0 ∙ take-append_seam numbers (number ∷ []))
      (subst (Contains (take n (numbers ++ number ∷ []))) last.1 c))
]

pub apart-take : (numbers : List ℕ) (count : ℕ) → IsApart numbers → IsApart (take count numbers)
apart-take numbers count a n m e c =
    let at : (n < count) × (slice_get numbers n ≡ Some m) = slice_get-take count numbers n m e in
    let lt : n < count = at.0 in
    a n m at.1 (subst (λ l. Contains l m) (take-take n count numbers (omega (arith, lt))) c)

pub contains_at : (numbers : List ℕ) (k : ℕ) → k < length numbers → Contains numbers (slice_index_or numbers k 0)
contains_at numbers k h = Contains-from_has numbers (slice_index_or numbers k 0) (k, slice_get-get_or numbers k 0 h)

pub one_more : (numbers : List ℕ) (k : ℕ) → k < length numbers → take (k + 1) numbers ≡ take k numbers ++ slice_index_or numbers k 0 ∷ []
one_more numbers k h = ap (λ n. take n numbers) (next k) ∙ take-suc numbers k 0 h
  where
    next : (k : ℕ) → k + 1 ≡ suc k
    next k = omega arith

-- one number more in the slots, or one that was there
pub held-next : (seed : ℕ) (old new numbers : List ℕ) (place : ℕ) (is_new : Bool) → place < length numbers →
    IsHolding seed (slice_index_or numbers place 0) old new is_new → IsHeld seed old (take place numbers) → IsHeld seed new (take (place + 1) numbers)
held-next seed old new numbers place true lt h held = subst (IsHeld seed new) (sym (one_more numbers place lt)) (h (take place numbers) held).1
held-next seed old new numbers place false lt h held = subst (IsHeld seed new) (sym (one_more numbers place lt))
    (subst (λ s. IsHeld seed s (take place numbers ++ slice_index_or numbers place 0 ∷ [])) (sym h.0)
    (held-again seed (slice_index_or numbers place 0) old (take place numbers) held (h.1 (take place numbers) held)))

-- one number fewer in the slots
pub held-before : (seed : ℕ) (old new numbers : List ℕ) (left : ℕ) → left < length numbers → IsApart numbers →
    Leaves seed (slice_index_or numbers left 0) old new → IsHeld seed old (take (left + 1) numbers) → IsHeld seed new (take left numbers)
held-before seed old new numbers left lt apart h held =
    h (take left numbers) (subst (IsHeld seed old) (one_more numbers left lt) held) (apart left (slice_index_or numbers left 0) (slice_get-get_or numbers left 0 lt))

-- a search that ends elsewhere says that the number isn't there
pub not_held : (slots : List ℕ) (start number : ℕ) (p : SearchEnd) → IsSearchEnd slots start number p → ((x : ℕ) × (p ≡ Free x)) ⊎ (p ≡ Full) →
    HeldFrom slots number start (length slots) → ⊥
not_held slots start number p is (inl h) = (subst (IsSearchEnd slots start number) h.1 is).2
not_held slots start number p is (inr h) = subst (IsSearchEnd slots start number) h is

-- a search that finds nothing says that the number isn't among them
pub absent_unless : (seed : ℕ) (slots numbers : List ℕ) (start number : ℕ) (p : SearchEnd) → IsHeld seed slots numbers → start ≡ start_at seed number (length slots) →
    IsSearchEnd slots start number p → ((slot : ℕ) → p ≡ Held slot → ⊥) → Contains numbers number → ⊥
absent_unless seed slots numbers start number (Held slot) h begins end other c = other slot refl
absent_unless seed slots numbers start number (Free slot) h begins end other c =
    end.2 (subst (λ s. HeldFrom slots number s (length slots)) (sym begins) (held-now seed slots numbers h number c))
absent_unless seed slots numbers start number Full h begins end other c =
    end (subst (λ s. HeldFrom slots number s (length slots)) (sym begins) (held-now seed slots numbers h number c))

pub contains_last : (numbers : List ℕ) (k : ℕ) → k < length numbers → Contains (take (k + 1) numbers) (slice_index_or numbers k 0)
contains_last numbers k h = subst (λ l. Contains l (slice_index_or numbers k 0)) (sym (one_more numbers k h))
    (Contains-append_right (take k numbers) (slice_index_or numbers k 0 ∷ []) (slice_index_or numbers k 0) (contains_one (slice_index_or numbers k 0)))
