-- Ranks in order, and their places.
use Rattle.std.proofs.Common.{◌≡◌, ◌≢◌, ℕ, zero, suc, ◌+◌, ◌-◌, ◌^◌, ◌<◌, ◌≤◌, ◌⊎◌, inl, inr, Bool, true, false, List, [], ◌∷◌, length, set, map, get_or, Some, refl, sym, ap, ◌∙◌, subst, arith, All}
use Rattle.std.proofs.Common.{lt-ltb, le-ltb, eq-eqb}
use Rattle.std.proofs.Common.{Ordering, Less, Equal}
use Rattle.std.specs.Prelude.{slice_get, nat_lt, nat_eq, replicate}
use Rattle.std.specs.List.{AllPairs, count_by}
use Rattle.std.specs.List.Sorted.{IsSortedByKey, IsPermutation}
use Rattle.std.specs.Ordering.{nat_cmp, ordering_then, is_lt}
use Rattle.std.specs.Cmp.{IsTotalOrder}
use Rattle.std.proofs.lemmas.Bool.{cases_order, cases_eq, false≢true}
use Rattle.std.proofs.lemmas.Bool.Decides.{eqb_tells}
use Rattle.std.proofs.lemmas.Cmp.{then_total, on_total, nat_cmp_total}
use Rattle.std.proofs.lemmas.List.{length-set, length-map}
use Rattle.std.proofs.lemmas.List.Sorted.{ranks_by, sorted_far, Contains-permutation, IsPermutation-sym, IsPermutation-map}
use Rattle.std.proofs.lemmas.Map.Keys.{IsDistinct-IsPermutation, apart_from_distinct, IsDistinct-from_apart}
use Rattle.std.proofs.lemmas.Option.{same_Some, slice_get_within, slice_get-get_or, get_or_from_slice_get}
use Rattle.tor_arena.proofs.Counting.{one, count-cons}
use Rattle.tor_arena.proofs.Gets.{has-from_Contains, Contains-from_has, slice_get-map, slice_get-unmap, slice_get-some, slice_get-set_cases}
use Rattle.tor_digraph.specs.Walks.{Net}
use Rattle.tor_digraph.specs.Closing.{IsOnce}
use Rattle.reach_counts.specs.ReachCounts.{AreReachedCounts}
use Rattle.as_rel.specs.declared.line.RelLine.{RelLine}
use Rattle.as_ranks.specs.declared.rank.Rank.{Rank}
use Rattle.as_ranks.specs.Named.{IsNetOf}
use Rattle.as_ranks.specs.Ranks.{IsMeasured, RanksBefore, AreRanks, place_among}
use Rattle.as_ranks.specs.Tallies.{AreTallied}
use Rattle.as_ranks.specs.Placing.{AreMeasured, ArePlaced, ArePlacedTo, RanksNoLater, HasShortCone, rank_key, with_place}
use Rattle.as_ranks.proofs.Rising.{rising-at, rising-once}
use Rattle.as_ranks.proofs.SizeLemmas.{cone-size}

-- ---- what is counted, in the order of the ASes

eq-no : (x y : ℕ) → x ≢ y → nat_eq x y ≡ false
eq-no x y ne = elim (eqb_tells x y) [ inl p ↦ absurd (ne p.1) | inr p ↦ p.0 ]

module _ (rel : List RelLine) (ases cones : List ℕ) (net : Net ℕ) (ranks : List Rank) (is_net : IsNetOf rel ases net)
    (sizes : AreReachedCounts (replicate net.nodes true) net cones) (h : AreTallied rel ases cones ranks) where
  once : IsOnce ases
  once = rising-once ases (rising-at ases is_net.names.rising)

  counted-each : (k : ℕ) (r : Rank) → slice_get ranks k ≡ Some r → IsMeasured rel r
  counted-each k r at =
      let w = h.each k r at in
      subst (IsMeasured rel) (sym w.5) (record {
        named = (is_net.names.named w.0).0 (Contains-from_has ases w.0 (k, w.2));
        cone = cone-size rel ases net is_net.arcs once k w.0 w.1 w.2 (sizes.each k w.1 w.3);
        providers = refl;
        peers = refl;
        customers = refl;
      })

  number-at : (k : ℕ) (r : Rank) → slice_get ranks k ≡ Some r → slice_get ases k ≡ Some r.number
  number-at k r at = let w = h.each k r at in w.2 ∙ ap (λ (z : Rank). Some z.number) (sym w.5)

  pub counted-all : AreMeasured rel ranks
  counted-all = record {
    each = counted-each;
    all = λ a n.
        let w = has-from_Contains ases a ((is_net.names.named a).1 n) in
        let lt = slice_get_within ases w.0 a w.1 in
        let many = h.many in
        let r = slice_get-some ranks w.0 (omega (arith, lt, many)) in
        (r.0, (w.0, r.1), same_Some r.0.number a (sym (number-at w.0 r.0 r.1) ∙ w.1));
    once = IsDistinct-from_apart nat_eq (map (λ r. r.number) ranks) (λ i j d lt within.
        let at_i = named-at i d (omega (arith, lt, within)) in
        let at_j = named-at j d within in
        eq-no (get_or (map (λ r. r.number) ranks) i d) (get_or (map (λ r. r.number) ranks) j d) (λ e.
        let same = once i j (get_or (map (λ r. r.number) ranks) j d) (at_i ∙ ap (λ n. Some n) e) at_j in
        omega (arith, lt, same)));
  }
    where
      named-at : (i d : ℕ) → i < length (map (λ (r : Rank). r.number) ranks) → slice_get ases i ≡ Some (get_or (map (λ (r : Rank). r.number) ranks) i d)
      named-at i d lt =
          let many : length (map (λ (r : Rank). r.number) ranks) ≡ length ranks = length-map ranks (λ (r : Rank). r.number) in
          let r = slice_get-some ranks i (omega (arith, lt, many)) in
          let e = get_or_from_slice_get (map (λ (r : Rank). r.number) ranks) i r.0.number d (slice_get-map (λ (r : Rank). r.number) ranks i r.0 r.1) in
          number-at i r.0 r.1 ∙ ap (λ n. Some n) (sym e)

  pub tallied-short : All HasShortCone ranks
  tallied-short k d lt =
      let r = slice_get-some ranks k lt in
      let w = h.each k r.0 r.1 in
      let is = get_or_from_slice_get ranks k r.0 d r.1 in
      let cone : r.0.cone ≡ w.1 = ap (λ (z : Rank). z.cone) w.5 in
      let small = w.4 in
      subst HasShortCone (sym is) (omega (arith, cone, small))

-- ---- in another order

pub counted-permuted : (rel : List RelLine) (xs ys : List Rank) → IsPermutation xs ys → AreMeasured rel xs → AreMeasured rel ys
counted-permuted rel xs ys p h = record {
  each = λ k r at.
      let w = has-from_Contains xs r (Contains-permutation ys xs r (IsPermutation-sym xs ys p) (Contains-from_has ys r (k, at))) in
      h.each w.0 r w.1;
  all = λ a n. (let w = h.all a n in (w.0, has-from_Contains ys w.0 (Contains-permutation xs ys w.0 p (Contains-from_has xs w.0 w.1)), w.2));
  once = IsDistinct-IsPermutation nat_eq flips (map (λ r. r.number) xs) (map (λ r. r.number) ys) (IsPermutation-map (λ (r : Rank). r.number) xs ys p) h.once;
}
  where
    flips : (x y : ℕ) → nat_eq x y ≡ nat_eq y x
    flips x y = elim (eqb_tells x y) [
      | inl a ↦ elim (eqb_tells y x) [ inl b ↦ a.0 ∙ sym b.0 | inr b ↦ absurd (b.1 (sym a.1)) ]
      | inr a ↦ elim (eqb_tells y x) [ inl b ↦ absurd (a.1 (sym b.1)) | inr b ↦ a.0 ∙ sym b.0 ]
    ]

-- ---- sorted by cone and number

first-less : (x y : ℕ) → x < y → nat_cmp x y ≡ Less
first-less x y lt = rw (lt-ltb x y lt) refl

both-same : (x y : ℕ) → x ≡ y → nat_cmp x y ≡ Equal
both-same x y e = let ge : y ≤ x = omega arith in rw (le-ltb x y ge, eq-eqb x y e) refl

not-lower : (x y u v : ℕ) → is_lt (ordering_then (nat_cmp x y) (nat_cmp u v)) ≡ false → (y < x) ⊎ ((x ≡ y) × (v ≤ u))
not-lower x y u v h =
    elim (cases_order x y) [
      | inl e ↦ inr (e, behind (subst (λ o. is_lt (ordering_then o (nat_cmp u v)) ≡ false) (both-same x y e) h))
      | inr o ↦ elim o [
        | inl lt ↦ absurd (false≢true (sym (subst (λ o. is_lt (ordering_then o (nat_cmp u v)) ≡ false) (first-less x y lt) h)))
        | inr gt ↦ inl gt
      ]
    ]
  where
    behind : is_lt (nat_cmp u v) ≡ false → v ≤ u
    behind k =
        elim (cases_order u v) [
          | inl e ↦ omega arith
          | inr o ↦ elim o [ inl lt ↦ absurd (false≢true (sym (subst (λ o. is_lt o ≡ false) (first-less u v lt) k))) | inr gt ↦ omega arith ]
        ]

abbrev pub pair_cmp : ℕ × ℕ → ℕ × ℕ → Ordering
pair_cmp x y = ordering_then (nat_cmp x.0 y.0) (nat_cmp x.1 y.1)

pair-total : IsTotalOrder pair_cmp
pair-total = then_total (on_total (λ (p : ℕ × ℕ). p.0) nat_cmp_total) (on_total (λ (p : ℕ × ℕ). p.1) nat_cmp_total)

not-after : (r s : Rank) → r.cone < 2 ^ 32 → s.cone < 2 ^ 32 → is_lt (pair_cmp (rank_key s) (rank_key r)) ≡ false → RanksNoLater r s
not-after r s small small' h =
    elim (not-lower (rank_key s).0 (rank_key r).0 (rank_key s).1 (rank_key r).1 h) [
      | inl lt ↦ inl (omega (arith, lt, small, small'))
      | inr (e, le) ↦ inr (omega (arith, e, small, small'), le)
    ]

pub sorted-is : (rs : List Rank) → All HasShortCone rs → IsSortedByKey rank_key pair_cmp rs → AllPairs RanksNoLater rs
sorted-is rs small up i j d less lt =
    not-after (get_or rs i d) (get_or rs j d) (small i d (omega (arith, less, lt))) (small j d lt)
    (sorted_far (λ (x y : Rank). is_lt (pair_cmp (rank_key x) (rank_key y))) (ranks_by pair-total rank_key) rs up i j d (omega (arith, less)) lt)

-- two of them, by their places
later-at : (rs : List Rank) → AllPairs RanksNoLater rs → (i j : ℕ) (r s : Rank) → i < j → slice_get rs i ≡ Some r → slice_get rs j ≡ Some s → RanksNoLater r s
later-at rs up i j r s lt at_i at_j =
    subst (λ z. RanksNoLater z s) (get_or_from_slice_get rs i r r at_i)
    (subst (λ z. RanksNoLater (get_or rs i r) z) (get_or_from_slice_get rs j s r at_j) (up i j r lt (slice_get_within rs j s at_j)))

cone-falls : (rs : List Rank) → AllPairs RanksNoLater rs → (i j : ℕ) (r s : Rank) → i < j → slice_get rs i ≡ Some r → slice_get rs j ≡ Some s → s.cone ≤ r.cone
cone-falls rs up i j r s lt at_i at_j = elim (later-at rs up i j r s lt at_i at_j) [ inl less ↦ omega (arith, less) | inr e ↦ (let same = e.0 in omega (arith, same)) ]

-- ---- places

-- a test that the first items pass, so many, and no other
count-first : (p : ℕ → Bool) (xs : List ℕ) (m : ℕ) → m ≤ length xs → ((i x : ℕ) → i < m → slice_get xs i ≡ Some x → p x ≡ true) →
    ((i x : ℕ) → m ≤ i → slice_get xs i ≡ Some x → p x ≡ false) → count_by p xs ≡ m
count-first p [] m le hit miss = omega (arith, le)
count-first p (x ∷ xs) zero le hit miss =
    let rest = count-first p xs zero (omega arith) (λ i y lt at. absurd (omega (arith, lt))) (λ i y ge at. miss (suc i) y (omega arith) at) in
    let c = count-cons p x xs in
    let none : one (p x) ≡ 0 = ap one (miss zero x (omega arith) refl) in
    omega (arith, c, rest, none)
count-first p (x ∷ xs) (suc m) le hit miss =
    let rest = count-first p xs m (omega (arith, le)) (λ i y lt at. hit (suc i) y (omega (arith, lt)) at) (λ i y ge at. miss (suc i) y (omega (arith, ge)) at) in
    let c = count-cons p x xs in
    let some : one (p x) ≡ 1 = ap one (hit zero x (omega arith) refl) in
    omega (arith, c, rest, some)

abbrev cones_of : List Rank → List ℕ
cones_of ranks = map (λ r. r.cone) ranks

lt-yes : (x y : ℕ) → x < y → nat_lt x y ≡ true
lt-yes x y lt = lt-ltb x y lt

lt-no : (x y : ℕ) → y ≤ x → nat_lt x y ≡ false
lt-no x y le = le-ltb x y le

module _ (old : List Rank) (up : AllPairs RanksNoLater old) (k : ℕ) (s : Rank) (at : slice_get old k ≡ Some s) where
  -- the ranks from here on have no more members
  no-later : (i n : ℕ) → k ≤ i → slice_get (cones_of old) i ≡ Some n → nat_lt s.cone n ≡ false
  no-later i n le at_i =
      let w = slice_get-unmap (λ (r : Rank). r.cone) old i n at_i in
      let is : w.0.cone ≡ n = w.2 in
      elim (cases_eq i k) [
        | inl e ↦ (
            let same : w.0 ≡ s = same_Some w.0 s (sym w.1 ∙ ap (slice_get old) e ∙ at) in
            let cone = ap (λ (r : Rank). r.cone) same in lt-no s.cone n (omega (arith, is, cone)))
        | inr ne ↦ (let falls = cone-falls old up k i s w.0 (omega (arith, le, ne)) at w.1 in lt-no s.cone n (omega (arith, is, falls)))
      ]

  -- where all before have more members
  pub place-new : ((r : Rank) → slice_get old (k - 1) ≡ Some r → 0 < k → s.cone < r.cone) → place_among old s ≡ k + 1
  place-new more =
      let many : length (map (λ (r : Rank). r.cone) old) ≡ length old = length-map old (λ (r : Rank). r.cone) in
      let within = slice_get_within old k s at in
      let c = count-first (λ n. nat_lt s.cone n) (cones_of old) k (omega (arith, within, many)) before no-later in
      omega (arith, c)
    where
      before : (i n : ℕ) → i < k → slice_get (cones_of old) i ≡ Some n → nat_lt s.cone n ≡ true
      before i n lt at_i =
          let w = slice_get-unmap (λ (r : Rank). r.cone) old i n at_i in
          let is : w.0.cone ≡ n = w.2 in
          let within = slice_get_within old k s at in
          let last = slice_get-some old (k - 1) (omega (arith, within, lt)) in
          let up_last = more last.0 last.1 (omega (arith, lt)) in
          elim (cases_eq i (k - 1)) [
            | inl e ↦ (
                let same : w.0 ≡ last.0 = same_Some w.0 last.0 (sym w.1 ∙ ap (slice_get old) e ∙ last.1) in
                let cone = ap (λ (r : Rank). r.cone) same in lt-yes s.cone n (omega (arith, is, cone, up_last)))
            | inr ne ↦ (let falls = cone-falls old up i (k - 1) w.0 last.0 (omega (arith, lt, ne)) w.1 last.1 in lt-yes s.cone n (omega (arith, is, falls, up_last)))
          ]

  -- where the one before has as many
  pub place-same : (r : Rank) → r.cone ≡ s.cone → place_among old r ≡ place_among old s
  place-same r e = ap (λ c. 1 + count_by (λ n. nat_lt c n) (cones_of old)) e

-- the place where the one before hasn't as many
pub place-else : (old ranks : List Rank) (k : ℕ) (d s : Rank) → AllPairs RanksNoLater old → ArePlacedTo k old ranks → slice_get old k ≡ Some s → k < length ranks →
    (0 < k → (get_or ranks (k - 1) d).cone ≢ (get_or ranks k d).cone) → k + 1 ≡ place_among old s
place-else old ranks k d s up h at within differ = sym (place-new old up k s at more)
  where
    more : (r : Rank) → slice_get old (k - 1) ≡ Some r → 0 < k → s.cone < r.cone
    more r at_r some =
        let t : slice_get ranks (k - 1) ≡ Some (get_or ranks (k - 1) d) = slice_get-get_or ranks (k - 1) d (omega (arith, within)) in
        let w = h.done (k - 1) (get_or ranks (k - 1) d) (omega (arith, some)) t in
        let last : (get_or ranks (k - 1) d).cone ≡ r.cone = ap (λ (z : Rank). z.cone) w.2 ∙ ap (λ (z : Rank). z.cone) (same_Some w.0 r (sym w.1 ∙ at_r)) in
        let now : (get_or ranks k d).cone ≡ s.cone =
        ap (λ (z : Rank). z.cone) (same_Some (get_or ranks k d) s (sym (h.left k (get_or ranks k d) (omega arith) (slice_get-get_or ranks k d within)) ∙ at)) in
        let falls = cone-falls old up (k - 1) k r s (omega (arith, some)) at_r at in
        let ne = differ some in
        elim (cases_eq s.cone r.cone) [
          | inl e ↦ absurd (ne (last ∙ sym e ∙ sym now))
          | inr apart ↦ omega (arith, falls, apart)
        ]

pub placed-none : (old : List Rank) → ArePlacedTo 0 old old
placed-none old = record {
  many = refl;
  done = λ k r lt at. absurd (omega (arith, lt));
  left = λ k r le at. at;
}

pub placed-next : (k n : ℕ) (old mid new : List Rank) (s : Rank) → slice_get mid k ≡ Some s → n ≡ place_among old s → new ≡ set mid k (record s { place = n }) →
    ArePlacedTo k old mid → ArePlacedTo (k + 1) old new
placed-next k n old mid new s at is put h = record {
  many = ap length put ∙ length-set mid k (record s { place = n }) ∙ h.many;
  done = λ i r lt at_i. elim (slice_get-set_cases mid k (record s { place = n }) i r (ap (λ rs. slice_get rs i) (sym put) ∙ at_i)) [
    | inl e ↦ (s, ap (slice_get old) e.0 ∙ h.left k s (omega arith) at, e.1 ∙ ap (λ z. record s { place = z }) is)
    | inr o ↦ (let ne = o.0 in h.done i r (omega (arith, lt, ne)) o.1)
  ];
  left = λ i r le at_i. elim (slice_get-set_cases mid k (record s { place = n }) i r (ap (λ rs. slice_get rs i) (sym put) ∙ at_i)) [
    | inl e ↦ (let same = e.0 in absurd (omega (arith, le, same)))
    | inr o ↦ h.left i r (omega (arith, le)) o.1
  ];
}

pub placed-all : (k : ℕ) (old new : List Rank) → length new ≤ k → ArePlacedTo k old new → ArePlaced old new
placed-all k old new le h = record {
  many = h.many;
  each = λ i r at. (let lt = slice_get_within new i r at in h.done i r (omega (arith, lt, le)) at);
}

-- ---- all of it

cones-same : (old new : List Rank) → ArePlaced old new → cones_of new ≡ cones_of old
cones-same old new h = by old new h.many (λ k r at. (let w = h.each k r at in (w.0, w.1, ap (λ (z : Rank). z.cone) w.2)))
  where
    by : (old new : List Rank) → length new ≡ length old → ((k : ℕ) (r : Rank) → slice_get new k ≡ Some r → (s : Rank) × (slice_get old k ≡ Some s) × (r.cone ≡ s.cone)) →
        cones_of new ≡ cones_of old
    by [] [] many each = refl
    by [] (y ∷ ys) many each = absurd (omega (arith, many))
    by (x ∷ xs) [] many each = absurd (omega (arith, many))
    by (x ∷ xs) (y ∷ ys) many each =
        let w = each 0 y refl in
        let first : y.cone ≡ x.cone = w.2 ∙ ap (λ (z : Rank). z.cone) (sym (same_Some x w.0 w.1)) in
        ap (λ c. c ∷ cones_of ys) first ∙ ap (λ cs. x.cone ∷ cs) (by xs ys (omega (arith, many)) (λ k r at. each (suc k) r at))

pub ranks-all : (rel : List RelLine) (old new : List Rank) → AreMeasured rel old → AllPairs RanksNoLater old → ArePlaced old new → AreRanks rel new
ranks-all rel old new counted up placed = record {
  each = λ k r at.
      let w = placed.each k r at in
      subst (IsMeasured rel) (sym w.2) (with-place (place_among old w.0) w.0 (counted.each k w.0 w.1));
  all = λ a n.
      let w = counted.all a n in
      let lt = slice_get_within old w.1.0 w.0 w.1.1 in
      let many = placed.many in
      let r = slice_get-some new w.1.0 (omega (arith, lt, many)) in
      let p = placed.each w.1.0 r.0 r.1 in
      let same : p.0 ≡ w.0 = same_Some p.0 w.0 (sym p.1 ∙ w.1.1) in
      (r.0, (w.1.0, r.1), ap (λ (z : Rank). z.number) p.2 ∙ ap (λ (z : Rank). z.number) same ∙ w.2);
  order = λ i j r s lt at_i at_j.
      let p = placed.each i r at_i in
      let q = placed.each j s at_j in
      let within = slice_get_within old j q.0 q.1 in
      let many : length (map (λ (z : Rank). z.number) old) ≡ length old = length-map old (λ (z : Rank). z.number) in
      let apart = apart_from_distinct nat_eq (map (λ z. z.number) old) i j 0 counted.once lt (omega (arith, within, many)) in
      let n_i = get_or_from_slice_get (map (λ z. z.number) old) i p.0.number 0 (slice_get-map (λ (z : Rank). z.number) old i p.0 p.1) in
      let n_j = get_or_from_slice_get (map (λ z. z.number) old) j q.0.number 0 (slice_get-map (λ (z : Rank). z.number) old j q.0 q.1) in
      let differ : nat_eq p.0.number q.0.number ≡ false = ap (λ z. nat_eq z q.0.number) (sym n_i) ∙ ap (λ z. nat_eq (get_or (map (λ z. z.number) old) i 0) z) (sym n_j) ∙ apart in
      let before : RanksBefore p.0 q.0 = elim (later-at old up i j p.0 q.0 lt p.1 q.1) [
        | inl less ↦ inl less
        | inr e ↦ elim (cases_eq p.0.number q.0.number) [
          | inl same ↦ absurd (false≢true (sym differ ∙ eq-eqb p.0.number q.0.number same))
          | inr ne ↦ (let le = e.1 in inr (e.0, omega (arith, le, ne)))
        ]
      ] in
      subst (λ z. RanksBefore z s) (sym p.2) (subst (λ z. RanksBefore (with_place old p.0) z) (sym q.2) before);
  places = λ k r at.
      let p = placed.each k r at in
      ap (λ (z : Rank). z.place) p.2 ∙ ap (λ cs. 1 + count_by (λ n. nat_lt p.0.cone n) cs) (sym (cones-same old new placed)) ∙
      ap (λ c. 1 + count_by (λ n. nat_lt c n) (cones_of new)) (ap (λ (z : Rank). z.cone) (sym p.2));
}
  where
    with-place : (n : ℕ) (r : Rank) → IsMeasured rel r → IsMeasured rel (record r { place = n })
    with-place n r h = record { named = h.named; cone = h.cone; providers = h.providers; peers = h.peers; customers = h.customers }
