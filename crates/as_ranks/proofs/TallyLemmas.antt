-- Neighbours that are counted line by line.
use Rattle.std.proofs.Common.{◌≡◌, ◌≢◌, ℕ, zero, suc, ◌+◌, ◌^◌, ◌<◌, ◌≤◌, inl, inr, Bool, true, false, List, [], ◌∷◌, ◌++◌, length, set, take, get_or, Some, refl, sym, ap, ◌∙◌, subst, arith}
use Rattle.std.specs.Prelude.{slice_get, ◌==◌, ◌&&◌, ◌||◌, not}
use Rattle.std.specs.List.{count_by}
use Rattle.std.specs.List.Sorted.{IsStrictlyIncreasing}
use Rattle.std.proofs.lemmas.Bool.Decides.{eqb_tells}
use Rattle.std.proofs.lemmas.List.{length-set, take_more}
use Rattle.std.proofs.lemmas.List.Sums.{count_by-le-length}
use Rattle.std.proofs.lemmas.Option.{same_Some, slice_get_within}
use Rattle.tor_arena.specs.Limits.{most_places}
use Rattle.tor_arena.proofs.Counting.{one, count-cons, count-append}
use Rattle.tor_arena.proofs.Gets.{slice_get-set_cases, slice_get-some}
use Rattle.tor_digraph.specs.Closing.{IsOnce}
use Rattle.as_rel.specs.declared.line.RelKind.{RelKind}
use Rattle.as_rel.specs.declared.line.RelKind.TheVariants.{Transit, Peering}
use Rattle.as_rel.specs.declared.line.RelLine.{RelLine}
use Rattle.as_rel.specs.Givens.{is_transit}
use Rattle.as_rel.specs.Serial.{NamesPairsOnce}
use Rattle.as_ranks.specs.declared.rank.Rank.{Rank}
use Rattle.as_ranks.specs.Ranks.{is_provider_line, is_peer_line, is_customer_line}
use Rattle.as_ranks.proofs.Rising.{rising-at, rising-once}
use Rattle.as_ranks.specs.Tallies.{one_if, with_line_counted, with_neighbour, rank_under, AreTallied, HasSmallCounts}

-- ---- one line more

count-more : (p : RelLine → Bool) (ls : List RelLine) (l : RelLine) → count_by p (ls ++ l ∷ []) ≡ count_by p ls + one (p l)
count-more p ls l = let a = count-append p ls (l ∷ []) in let b = count-cons p l [] in omega (arith, a, b)

abbrev pub rank_with : (number cone providers peers customers : ℕ) → Rank
rank_with number cone providers peers customers =
    record { place = 0; number = number; cone = cone; providers = providers; peers = peers; customers = customers }

rank-same : (number cone : ℕ) (a b c x y z : ℕ) → a ≡ x → b ≡ y → c ≡ z → rank_with number cone a b c ≡ rank_with number cone x y z
rank-same number cone a b c x y z e f g =
    ap (λ n. rank_with number cone n b c) e ∙ ap (λ n. rank_with number cone x n c) f ∙ ap (λ n. rank_with number cone x y n) g

one-is : (b : Bool) → one b ≡ one_if b
one-is true = refl
one-is false = refl

-- by the kind of the line, and whether it names the AS first or second
by-kind : (number cone a b c : ℕ) (kind : RelKind) (f g : Bool) →
    rank_with number cone (a + one (is_transit kind && g)) (b + one (not (is_transit kind) && (f || g))) (c + one (is_transit kind && f)) ≡
    with_neighbour (rank_with number cone a b c) kind f g
by-kind number cone a b c Transit f g = rank-same number cone _ _ _ _ _ _ (ap (λ n. a + n) (one-is g)) (omega arith) (ap (λ n. c + n) (one-is f))
by-kind number cone a b c Peering f g = rank-same number cone _ _ _ _ _ _ (omega arith) (ap (λ n. b + n) (one-is (f || g))) (omega arith)

pub under-more : (ls : List RelLine) (l : RelLine) (a n : ℕ) → rank_under (ls ++ l ∷ []) a n ≡ with_line_counted (rank_under ls a n) l
under-more ls l a n =
    rank-same a n _ _ _ _ _ _ (count-more (is_provider_line a) ls l) (count-more (is_peer_line a) ls l) (count-more (is_customer_line a) ls l)
    ∙ by-kind a n (count_by (is_provider_line a) ls) (count_by (is_peer_line a) ls) (count_by (is_customer_line a) ls) l.kind (l.first == a) (l.second == a)

-- a line that doesn't name the AS
pub unnamed : (ls : List RelLine) (a n : ℕ) (l : RelLine) → a ≢ l.first → a ≢ l.second → rank_under (ls ++ l ∷ []) a n ≡ rank_under ls a n
unnamed ls a n l apart apart' =
    rank-same a n _ _ _ _ _ _ (none (is_provider_line a) (by-second (is_transit l.kind) (no l.second apart')))
    (none (is_peer_line a) (by-both (not (is_transit l.kind)) (no l.first apart) (no l.second apart')))
    (none (is_customer_line a) (by-second (is_transit l.kind) (no l.first apart)))
  where
    no : (x : ℕ) → a ≢ x → (x == a) ≡ false
    no x ne = elim (eqb_tells x a) [ inl p ↦ absurd (ne (sym p.1)) | inr p ↦ p.0 ]

    by-second : (t : Bool) {g : Bool} → g ≡ false → t && g ≡ false
    by-second true e = e
    by-second false e = refl

    or-none : (f g : Bool) → f ≡ false → g ≡ false → (f || g) ≡ false
    or-none true g e d = e
    or-none false g e d = d

    by-both : (t : Bool) {f g : Bool} → f ≡ false → g ≡ false → t && (f || g) ≡ false
    by-both true {f} {g} e d = or-none f g e d
    by-both false e d = refl

    none : (p : RelLine → Bool) → p l ≡ false → count_by p (ls ++ l ∷ []) ≡ count_by p ls
    none p e = let c = count-more p ls l in let z : one (p l) ≡ 0 = ap one e in omega (arith, c, z)

-- ---- the ranks of all ASes with one line more

module _ (ls : List RelLine) (l : RelLine) (ases cones : List ℕ) (x y : ℕ) (old mid new : List Rank) (r s : Rank) (once : IsOnce ases)
    (at_x : slice_get ases x ≡ Some l.first) (at_y : slice_get ases y ≡ Some l.second) (apart : l.first ≢ l.second)
    (old_x : slice_get old x ≡ Some r) (mid_y : slice_get mid y ≡ Some s)
    (one_put : mid ≡ set old x (with_line_counted r l)) (both_put : new ≡ set mid y (with_line_counted s l)) (h : AreTallied ls ases cones old) where
  -- the rank that stands in a place, with the line
  abbrev IsAt : ℕ → Rank → Type 0
  IsAt k t = (a n : ℕ) × (slice_get ases k ≡ Some a) × (slice_get cones k ≡ Some n) × (n < 2 ^ 32) × (t ≡ rank_under (ls ++ l ∷ []) a n)

  counted-at : (k : ℕ) (was t : Rank) → slice_get old k ≡ Some was → t ≡ with_line_counted was l → IsAt k t
  counted-at k was t at is =
      let w = h.each k was at in
      (w.0, w.1, w.2, w.3, w.4, is ∙ ap (λ z. with_line_counted z l) w.5 ∙ sym (under-more ls l w.0 w.1))

  same-at : (k : ℕ) (t : Rank) → k ≢ x → k ≢ y → slice_get old k ≡ Some t → IsAt k t
  same-at k t not_x not_y at =
      let w = h.each k t at in
      let no_first : w.0 ≢ l.first = λ e. not_x (once k x w.0 w.2 (at_x ∙ ap (λ z. Some z) (sym e))) in
      let no_second : w.0 ≢ l.second = λ e. not_y (once k y w.0 w.2 (at_y ∙ ap (λ z. Some z) (sym e))) in
      (w.0, w.1, w.2, w.3, w.4, w.5 ∙ sym (unnamed ls w.0 w.1 l no_first no_second))

  y-not-x : y ≢ x
  y-not-x e = apart (same_Some l.first l.second (sym at_x ∙ ap (slice_get ases) (sym e) ∙ at_y))

  old-y : slice_get old y ≡ Some s
  old-y = elim (slice_get-set_cases old x (with_line_counted r l) y s (ap (λ rs. slice_get rs y) (sym one_put) ∙ mid_y)) [
    | inl e ↦ absurd (y-not-x e.0)
    | inr o ↦ o.1
  ]

  tally-at : (k : ℕ) (t : Rank) → slice_get new k ≡ Some t → IsAt k t
  tally-at k t at =
      elim (slice_get-set_cases mid y (with_line_counted s l) k t (ap (λ rs. slice_get rs k) (sym both_put) ∙ at)) [
        | inl e ↦ subst (λ z. IsAt z t) (sym e.0) (counted-at y s t old-y e.1)
        | inr o ↦ elim (slice_get-set_cases old x (with_line_counted r l) k t (ap (λ rs. slice_get rs k) (sym one_put) ∙ o.1)) [
          | inl e ↦ subst (λ z. IsAt z t) (sym e.0) (counted-at x r t old_x e.1)
          | inr p ↦ same-at k t p.0 o.0 p.1
        ]
      ]

  pub tally-next : AreTallied (ls ++ l ∷ []) ases cones new
  tally-next = record {
    many = ap length both_put ∙ length-set mid y (with_line_counted s l) ∙ ap length one_put ∙ length-set old x (with_line_counted r l) ∙ h.many;
    each = tally-at;
  }

-- the counts of some lines are small
pub tallied-small : (ls : List RelLine) (ases cones : List ℕ) (ranks : List Rank) (k : ℕ) (r : Rank) → length ls < most_places →
    AreTallied ls ases cones ranks → slice_get ranks k ≡ Some r → HasSmallCounts r
tallied-small ls ases cones ranks k r few h at =
    let w = h.each k r at in
    let p = count_by-le-length (is_provider_line w.0) ls in
    let q = count_by-le-length (is_peer_line w.0) ls in
    let c = count_by-le-length (is_customer_line w.0) ls in
    subst HasSmallCounts (sym w.5) (record { providers = omega (arith, p, few); peers = omega (arith, q, few); customers = omega (arith, c, few) })

-- the same with so many first lines and one more
pub tally-line : (lines : List RelLine) (k : ℕ) (d : RelLine) (ases cones : List ℕ) (new : List Rank) → k < length lines →
    AreTallied (take k lines ++ get_or lines k d ∷ []) ases cones new → AreTallied (take (k + 1) lines) ases cones new
tally-line lines k d ases cones new lt h = subst (λ ls. AreTallied ls ases cones new) (sym (take_more lines k d lt)) h

first-few : (lines : List RelLine) (k : ℕ) → k < length lines → length lines ≤ most_places → length (take k lines) < most_places
first-few lines k lt few = let e = length-take k lines in omega (arith, lt, few, e)
  where
    length-take : (n : ℕ) (ls : List RelLine) → length (take n ls) ≤ n
    length-take zero ls = omega arith
    length-take (suc n) [] = omega arith
    length-take (suc n) (l ∷ ls) = let h = length-take n ls in omega (arith, h)

module _ (lines : List RelLine) (ases cones : List ℕ) (k : ℕ) (d : RelLine) (x y : ℕ) (old mid new : List Rank) (names : NamesPairsOnce lines) (up : IsStrictlyIncreasing ases)
    (lt : k < length lines) (few : length lines ≤ most_places) (h : AreTallied (take k lines) ases cones old)
    (at_x : slice_get ases x ≡ Some (get_or lines k d).first) (at_y : slice_get ases y ≡ Some (get_or lines k d).second) where
  once : IsOnce ases
  once = rising-once ases (rising-at ases up)

  apart : (get_or lines k d).first ≢ (get_or lines k d).second
  apart = (names.proper k d lt).apart

  differ : y ≢ x
  differ e = apart (same_Some (get_or lines k d).first (get_or lines k d).second (sym at_x ∙ ap (slice_get ases) (sym e) ∙ at_y))

  pub small-first : (r : Rank) → slice_get old x ≡ Some r → HasSmallCounts r
  small-first r at = tallied-small (take k lines) ases cones old x r (first-few lines k lt few) h at

  rank-at : (z a : ℕ) → slice_get ases z ≡ Some a → (r : Rank) × (slice_get old z ≡ Some r)
  rank-at z a at = let within = slice_get_within ases z a at in let many = h.many in slice_get-some old z (omega (arith, within, many))

  module _ (one_put : (r : Rank) → slice_get old x ≡ Some r → mid ≡ set old x (with_line_counted r (get_or lines k d))) where
    first-put : mid ≡ set old x (with_line_counted (rank-at x (get_or lines k d).first at_x).0 (get_or lines k d))
    first-put = one_put (rank-at x (get_or lines k d).first at_x).0 (rank-at x (get_or lines k d).first at_x).1

    pub mid-long : length mid ≡ length old
    mid-long = ap length first-put ∙ length-set old x _

    pub small-second : (s : Rank) → slice_get mid y ≡ Some s → HasSmallCounts s
    small-second s at =
        elim (slice_get-set_cases old x _ y s (ap (λ rs. slice_get rs y) (sym first-put) ∙ at)) [
          | inl e ↦ absurd (differ e.0)
          | inr o ↦ tallied-small (take k lines) ases cones old y s (first-few lines k lt few) h o.1
        ]

    pub tally-step : ((s : Rank) → slice_get mid y ≡ Some s → new ≡ set mid y (with_line_counted s (get_or lines k d))) → AreTallied (take (k + 1) lines) ases cones new
    tally-step both_put =
        let within = slice_get_within ases y (get_or lines k d).second at_y in
        let many = h.many in
        let long = mid-long in
        let s = slice_get-some mid y (omega (arith, within, many, long)) in
        let r = rank-at x (get_or lines k d).first at_x in
        tally-line lines k d ases cones new lt
        (tally-next (take k lines) (get_or lines k d) ases cones x y old mid new r.0 s.0 once at_x at_y apart r.1 s.1 first-put (both_put s.0 s.1) h)
