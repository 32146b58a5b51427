-- The laws of ranks and cycles.
use Rattle.std.proofs.Common.{◌≡◌, ◌≢◌, ℕ, zero, suc, ◌<◌, ◌≤◌, ◌⊎◌, inl, inr, Bool, true, false, List, [], ◌∷◌, length, map, min, max, get_or, Some, refl, sym, ap, ◌∙◌, subst, arith}
use Rattle.std.specs.Prelude.{slice_get, nat_eq, nat_lt, filter, ◌&&◌, ◌||◌}
use Rattle.std.specs.List.{count_by, list_any}
use Rattle.std.proofs.Common.{lt-ltb, le-ltb, cond}
use Rattle.std.proofs.lemmas.Bool.{cases_eq, cases_lt, cases_order, false≢true}
use Rattle.std.proofs.lemmas.Bool.Decides.{eqb_tells}
use Rattle.std.proofs.lemmas.Option.{same_Some, slice_get_within, get_or_from_slice_get}
use Rattle.tor_arena.proofs.Counting.{one, count-cons}
use Rattle.tor_arena.proofs.Gets.{has-from_Contains, Contains-from_has, slice_get-map, slice_get-some, All-get}
use Rattle.tor_digraph.specs.Walks.{HasArc, Reaches, here, along}
use Rattle.tor_digraph.specs.Closing.{Has}
use Rattle.reach_counts.proofs.Picking.{once-cons}
use Rattle.reach_counts.proofs.Uniqueness.{no-longer}
use Rattle.as_rel.specs.declared.line.RelKind.TheVariants.{Transit}
use Rattle.as_rel.specs.declared.line.RelLine.{RelLine}
use Rattle.as_rel.specs.Serial.{rel_line, pair_of, IsProperLine, NamesPairsOnce}
use Rattle.as_rel.specs.Cone.{IsProvider, InCone, self, under}
use Rattle.as_ranks.specs.declared.rank.Rank.{Rank}
use Rattle.as_ranks.specs.Ranks.{IsConeSize}
use Rattle.as_ranks.specs.Cycles.{InConesOfEachOther, IsProviderCycle, inside_of, is_inside}
use Rattle.as_ranks.specs.Laws.{RankingLaw, CycleSizeLaw, UnrealTransitLaw, IsAcyclic}

-- ---- cones

pub cone-trans : (rel : List RelLine) (a b c : ℕ) → InCone rel a b → InCone rel b c → InCone rel a c
cone-trans rel a b c m self = m
cone-trans rel a b c m (under {b = d} {c = e} n p) = under (cone-trans rel a b d m n) p

abbrev pub is-in : List ℕ → ℕ → Bool
is-in xs x = list_any (λ y. nat_eq y x) xs

pub in-has : (xs : List ℕ) (x : ℕ) → is-in xs x ≡ true → Has xs x
in-has [] x e = absurd (false≢true e)
in-has (y ∷ ys) x e =
    elim (eqb_tells y x) [
      | inl p ↦ (0, ap (λ z. Some z) p.1)
      | inr p ↦ (let w = in-has ys x (subst (λ b. (b || is-in ys x) ≡ true) p.0 e) in (suc w.0, w.1))
    ]

pub has-in : (xs : List ℕ) (k x : ℕ) → slice_get xs k ≡ Some x → is-in xs x ≡ true
has-in [] k x at = cc
has-in (y ∷ ys) zero x at =
    let e : y ≡ x = same_Some y x at in
    elim (eqb_tells y x) [ inl p ↦ ap (λ b. b || is-in ys x) p.0 | inr p ↦ absurd (p.1 e) ]
has-in (y ∷ ys) (suc k) x at =
    let rest = has-in ys k x at in
    elim (eqb_tells y x) [ inl p ↦ ap (λ b. b || is-in ys x) p.0 | inr p ↦ ap (λ b. b || is-in ys x) p.0 ∙ rest ]

pub decided : (b : Bool) → (b ≡ true) ⊎ (b ≡ false)
decided true = inl refl
decided false = inr refl

-- ---- the provider has more members, unless the two are in one cycle

module _ (rel : List RelLine) (a b m n : ℕ) (p : IsProvider rel a b) (size_a : IsConeSize rel a m) (size_b : IsConeSize rel b n) where
  over : InCone rel a b
  over = under self p

  into : (x : ℕ) → Has size_b.members x → Has size_a.members x
  into x has = has-from_Contains size_a.members x ((size_a.exact x).1 (cone-trans rel a b x over ((size_b.exact x).0 (Contains-from_has size_b.members x has))))

  pub mutual-or-less : InConesOfEachOther rel a b ⊎ (n < m)
  mutual-or-less =
      elim (decided (is-in size_b.members a)) [
        | inl hit ↦ inl (over, (size_b.exact a).0 (Contains-from_has size_b.members a (in-has size_b.members a hit)))
        | inr miss ↦ inr (
            let none : Has size_b.members a → ⊥ = λ w. false≢true (sym miss ∙ has-in size_b.members w.0 a w.1) in
            let le = no-longer (a ∷ size_b.members) size_a.members (once-cons a size_b.members none size_b.once) (λ x has. within x has.0 has.1) in
            let many_a = size_a.many in
            let many_b = size_b.many in omega (arith, le, many_a, many_b))
      ]
    where
      within : (x k : ℕ) → slice_get (a ∷ size_b.members) k ≡ Some x → Has size_a.members x
      within x zero at = has-from_Contains size_a.members x ((size_a.exact x).1 (subst (InCone rel a) (same_Some a x at) self))
      within x (suc k) at = into x (k, at)

-- fewer numbers are greater than the greater of two
count-less : (xs : List ℕ) (c d k : ℕ) → c < d → slice_get xs k ≡ Some d → count_by (λ n. nat_lt d n) xs < count_by (λ n. nat_lt c n) xs
count-less xs c d k lt at = by xs k at
  where
    no-more : (xs : List ℕ) → count_by (λ n. nat_lt d n) xs ≤ count_by (λ n. nat_lt c n) xs
    no-more [] = omega arith
    no-more (x ∷ xs) =
        let rest = no-more xs in
        let e = count-cons (λ n. nat_lt d n) x xs in
        let f = count-cons (λ n. nat_lt c n) x xs in
        elim (cases_lt d x) [
          | inl above ↦ (
              let hit : one (nat_lt d x) ≡ 1 = ap one (lt-ltb d x above) in
              let hit' : one (nat_lt c x) ≡ 1 = ap one (lt-ltb c x (omega (arith, above, lt))) in omega (arith, rest, e, f, hit, hit'))
          | inr le ↦ (let none : one (nat_lt d x) ≡ 0 = ap one (le-ltb d x le) in omega (arith, rest, e, f, none))
        ]

    by : (xs : List ℕ) (k : ℕ) → slice_get xs k ≡ Some d → count_by (λ n. nat_lt d n) xs < count_by (λ n. nat_lt c n) xs
    by [] k at = cc
    by (x ∷ xs) zero at =
        let is : x ≡ d = same_Some x d at in
        let rest = no-more xs in
        let e = count-cons (λ n. nat_lt d n) x xs in
        let f = count-cons (λ n. nat_lt c n) x xs in
        let none : one (nat_lt d x) ≡ 0 = ap one (le-ltb d x (omega (arith, is))) in
        let hit : one (nat_lt c x) ≡ 1 = ap one (lt-ltb c x (omega (arith, is, lt))) in omega (arith, rest, e, f, none, hit)
    by (x ∷ xs) (suc k) at =
        let rest = by xs k at in
        let e = count-cons (λ n. nat_lt d n) x xs in
        let f = count-cons (λ n. nat_lt c n) x xs in
        elim (cases_lt d x) [
          | inl above ↦ (
              let hit : one (nat_lt d x) ≡ 1 = ap one (lt-ltb d x above) in
              let hit' : one (nat_lt c x) ≡ 1 = ap one (lt-ltb c x (omega (arith, above, lt))) in omega (arith, rest, e, f, hit, hit'))
          | inr le ↦ (let none : one (nat_lt d x) ≡ 0 = ap one (le-ltb d x le) in omega (arith, rest, e, f, none))
        ]

pub ranking : RankingLaw
ranking rel ranks r s h has_r has_s p =
    let counted_r = h.each has_r.0 r has_r.1 in
    let counted_s = h.each has_s.0 s has_s.1 in
    elim (mutual-or-less rel r.number s.number r.cone s.cone p counted_r.cone counted_s.cone) [
      | inl mutual_cones ↦ inl mutual_cones
      | inr less ↦ inr (
        less,
        (
            let fewer = count-less (map (λ (z : Rank). z.cone) ranks) s.cone r.cone has_r.0 less (slice_get-map (λ (z : Rank). z.cone) ranks has_r.0 r has_r.1) in
            let at_r = h.places has_r.0 r has_r.1 in
            let at_s = h.places has_s.0 s has_s.1 in omega (arith, fewer, at_r, at_s)),
      )
    ]

-- ---- a cycle of two

-- the pair of two ASes, in either order
swapped : (a b : ℕ) → pair_of (rel_line a b Transit) ≡ pair_of (rel_line b a Transit)
swapped a b =
    let e : min a b ≡ min b a = omega arith in
    let f : max a b ≡ max b a = omega arith in
    ap (λ z. (z, max a b)) e ∙ ap (λ z. (min b a, z)) f

module _ (rel : List RelLine) (names : NamesPairsOnce rel) where
  no-loop : (a : ℕ) → IsProvider rel a a → ⊥
  no-loop a p = (All-get IsProperLine rel p.0 (rel_line a a Transit) names.proper p.1).apart refl

  -- none of two ASes is the provider of the other one and its customer
  one-way : (a b : ℕ) → a < b → IsProvider rel a b → IsProvider rel b a → ⊥
  one-way a b less p q =
      let there : get_or rel p.0 (rel_line a b Transit) ≡ rel_line a b Transit = get_or_from_slice_get rel p.0 (rel_line a b Transit) (rel_line a b Transit) p.1 in
      let back : get_or rel q.0 (rel_line b a Transit) ≡ rel_line b a Transit = get_or_from_slice_get rel q.0 (rel_line b a Transit) (rel_line b a Transit) q.1 in
      elim (cases_order p.0 q.0) [
        | inl same ↦
            let e : rel_line a b Transit ≡ rel_line b a Transit = same_Some (rel_line a b Transit) (rel_line b a Transit) (sym p.1 ∙ ap (slice_get rel) same ∙ q.1) in
            let f : a ≡ b = ap (λ (l : RelLine). l.first) e in
            absurd (omega (arith, less, f))
        | inr o ↦ elim o [
          | inl lt ↦ apart-at p.0 q.0 (rel_line a b Transit) (rel_line b a Transit) lt p.1 q.1 (swapped a b)
          | inr lt ↦ apart-at q.0 p.0 (rel_line b a Transit) (rel_line a b Transit) lt q.1 p.1 (swapped b a)
        ]
      ]
    where
      apart-at : (i j : ℕ) (l m : RelLine) → i < j → slice_get rel i ≡ Some l → slice_get rel j ≡ Some m → pair_of l ≢ pair_of m
      apart-at i j l m lt at_i at_j =
          subst (λ (z : RelLine). pair_of l ≢ pair_of z) (get_or_from_slice_get rel j m l at_j)
          (subst (λ (z : RelLine). pair_of z ≢ pair_of (get_or rel j l)) (get_or_from_slice_get rel i l l at_i) (names.apart i j l lt (slice_get_within rel j m at_j)))

  module _ (ases : List ℕ) (a b : ℕ) (cycle : IsProviderCycle rel ases) (two : length ases ≡ 2) (at_a : slice_get ases 0 ≡ Some a) (at_b : slice_get ases 1 ≡ Some b) where
    among : (c : ℕ) → Has ases c → (c ≡ a) ⊎ (c ≡ b)
    among c has = by has.0 has.1
      where
        by : (k : ℕ) → slice_get ases k ≡ Some c → (c ≡ a) ⊎ (c ≡ b)
        by k at = elim (cases_eq k 0) [
          | inl e ↦ inl (same_Some c a (sym at ∙ ap (slice_get ases) e ∙ at_a))
          | inr some ↦
              let within = slice_get_within ases k c at in
              let e : k ≡ 1 = omega (arith, some, within, two) in
              inr (same_Some c b (sym at ∙ ap (slice_get ases) e ∙ at_b))
        ]

    -- one of the two members that has the other one in its cone is its provider
    direct : (x y : ℕ) → Has ases x → x ≢ y → ((c : ℕ) → Has ases c → (c ≡ x) ⊎ (c ≡ y)) → InCone rel y x → InCone rel x y → IsProvider rel x y
    direct x y has ne only back self = absurd (ne refl)
    direct x y has ne only back (under {b = c} {c = d} m p) =
        let round : InCone rel c x = cone-trans rel c d x (under self p) back in
        elim (only c ((cycle.whole x c has).1 (m, round))) [
          | inl e ↦ subst (λ z. IsProvider rel z d) e p
          | inr e ↦ absurd (no-loop d (subst (λ z. IsProvider rel z d) e p))
        ]

    not-two : ⊥
    not-two =
        let less = cycle.rising 0 1 a b (omega arith) at_a at_b in
        let m = (cycle.whole a b (0, at_a)).0 (1, at_b) in
        let down = direct a b (0, at_a) (λ e. omega (arith, less, e)) among m.1 m.0 in
        let up = direct b a (1, at_b) (λ e. omega (arith, less, e)) (λ c has. elim (among c has) [ inl e ↦ inr e | inr e ↦ inl e ]) m.0 m.1 in
        one-way a b less down up

pub three-or-more : CycleSizeLaw
three-or-more rel ases names cycle =
    let many = cycle.many in
    elim (cases_lt (length ases) 3) [
      | inr le ↦ le
      | inl few ↦
          let a = slice_get-some ases 0 (omega (arith, many)) in
          let b = slice_get-some ases 1 (omega (arith, many)) in
          absurd (not-two rel names ases a.0 b.0 cycle (omega (arith, many, few)) a.1 b.1)
    ]

-- ---- acyclic contracts

pub both-true : (p q : Bool) → p && q ≡ true → (p ≡ true) × (q ≡ true)
both-true true q e = (refl, e)
both-true false q e = absurd (false≢true e)

pub and-true : (p q : Bool) → p ≡ true → q ≡ true → p && q ≡ true
and-true true q e f = f
and-true false q e f = absurd (false≢true e)

is-number : (x y : ℕ) → nat_eq x y ≡ true → x ≡ y
is-number x y e = elim (eqb_tells x y) [ inl p ↦ p.1 | inr p ↦ absurd (false≢true (sym p.0 ∙ e)) ]

number-is : (x y : ℕ) → x ≡ y → nat_eq x y ≡ true
number-is x y e = elim (eqb_tells x y) [ inl p ↦ p.0 | inr p ↦ absurd (p.1 e) ]

abbrev has-contract : List (ℕ × ℕ) → ℕ → ℕ → Bool
has-contract [] a b = false
has-contract (c ∷ cs) a b = (nat_eq c.0 a && nat_eq c.1 b) || has-contract cs a b

contract-there : (cs : List (ℕ × ℕ)) (a b : ℕ) → has-contract cs a b ≡ true → HasArc cs a b
contract-there [] a b e = absurd (false≢true e)
contract-there (c ∷ cs) a b e =
    elim (decided (nat_eq c.0 a && nat_eq c.1 b)) [
      | inl t ↦ (let both = both-true (nat_eq c.0 a) (nat_eq c.1 b) t in
          (0, ap (λ z. Some (z, c.1)) (is-number c.0 a both.0) ∙ ap (λ z. Some (a, z)) (is-number c.1 b both.1)))
      | inr f ↦ (let w = contract-there cs a b (subst (λ t. (t || has-contract cs a b) ≡ true) f e) in (suc w.0, w.1))
    ]

there-contract : (cs : List (ℕ × ℕ)) (k a b : ℕ) → slice_get cs k ≡ Some (a, b) → has-contract cs a b ≡ true
there-contract [] k a b at = cc
there-contract (c ∷ cs) zero a b at =
    let e : c ≡ (a, b) = same_Some c (a, b) at in
    ap (λ t. t || has-contract cs a b)
    (and-true (nat_eq c.0 a) (nat_eq c.1 b) (number-is c.0 a (ap (λ (z : ℕ × ℕ). z.0) e)) (number-is c.1 b (ap (λ (z : ℕ × ℕ). z.1) e)))
there-contract (c ∷ cs) (suc k) a b at =
    let rest = there-contract cs k a b at in
    elim (decided (nat_eq c.0 a && nat_eq c.1 b)) [
      | inl t ↦ ap (λ z. z || has-contract cs a b) t
      | inr f ↦ ap (λ z. z || has-contract cs a b) f ∙ rest
    ]

module _ (contracts : List (ℕ × ℕ)) where
  -- all of these are contracts, or one is none
  sought : (ls : List RelLine) → ((k : ℕ) (l : RelLine) → slice_get ls k ≡ Some l → HasArc contracts l.first l.second) ⊎
      ((l : RelLine) × Has ls l × (HasArc contracts l.first l.second → ⊥))
  sought [] = inl (λ k l at. cc)
  sought (m ∷ ls) =
      elim (decided (has-contract contracts m.first m.second)) [
        | inr miss ↦ inr (m, (0, refl), λ w. false≢true (sym miss ∙ there-contract contracts w.0 m.first m.second w.1))
        | inl hit ↦ elim (sought ls) [
          | inr w ↦ inr (w.0, (suc w.1.0, w.1.1), w.2)
          | inl all ↦ inl (λ k l at. every all (contract-there contracts m.first m.second hit) k l at)
        ]
      ]
    where
      every : ((k : ℕ) (l : RelLine) → slice_get ls k ≡ Some l → HasArc contracts l.first l.second) → HasArc contracts m.first m.second →
          (k : ℕ) (l : RelLine) → slice_get (m ∷ ls) k ≡ Some l → HasArc contracts l.first l.second
      every all here_arc zero l at = subst (λ (z : RelLine). HasArc contracts z.first z.second) (same_Some m l at) here_arc
      every all here_arc (suc k) l at = all k l at

-- a line that a test takes stands in the list of these
filtered : (p : RelLine → Bool) (ls : List RelLine) (k : ℕ) (l : RelLine) → slice_get ls k ≡ Some l → p l ≡ true → Has (filter p ls) l
filtered p [] k l at hit = cc
filtered p (m ∷ ls) zero l at hit =
    let e : m ≡ l = same_Some m l at in
    let t : p m ≡ true = ap p e ∙ hit in
    subst (λ b. Has (cond b (m ∷ filter p ls) (filter p ls)) l) (sym t) (0, ap (λ z. Some z) e)
filtered p (m ∷ ls) (suc k) l at hit = behind (p m) (filtered p ls k l at hit)
  where
    behind : (b : Bool) → Has (filter p ls) l → Has (cond b (m ∷ filter p ls) (filter p ls)) l
    behind true w = (suc w.0, w.1)
    behind false w = w

module _ (rel : List RelLine) (ases : List ℕ) (contracts : List (ℕ × ℕ)) (c : IsProviderCycle rel ases)
    (all : (k : ℕ) (l : RelLine) → slice_get (inside_of rel ases) k ≡ Some l → HasArc contracts l.first l.second) where
  -- a transit between two of them is a contract
  step : (a b : ℕ) → Has ases a → Has ases b → IsProvider rel a b → HasArc contracts a b
  step a b has_a has_b p =
      let one_of = has-in ases has_a.0 a has_a.1 in
      let other_of = has-in ases has_b.0 b has_b.1 in
      let hit : is_inside ases (rel_line a b Transit) ≡ true = and-true (is-in ases a) (is-in ases b) one_of other_of in
      let w = filtered (is_inside ases) rel p.0 (rel_line a b Transit) p.1 hit in
      all w.0 (rel_line a b Transit) w.1

  -- a walk of providers between two of them stays inside
  walk : (a b : ℕ) → Has ases a → InCone rel a b → InCone rel b a → Reaches contracts a b
  walk a b has self back = here
  walk a b has (under {b = d} {c = e} m p) back =
      let to_d : InCone rel d a = cone-trans rel d e a (under self p) back in
      let has_d = (c.whole a d has).1 (m, to_d) in
      let has_e = (c.whole a e has).1 (under m p, back) in
      along (walk a d has m to_d) (step d e has_d has_e p)

  -- the last step of such a walk
  closed : (a b : ℕ) → Has ases a → a ≢ b → InCone rel a b → InCone rel b a → IsAcyclic contracts → ⊥
  closed a b has ne self back acyclic = ne refl
  closed a b has ne (under {b = d} {c = e} m p) back acyclic =
      let to_d : InCone rel d a = cone-trans rel d e a (under self p) back in
      let has_d = (c.whole a d has).1 (m, to_d) in
      let has_e = (c.whole a e has).1 (under m p, back) in
      -- from the customer e back to a, and on to its provider d
      acyclic e d (walk e d has_e (cone-trans rel e a d back m) (under self p)) (step d e has_d has_e p)

pub unreal : UnrealTransitLaw
unreal rel ases contracts c acyclic =
    elim (sought contracts (inside_of rel ases)) [
      | inr w ↦ w
      | inl all ↦ (
          let many = c.many in
          let x = slice_get-some ases 0 (omega (arith, many)) in
          let y = slice_get-some ases 1 (omega (arith, many)) in
          let lt = c.rising 0 1 x.0 y.0 (omega arith) x.1 y.1 in
          let m = (c.whole x.0 y.0 (0, x.1)).0 (1, y.1) in
          absurd (closed rel ases contracts c all x.0 y.0 (0, x.1) (λ e. omega (arith, lt, e)) m.0 m.1 acyclic))
    ]
