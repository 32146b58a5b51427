-- Bits of classes.
use Rattle.std.proofs.Common.{◌≡◌, ◌≢◌, ◌⊎◌, ◌↔◌, inl, inr, ℕ, zero, suc, ◌+◌, ◌*◌, ◌%◌, ◌^◌, ◌<◌, ◌≤◌, ◌&&◌, Bool, true, false, get_or, w64, List, Some, length, set, refl, sym, ap, ◌∙◌, subst, arith}
use Rattle.std.specs.Prelude.{slice_get, nat_eq, replicate}
use Rattle.std.specs.Int.{bit_at}
use Rattle.std.specs.Int.RustNames.{bit_or}
use Rattle.std.proofs.lemmas.Bool.{cases_eq, cases_lt}
use Rattle.std.proofs.lemmas.List.{length-set, get_or_past}
use Rattle.std.proofs.lemmas.Nat.Bits.{bit_at-lt, bit_at_or, bit_at-zero, bit_at_set_same, bit_at_set_other}
use Rattle.std.proofs.lemmas.Option.{same_Some, slice_get_within, get_or_from_slice_get}
use Rattle.tor_arena.proofs.Counting.{one}
use Rattle.tor_arena.proofs.Gets.{slice_get-set_cases, slice_get-set_same, slice_get-set_other, slice_get-replicate, slice_get-some}
use Rattle.tor_digraph.specs.Walks.{Net, HasArc, Reaches, IsInside, here, along}
use Rattle.tor_digraph.specs.InRows.{IsRow}
use Rattle.reach_counts.specs.Masks.{HasBit, IsHeadIn, AreBitsPassed, IsRising, ReachesBy, AreBitsBefore, AreReachBits, AreSeeds, is_counted}
use Rattle.reach_counts.specs.Condensing.{IsOfClass}
use Rattle.reach_counts.specs.ReachCounts.{is_marked}
use mir.Val.{bits}

-- ---- a row of heads

-- the bits went to the heads of the first entries
pub record ArePassedTo {A : Type 0} (row : List (A × ℕ)) (bits upto : ℕ) (old new : List ℕ) : Type 0 where
  pub many : length new ≡ length old
  pub is : (k j : ℕ) → HasBit new k j ↔ (HasBit old k j ⊎ ((bit_at bits j ≡ 1) × IsHeadIn upto row k))

or-left : (a b j : ℕ) → bit_at a j ≡ 1 → bit_at (bit_or a b) j ≡ 1
or-left a b j e = let o = bit_at_or a b j in let lt = bit_at-lt b j in omega (arith, o, lt, e)

or-right : (a b j : ℕ) → bit_at b j ≡ 1 → bit_at (bit_or a b) j ≡ 1
or-right a b j e = let o = bit_at_or a b j in let lt = bit_at-lt a j in omega (arith, o, lt, e)

or-one : (a b j : ℕ) → bit_at (bit_or a b) j ≡ 1 → (bit_at a j ≡ 1) ⊎ (bit_at b j ≡ 1)
or-one a b j e =
    elim (cases_eq (bit_at a j) 1) [
      | inl yes_a ↦ inl yes_a
      | inr not_a ↦
          let o = bit_at_or a b j in let lt = bit_at-lt a j in let lt_b = bit_at-lt b j in
          inr (omega (arith, o, lt, lt_b, e, not_a))
    ]

-- a class gets the bits as well
bits-put : (masks : List ℕ) (h m bits : ℕ) → slice_get masks h ≡ Some m → (k j : ℕ) →
    HasBit (set masks h (bit_or m bits)) k j ↔ (HasBit masks k j ⊎ ((k ≡ h) × (bit_at bits j ≡ 1)))
bits-put masks h m bits at k j = (
  λ b. elim (slice_get-set_cases masks h (bit_or m bits) k b.0 b.1) [
    | inl s ↦ elim (or-one m bits j (ap (λ z. bit_at z j) (sym s.1) ∙ b.2)) [
      | inl old ↦ inl (m, ap (slice_get masks) s.0 ∙ at, old)
      | inr new ↦ inr (s.0, new)
    ]
    | inr s ↦ inl (b.0, s.1, b.2)
  ],
  λ w. elim w [
    | inl old ↦ keep old
    | inr new ↦ (
      bit_or m bits,
      subst (λ z. slice_get (set masks h (bit_or m bits)) z ≡ Some (bit_or m bits)) (sym new.0)
          (slice_get-set_same masks h (bit_or m bits) (slice_get_within masks h m at)),
      or-right m bits j new.1,
    )
  ],
)
  where
    keep : HasBit masks k j → HasBit (set masks h (bit_or m bits)) k j
    keep old =
        elim (cases_eq k h) [
          | inl e ↦
              let same : old.0 ≡ m = same_Some old.0 m (sym old.1 ∙ ap (slice_get masks) e ∙ at) in (
                bit_or m bits,
                subst (λ z. slice_get (set masks h (bit_or m bits)) z ≡ Some (bit_or m bits)) (sym e)
                    (slice_get-set_same masks h (bit_or m bits) (slice_get_within masks h m at)),
                or-left m bits j (ap (λ z. bit_at z j) (sym same) ∙ old.2),
              )
          | inr ne ↦ (old.0, slice_get-set_other masks h (bit_or m bits) k ne ∙ old.1, old.2)
        ]

module _ {A : Type 0} (row : List (A × ℕ)) (bits : ℕ) where
  pub passed-none : (masks : List ℕ) → ArePassedTo row bits 0 masks masks
  passed-none masks = record {
    many = refl;
    is = λ k j. (λ b. inl b, λ w. elim w [ inl b ↦ b | inr n ↦ (let lt = n.1.2 in absurd (omega (arith, lt))) ]);
  }

  pub passed-next : (upto : ℕ) (a : A) (h m : ℕ) (old mid new : List ℕ) → slice_get row upto ≡ Some (a, h) → slice_get mid h ≡ Some m →
      new ≡ set mid h (bit_or m bits) → ArePassedTo row bits upto old mid → ArePassedTo row bits (upto + 1) old new
  passed-next upto a h m old mid new at there is p = record {
    many = ap length is ∙ length-set mid h (bit_or m bits) ∙ p.many;
    is = λ k j. (
      λ b. elim ((bits-put mid h m bits there k j).0 (subst (λ l. HasBit l k j) is b)) [
        | inl was ↦ elim ((p.is k j).0 was) [
          | inl first ↦ inl first
          | inr w ↦ (let lt = w.1.2 in inr (w.0, (w.1.0, w.1.1, omega (arith, lt), w.1.3)))
        ]
        | inr now ↦ inr (now.1, (upto, a, omega arith, at ∙ ap (λ z. Some (a, z)) (sym now.0)))
      ],
      λ w. subst (λ l. HasBit l k j) (sym is) ((bits-put mid h m bits there k j).1 (elim w [
        | inl first ↦ inl ((p.is k j).1 (inl first))
        | inr head ↦ elim (cases_lt head.1.0 upto) [
          | inl less ↦ inl ((p.is k j).1 (inr (head.0, (head.1.0, head.1.1, less, head.1.3))))
          | inr le ↦
              let lt = head.1.2 in
              let e : head.1.0 ≡ upto = omega (arith, le, lt) in
              let same : (head.1.1, k) ≡ (a, h) = same_Some (head.1.1, k) (a, h) (sym head.1.3 ∙ ap (slice_get row) e ∙ at) in
              inr (ap (λ (q : A × ℕ). q.1) same, head.0)
        ]
      ])),
    );
  }

-- ---- a class's bits are passed on

-- no bit, no change
pub passed-nothing : (arcs : List (ℕ × ℕ)) (node m : ℕ) (masks : List ℕ) → slice_get masks node ≡ Some m → m ≡ 0 → AreBitsPassed arcs node masks masks
passed-nothing arcs node m masks at none k j = (
  λ b. inl b,
  λ w. elim w [
    | inl b ↦ b
    | inr n ↦
        let same : n.0.0 ≡ m = same_Some n.0.0 m (sym n.0.1 ∙ at) in
        let zero_bit = bit_at-zero j in
        let one_bit : bit_at 0 j ≡ 1 = ap (λ z. bit_at z j) (sym (same ∙ none)) ∙ n.0.2 in
        absurd (omega (arith, zero_bit, one_bit))
  ],
)

-- ---- the classes in rising order

module _ (net : Net ℕ) (source : ℕ → ℕ) (rising : IsRising net.arcs) where
  pub reached-later : (a b : ℕ) → Reaches net.arcs a b → a ≤ b
  reached-later a b here = omega arith
  reached-later a b (along {b = t} {c = v} r arc) = let le = reached-later a t r in let lt = rising t v arc in omega (arith, le, lt)

  -- before the first pass, as long as the sources come from there on, each source alone has its bit
  pub before-none : (from : ℕ) (masks : List ℕ) → ((j : ℕ) → j < 64 → source j < net.nodes → from ≤ source j) →
      ((k j : ℕ) → k < net.nodes → j < 64 → source j < net.nodes → HasBit masks k j ↔ (k ≡ source j)) → AreBitsBefore net source from masks
  before-none from masks later own k j lt lane there = (
    λ b. inl ((own k j lt lane there).0 b),
    λ w. elim w [
      | inl e ↦ (own k j lt lane there).1 e
      | inr n ↦ (let le = reached-later (source j) n.0 n.2 in let low = later j lane there in let less = n.1 in absurd (omega (arith, le, low, less)))
    ],
  )

  -- when a class's turn comes, its bits are those of the sources that reach it
  at-turn : (c : ℕ) (masks : List ℕ) → AreBitsBefore net source c masks → c < net.nodes → (j : ℕ) → j < 64 → source j < net.nodes → HasBit masks c j ↔ Reaches net.arcs (source j) c
  at-turn c masks h lt j lane there = (
    λ b. elim ((h c j lt lane there).0 b) [
      | inl e ↦ subst (λ z. Reaches net.arcs (source j) z) (sym e) here
      | inr n ↦ along n.2 n.3
    ],
    λ r. (h c j lt lane there).1 (by c r),
  )
    where
      by : (k : ℕ) → Reaches net.arcs (source j) k → ReachesBy net k (source j) k
      by k here = inl refl
      by k (along {b = t} {c = v} r arc) = inr (t, rising t v arc, r, arc)

  pub before-next : (c : ℕ) (old new : List ℕ) → AreBitsBefore net source c old → c < net.nodes → AreBitsPassed net.arcs c old new → AreBitsBefore net source (c + 1) new
  before-next c old new h lt_c passed k j lt lane there = (
    λ b. elim ((passed k j).0 b) [
      | inl was ↦ elim ((h k j lt lane there).0 was) [
        | inl e ↦ inl e
        | inr n ↦ (let less = n.1 in inr (n.0, omega (arith, less), n.2, n.3))
      ]
      | inr on ↦ inr (c, omega arith, (at-turn c old h lt_c j lane there).0 on.0, on.1)
    ],
    λ w. (passed k j).1 (elim w [
      | inl e ↦ inl ((h k j lt lane there).1 (inl e))
      | inr n ↦ elim (cases_lt n.0 c) [
        | inl less ↦ inl ((h k j lt lane there).1 (inr (n.0, less, n.2, n.3)))
        | inr le ↦
            let less = n.1 in
            let e : n.0 ≡ c = omega (arith, le, less) in
            inr ((at-turn c old h lt_c j lane there).1 (subst (λ z. Reaches net.arcs (source j) z) e n.2), subst (λ z. HasArc net.arcs z k) e n.3)
      ]
    ]),
  )

  -- behind the last class
  pub before-all : (c : ℕ) (masks : List ℕ) → IsInside (λ n. n) net → net.nodes ≤ c → AreBitsBefore net source c masks → AreReachBits net source masks
  before-all c masks inside all h k j lt lane there = (
    λ b. elim ((h k j lt lane there).0 b) [
      | inl e ↦ subst (λ z. Reaches net.arcs (source j) z) (sym e) here
      | inr n ↦ along n.2 n.3
    ],
    λ r. (h k j lt lane there).1 (by k r),
  )
    where
      by : (y : ℕ) → Reaches net.arcs (source j) y → ReachesBy net c (source j) y
      by y here = inl refl
      by y (along {b = t} {c = v} r arc) = let less = inside.tails arc.0 t v arc.1 in inr (t, omega (arith, less, all), r, arc)

-- ---- the end of a row, and what it means for a class

pub passed-done : {A : Type 0} (row : List (A × ℕ)) (bits upto n : ℕ) (old new : List ℕ) → upto ≡ n → ArePassedTo row bits upto old new →
    (k j : ℕ) → HasBit new k j ↔ (HasBit old k j ⊎ ((bit_at bits j ≡ 1) × IsHeadIn n row k))
passed-done row bits upto n old new e p = subst (λ z. (k j : ℕ) → HasBit new k j ↔ (HasBit old k j ⊎ ((bit_at bits j ≡ 1) × IsHeadIn z row k))) e p.is

pub passed-from : {A : Type 0} (spot : A → ℕ) (arcs : List (ℕ × ℕ)) (node m : ℕ) (row : List (A × ℕ)) (old new : List ℕ) → slice_get old node ≡ Some m →
    IsRow spot arcs node row → ((k j : ℕ) → HasBit new k j ↔ (HasBit old k j ⊎ ((bit_at m j ≡ 1) × IsHeadIn (length row) row k))) → AreBitsPassed arcs node old new
passed-from spot arcs node m row old new at is h k j = (
  λ b. elim ((h k j).0 b) [
    | inl was ↦ inl was
    | inr on ↦ inr ((m, at, on.0), (spot on.1.1, is.only on.1.0 (on.1.1, k) on.1.3))
  ],
  λ w. (h k j).1 (elim w [
    | inl was ↦ inl was
    | inr on ↦
        let same : on.0.0 ≡ m = same_Some on.0.0 m (sym on.0.1 ∙ at) in
        let e = is.each on.1.0 k on.1.1 in
        inr (ap (λ z. bit_at z j) (sym same) ∙ on.0.2, (e.0, e.1, slice_get_within row e.0 (e.1, k) e.2, e.2))
  ]),
)

-- ---- the bit of a lane

pub lane-same : (k : ℕ) → k < 64 → bit_at (1 * 2 ^ k % 2 ^ bits w64) k ≡ 1
lane-same k lt =
    let o = bit_at_or 0 (1 * 2 ^ k % 2 ^ bits w64) k in
    let s = bit_at_set_same w64 0 k lt in
    let z = bit_at-zero k in omega (arith, o, s, z)

pub lane-other : (k j : ℕ) → k < 64 → j ≢ k → bit_at (1 * 2 ^ k % 2 ^ bits w64) j ≡ 0
lane-other k j lt ne =
    let o = bit_at_or 0 (1 * 2 ^ k % 2 ^ bits w64) j in
    let s = bit_at_set_other w64 0 k lt j ne in
    let z = bit_at-zero j in omega (arith, o, s, z)

pub lane-bit : (k j place base : ℕ) → k < 64 → place ≡ base + k → (bit_at (1 * 2 ^ k % 2 ^ bits w64) j ≡ 1) ↔ (place ≡ base + j)
lane-bit k j place base lt e = (
  λ b. elim (cases_eq j k) [
    | inl same ↦ e ∙ ap (λ z. base + z) (sym same)
    | inr ne ↦ (let none = lane-other k j lt ne in absurd (omega (arith, none, b)))
  ],
  λ f. (let same : j ≡ k = omega (arith, e, f) in subst (λ z. bit_at (1 * 2 ^ k % 2 ^ bits w64) z ≡ 1) (sym same) (lane-same k lt)),
)

-- ---- numbers of bits

one-bit : (b : ℕ) → b < 2 → one (true && nat_eq b 1) ≡ b
one-bit zero lt = refl
one-bit (suc zero) lt = refl
one-bit (suc (suc b)) lt = absurd (omega (arith, lt))

pub counted-yes : (marks : List Bool) (of masks : List ℕ) (j x class : ℕ) → is_marked marks x ≡ true → slice_get of x ≡ Some class →
    one (is_counted marks of masks j x) ≡ bit_at (get_or masks class 0) j
counted-yes marks of masks j x class marked is =
    let at : get_or of x 0 ≡ class = get_or_from_slice_get of x class 0 is in
    ap (λ t. one (t && nat_eq (bit_at (get_or masks (get_or of x 0) 0) j) 1)) marked ∙ one-bit (bit_at (get_or masks (get_or of x 0) 0) j) (bit_at-lt _ j) ∙
    ap (λ k. bit_at (get_or masks k 0) j) at

pub counted-no : (marks : List Bool) (of masks : List ℕ) (j x : ℕ) → is_marked marks x ≡ false → one (is_counted marks of masks j x) ≡ 0
counted-no marks of masks j x marked = ap (λ t. one (t && nat_eq (bit_at (get_or masks (get_or of x 0) 0) j) 1)) marked

-- ---- a lane more gets its node

-- no bit yet
pub seeds-none : (of : List ℕ) (base n : ℕ) → AreSeeds of base 0 (replicate n 0)
seeds-none of base n k j lane = (
  λ b. (let e = slice_get-replicate n 0 k b.0 b.1 in
      let none : bit_at 0 j ≡ 1 = ap (λ z. bit_at z j) (sym e) ∙ b.2 in
      let zero_bit = bit_at-zero j in absurd (omega (arith, none, zero_bit))),
  λ w. (let lt = w.0 in absurd (omega (arith, lt))),
)

module _ (of : List ℕ) (base lane : ℕ) (small : lane < 64) where
  pub seeds-next : (class m : ℕ) (old new : List ℕ) → IsOfClass of (base + lane) class → slice_get old class ≡ Some m →
      new ≡ set old class (bit_or m (1 * 2 ^ lane % 2 ^ bits w64)) → AreSeeds of base lane old → AreSeeds of base (lane + 1) new
  seeds-next class m old new is at made h k j in_lane = (
    λ b. elim ((bits-put old class m (1 * 2 ^ lane % 2 ^ bits w64) at k j).0 (subst (λ l. HasBit l k j) made b)) [
      | inl was ↦ (let w = (h k j in_lane).0 was in let lt = w.0 in (omega (arith, lt), w.1))
      | inr now ↦ elim (cases_eq j lane) [
        | inl e ↦ (omega (arith, e), ap (λ z. slice_get of (base + z)) e ∙ is ∙ ap (λ z. Some z) (sym now.0))
        | inr ne ↦ (let none = lane-other lane j small ne in let one_bit = now.1 in absurd (omega (arith, none, one_bit)))
      ]
    ],
    λ w. subst (λ l. HasBit l k j) (sym made) ((bits-put old class m (1 * 2 ^ lane % 2 ^ bits w64) at k j).1 (elim (cases_eq j lane) [
      | inl e ↦ inr (
        same_Some k class (sym w.1 ∙ ap (λ z. slice_get of (base + z)) e ∙ is),
        ap (bit_at (1 * 2 ^ lane % 2 ^ bits w64)) e ∙ lane-same lane small,
      )
      | inr ne ↦ (let lt = w.0 in inl ((h k j in_lane).1 (omega (arith, lt, ne), w.1)))
    ])),
  )

  -- no node is there for the lane
  pub seeds-past : (masks : List ℕ) → length of ≤ base + lane → AreSeeds of base lane masks → AreSeeds of base (lane + 1) masks
  seeds-past masks le h k j in_lane = (
    λ b. (let w = (h k j in_lane).0 b in let lt = w.0 in (omega (arith, lt), w.1)),
    λ w. elim (cases_lt j lane) [
      | inl lt ↦ (h k j in_lane).1 (lt, w.1)
      | inr ge ↦ (let within = slice_get_within of (base + j) k w.1 in absurd (omega (arith, within, le, ge)))
    ],
  )

-- ---- nodes as sources

-- the class of the node of a lane, and where there is no such node the number of the classes
abbrev pub class-or : List ℕ → ℕ → ℕ → ℕ → ℕ
class-or of count base j = get_or of (base + j) count

pub class-or-is : (of : List ℕ) (count base j k : ℕ) → IsOfClass of (base + j) k → class-or of count base j ≡ k
class-or-is of count base j k h = get_or_from_slice_get of (base + j) k count h

-- the seeds are the bits before the first class's turn
pub seeds-own : (of : List ℕ) (count base : ℕ) (masks : List ℕ) → ((x k : ℕ) → IsOfClass of x k → k < count) → AreSeeds of base 64 masks →
    (k j : ℕ) → j < 64 → class-or of count base j < count → HasBit masks k j ↔ (k ≡ class-or of count base j)
seeds-own of count base masks below h k j lane there =
    elim (cases_lt (base + j) (length of)) [
      | inl lt ↦
          let c = slice_get-some of (base + j) lt in
          let e = class-or-is of count base j c.0 c.1 in (
            λ b. same_Some k c.0 (sym ((h k j lane).0 b).1 ∙ c.1) ∙ sym e,
            λ f. (h k j lane).1 (lane, c.1 ∙ ap (λ z. Some z) (sym e ∙ sym f)),
          )
      | inr ge ↦ (let e = get_or_past of (base + j) count ge in absurd (omega (arith, there, e)))
    ]
