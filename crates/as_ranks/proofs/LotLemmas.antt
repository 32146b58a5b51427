-- The cones of 64 ASes, found together.
use Rattle.std.proofs.Common.{◌≡◌, ◌≢◌, ℕ, zero, suc, ◌+◌, ◌<◌, ◌⊎◌, inl, inr, Bool, true, false, cond}
use Rattle.std.proofs.Common.{List, [], ◌∷◌, ◌++◌, length, map, take, filter, get_or, Some, refl, sym, ap, ◌∙◌, subst, arith, length-append, append-nil}
use Rattle.std.specs.Prelude.{slice_get, nat_eq, Option, None}
use Rattle.std.specs.Option.{is_some}
use Rattle.std.specs.Int.{bit_at}
use Rattle.std.specs.List.{AllPairs}
use Rattle.std.proofs.lemmas.Bool.{cases_lt, false≢true}
use Rattle.std.proofs.lemmas.Bool.Decides.{eqb_tells}
use Rattle.std.proofs.lemmas.List.{map-append}
use Rattle.std.proofs.lemmas.List.Elements.{filter_more}
use Rattle.std.proofs.lemmas.List.Kept.{AllPairs-filter}
use Rattle.std.proofs.lemmas.Nat.Bits.{bit_at-zero}
use Rattle.std.proofs.lemmas.Option.{same_Some, slice_get_within, slice_get-get_or, get_or_from_slice_get}
use Rattle.tor_arena.proofs.Gets.{slice_get-map, slice_get-unmap, slice_get-some, slice_get-push_cases, slice_get-push_old, slice_get-push_last}
use Rattle.tor_digraph.specs.Walks.{Net, Reaches, here, along}
use Rattle.tor_digraph.specs.Closing.{Has, IsOnce}
use Rattle.tor_digraph.specs.Links.{NoArcIn, IsLatest}
use Rattle.tor_solve.specs.Classes.{Classes}
use Rattle.reach_counts.specs.Condensing.{IsOfClass}
use Rattle.reach_counts.specs.Cycles.{IsRisingList}
use Rattle.reach_counts.specs.Masks.{AreNodeBits}
use Rattle.reach_counts.proofs.Batching.{is-one, one-is}
use Rattle.as_rel.specs.declared.line.RelLine.{RelLine}
use Rattle.as_ranks.specs.declared.cones.Member.{Member}
use Rattle.as_ranks.specs.Named.{IsNetOf}
use Rattle.as_ranks.specs.Cones.{IsCone}
use Rattle.as_ranks.specs.Lots.{AreGathered, IsNodeCone, picked}
use Rattle.as_ranks.proofs.NetLemmas.{cone-reaches, member-reached}
use Rattle.as_ranks.proofs.Rising.{rising-at, rising-once}

-- ---- what a test takes

module _ {X : Type 0} (p : X → Bool) where
  has-cond : (b : Bool) (x : X) (ys : List X) (k : ℕ) (y : X) → slice_get (cond b (x ∷ ys) ys) k ≡ Some y → ((b ≡ true) × (x ≡ y)) ⊎ Has ys y
  has-cond true x ys zero y at = inl (refl, same_Some x y at)
  has-cond true x ys (suc k) y at = inr (k, at)
  has-cond false x ys k y at = inr (k, at)

  filter-old : (xs : List X) (k : ℕ) (y : X) → slice_get (filter p xs) k ≡ Some y → Has xs y × (p y ≡ true)
  filter-old [] k y at = cc at
  filter-old (x ∷ xs) k y at =
      elim (has-cond (p x) x (filter p xs) k y at) [
        | inl e ↦ ((0, ap (λ z. Some z) e.1), ap p (sym e.1) ∙ e.0)
        | inr more ↦ let r = filter-old xs more.0 y more.1 in ((suc r.0.0, r.0.1), r.1)
      ]

  cond-first : (b : Bool) (x : X) (ys : List X) → b ≡ true → Has (cond b (x ∷ ys) ys) x
  cond-first true x ys e = (0, refl)
  cond-first false x ys e = absurd (false≢true e)

  cond-later : (b : Bool) (x : X) (ys : List X) (y : X) → Has ys y → Has (cond b (x ∷ ys) ys) y
  cond-later true x ys y h = (suc h.0, h.1)
  cond-later false x ys y h = h

  filter-new : (xs : List X) (k : ℕ) (y : X) → slice_get xs k ≡ Some y → p y ≡ true → Has (filter p xs) y
  filter-new [] k y at e = cc at
  filter-new (x ∷ xs) zero y at e =
      let same : x ≡ y = same_Some x y at in
      subst (Has (cond (p x) (x ∷ filter p xs) (filter p xs))) same (cond-first (p x) x (filter p xs) (ap p same ∙ e))
  filter-new (x ∷ xs) (suc k) y at e = cond-later (p x) x (filter p xs) y (filter-new xs k y at e)

-- ---- gathering

abbrev number-of : Member → ℕ
number-of m = m.number

module _ (ases of masks : List ℕ) where
  pub gathered-none : AreGathered ases of masks 0 []
  gathered-none = record {
    few = omega arith;
    each = λ i m at. cc at;
    all = λ x a bits lt at has some. absurd (omega (arith, lt));
    rising = λ i j m n lt at_i at_j. cc at_i;
  }

  module _ (x k bits number : ℕ) (members : List Member) (cls : IsOfClass of x k) (mask : slice_get masks k ≡ Some bits) (at : slice_get ases x ≡ Some number)
      (h : AreGathered ases of masks x members) where
    pub gathered-miss : bits ≡ 0 → AreGathered ases of masks (x + 1) members
    gathered-miss none = record {
      few = (let few = h.few in omega (arith, few));
      each = λ i m at_i. (let w = h.each i m at_i in let lt = w.1 in (w.0, omega (arith, lt), w.2, w.3));
      all = λ y a b lt at_y has some. elim (cases_lt y x) [
        | inl less ↦ h.all y a b less at_y has some
        | inr le ↦
            let e : y ≡ x = omega (arith, lt, le) in
            let class_is : has.0 ≡ k = same_Some has.0 k (sym has.1 ∙ ap (slice_get of) e ∙ cls) in
            let bits_is : b ≡ bits = same_Some b bits (sym has.2 ∙ ap (slice_get masks) class_is ∙ mask) in
            absurd (some (bits_is ∙ none))
      ];
      rising = h.rising;
    }

    abbrev member : Member
    member = record { number = number; bits = bits }

    pub gathered-hit : IsRisingList ases → (new : List Member) → new ≡ members ++ member ∷ [] → AreGathered ases of masks (x + 1) new
    gathered-hit up new is = subst (AreGathered ases of masks (x + 1)) (sym is) (record {
      few = (let few = h.few in let e = length-append members (member ∷ []) in omega (arith, few, e));
      each = λ i m at_i. elim (slice_get-push_cases members member i m at_i) [
        | inl old ↦ (let w = h.each i m old in let lt = w.1 in (w.0, omega (arith, lt), w.2, w.3))
        | inr last ↦
            (x, omega arith, at ∙ ap (λ (z : Member). Some z.number) (sym last.1), (k, cls, mask ∙ ap (λ (z : Member). Some z.bits) (sym last.1)))
      ];
      all = λ y a b lt at_y has some. elim (cases_lt y x) [
        | inl less ↦ (let w = h.all y a b less at_y has some in (w.0, (w.1.0, slice_get-push_old members (member ∷ []) w.1.0 w.0 w.1.1), w.2))
        | inr le ↦
            let e : y ≡ x = omega (arith, lt, le) in
            (member, (length members, slice_get-push_last members member), same_Some number a (sym at ∙ ap (slice_get ases) (sym e) ∙ at_y))
      ];
      rising = λ i j m n lt at_i at_j. elim (slice_get-push_cases members member j n at_j) [
        | inl old_j ↦
            let within = slice_get_within members j n old_j in
            elim (slice_get-push_cases members member i m at_i) [
              | inl old_i ↦ h.rising i j m n lt old_i old_j
              | inr last_i ↦ let e = last_i.0 in absurd (omega (arith, e, lt, within))
            ]
        | inr last_j ↦ elim (slice_get-push_cases members member i m at_i) [
          | inl old_i ↦
              let w = h.each i m old_i in
              subst (λ (z : Member). m.number < z.number) (sym last_j.1) (up w.0 x m.number number w.1 w.2 at)
          | inr last_i ↦ let e = last_i.0 in let f = last_j.0 in absurd (omega (arith, e, f, lt))
        ]
      ];
    })

-- ---- picking

module _ (lane : ℕ) where
  abbrev has-lane : Member → Bool
  has-lane m = nat_eq (bit_at m.bits lane) 1

  picked-more : (ms : List Member) (k : ℕ) (d : Member) → k < length ms →
      picked lane (take (k + 1) ms) ≡ picked lane (take k ms) ++ map number-of (cond (has-lane (get_or ms k d)) (get_or ms k d ∷ []) [])
  picked-more ms k d lt =
      ap (map number-of) (filter_more has-lane ms k d lt) ∙ map-append number-of (filter has-lane (take k ms)) (cond (has-lane (get_or ms k d)) (get_or ms k d ∷ []) [])

  pub picked-hit : (ms : List Member) (k : ℕ) (d : Member) (row new : List ℕ) → k < length ms → bit_at (get_or ms k d).bits lane ≡ 1 →
      row ≡ picked lane (take k ms) → new ≡ row ++ (get_or ms k d).number ∷ [] → new ≡ picked lane (take (k + 1) ms)
  picked-hit ms k d row new lt hit before put =
      put ∙ ap (λ r. r ++ (get_or ms k d).number ∷ []) before
      ∙ ap (λ b. picked lane (take k ms) ++ map number-of (cond b (get_or ms k d ∷ []) [])) (sym (one-is (bit_at (get_or ms k d).bits lane) hit))
      ∙ sym (picked-more ms k d lt)

  pub picked-miss : (ms : List Member) (k : ℕ) (d : Member) (row : List ℕ) → k < length ms → bit_at (get_or ms k d).bits lane ≢ 1 →
      row ≡ picked lane (take k ms) → row ≡ picked lane (take (k + 1) ms)
  picked-miss ms k d row lt miss before =
      before ∙ sym (append-nil (picked lane (take k ms)))
      ∙ ap (λ b. picked lane (take k ms) ++ map number-of (cond b (get_or ms k d ∷ []) [])) (sym (not-one (bit_at (get_or ms k d).bits lane) miss))
      ∙ sym (picked-more ms k d lt)
    where
      not-one : (n : ℕ) → n ≢ 1 → nat_eq n 1 ≡ false
      not-one n ne = elim (eqb_tells n 1) [ inl p ↦ absurd (ne p.1) | inr p ↦ p.0 ]

-- ---- one cone

module _ (ases : List ℕ) (net : Net ℕ) (up : IsRisingList ases) where
  once : IsOnce ases
  once = rising-once ases up

  -- an AS from which no arc leads
  pub alone : (x a : ℕ) → slice_get ases x ≡ Some a → NoArcIn net.arcs x 0 (length net.arcs) → IsNodeCone ases net x (a ∷ [])
  alone x a at none = record {
    rising = λ i j b c lt at_i at_j. (let within = slice_get_within (a ∷ []) j c at_j in absurd (omega (arith, lt, within)));
    members = λ b. (
      λ has. (let within = slice_get_within (a ∷ []) has.0 b has.1 in let e : has.0 ≡ 0 = omega (arith, within) in
          (x, at ∙ ap (λ k. slice_get (a ∷ []) k) (sym e) ∙ has.1, here)),
      λ w. (0, sym at ∙ ap (slice_get ases) (sym (stays w.2)) ∙ w.1),
    );
  }
    where
      stays : {y : ℕ} → Reaches net.arcs x y → y ≡ x
      stays here = refl
      stays (along {b = u} {c = v} r arc) =
          let e = stays r in
          let begins : slice_get net.arcs arc.0 ≡ Some (x, v) = arc.1 ∙ ap (λ z. Some (z, v)) e in
          absurd (none arc.0 v (omega arith) (slice_get_within net.arcs arc.0 (x, v) begins) begins)

  module _ (parts : Classes) (base lane : ℕ) (masks : List ℕ) (members : List Member) (aligned : net.nodes ≡ length ases) (many : length parts.of ≡ net.nodes)
      (short : lane < 64) (there : base + lane < net.nodes) (bits : AreNodeBits net parts.of base masks) (h : AreGathered ases parts.of masks (length ases) members) where
    rising-numbers : (ms : List Member) → AllPairs (λ (m n : Member). m.number < n.number) ms → IsRisingList (map number-of ms)
    rising-numbers ms pairs i j x y lt at_i at_j =
        let u = slice_get-unmap number-of ms i x at_i in
        let v = slice_get-unmap number-of ms j y at_j in
        let less = pairs i j u.0 lt (slice_get_within ms j v.0 v.1) in
        let x_is : (get_or ms i u.0).number ≡ x = ap number-of (get_or_from_slice_get ms i u.0 u.0 u.1) ∙ u.2 in
        let y_is : (get_or ms j u.0).number ≡ y = ap number-of (get_or_from_slice_get ms j v.0 u.0 v.1) ∙ v.2 in
        omega (arith, less, x_is, y_is)

    all-pairs : AllPairs (λ (m n : Member). m.number < n.number) members
    all-pairs i j d lt within = h.rising i j (get_or members i d) (get_or members j d) lt (slice_get-get_or members i d (omega (arith, lt, within))) (slice_get-get_or members j d within)

    from-row : (b k : ℕ) → slice_get (picked lane members) k ≡ Some b → (y : ℕ) × (slice_get ases y ≡ Some b) × Reaches net.arcs (base + lane) y
    from-row b k at =
        let w = slice_get-unmap number-of (filter (has-lane lane) members) k b at in
        let f = filter-old (has-lane lane) members k w.0 w.1 in
        let e = h.each f.0.0 w.0 f.0.1 in
        let bit : bit_at w.0.bits lane ≡ 1 = is-one (bit_at w.0.bits lane) f.1 in
        (e.0, e.2 ∙ ap (λ z. Some z) w.2, (bits e.0 e.3.0 lane short there e.3.1).0 (w.0.bits, e.3.2, bit))

    to-row : (b y : ℕ) → slice_get ases y ≡ Some b → Reaches net.arcs (base + lane) y → Has (picked lane members) b
    to-row b y at r =
        let lt = slice_get_within ases y b at in
        let class = slice_get-some parts.of y (omega (arith, lt, aligned, many)) in
        let bit = (bits y class.0 lane short there class.1).1 r in
        let some : bit.0 ≢ 0 = λ e. (let zero_bit = bit_at-zero lane in let one_bit : bit_at 0 lane ≡ 1 = ap (λ z. bit_at z lane) (sym e) ∙ bit.2 in absurd (omega (arith, zero_bit, one_bit))) in
        let w = h.all y b bit.0 lt at (class.0, class.1, bit.1) some in
        let e = h.each w.1.0 w.0 w.1.1 in
        let place : e.0 ≡ y = once e.0 y b (e.2 ∙ ap (λ z. Some z) w.2) at in
        let class_is : e.3.0 ≡ class.0 = same_Some e.3.0 class.0 (sym e.3.1 ∙ ap (slice_get parts.of) place ∙ class.1) in
        let bits_is : w.0.bits ≡ bit.0 = same_Some w.0.bits bit.0 (sym e.3.2 ∙ ap (slice_get masks) class_is ∙ bit.1) in
        let kept = filter-new (has-lane lane) members w.1.0 w.0 w.1.1 (one-is (bit_at w.0.bits lane) (ap (λ z. bit_at z lane) bits_is ∙ bit.2)) in
        (kept.0, slice_get-map number-of (filter (has-lane lane) members) kept.0 w.0 kept.1 ∙ ap (λ z. Some z) w.2)

    pub lot-cone : IsNodeCone ases net (base + lane) (picked lane members)
    lot-cone = record {
      rising = rising-numbers (filter (has-lane lane) members) (AllPairs-filter (λ (m n : Member). m.number < n.number) (has-lane lane) members all-pairs);
      members = λ b. (λ has. from-row b has.0 has.1, λ w. to-row b w.0 w.1 w.2);
    }

-- equal ASes, digraphs and nodes have the same cone
pub node-cone-same : {ases more : List ℕ} {net other : Net ℕ} {x y : ℕ} {row : List ℕ} → ases ≡ more → net ≡ other → x ≡ y → IsNodeCone ases net x row → IsNodeCone more other y row
node-cone-same {more = more} {net = net} {other = other} {x = x} {y = y} {row = row} e f g h =
    subst (λ z. IsNodeCone more other z row) g (subst (λ z. IsNodeCone more z x row) f (subst (λ z. IsNodeCone z net x row) e h))

-- there is no latest arc, so there is none
pub no-arc : {A : Type 0} (spot : A → ℕ) (arcs : List (ℕ × ℕ)) (u high : ℕ) (r : Option A) → IsLatest spot arcs u high r → is_some r ≡ false → NoArcIn arcs u 0 high
no-arc spot arcs u high None h e = h
no-arc spot arcs u high (Some a) h e = absurd (false≢true (sym e))

-- the same of the AS
pub cone-of-node : (rel : List RelLine) (ases : List ℕ) (net : Net ℕ) (x a : ℕ) (row : List ℕ) → IsNetOf rel ases net → slice_get ases x ≡ Some a →
    IsNodeCone ases net x row → IsCone rel (record { of = a; members = row })
cone-of-node rel ases net x a row h at c =
    let once = rising-once ases (rising-at ases h.names.rising) in record {
      rising = c.rising;
      exact = λ b. (
        λ has. (let w = (c.members b).0 has in (cone-reaches rel ases net h.arcs once x w.0 a b at w.1).1 w.2),
        λ m. (let w = member-reached rel ases net h.arcs once a x at m in (c.members b).1 (w.0, w.1, w.2)),
      );
    }
