-- Closing order makes the nodes that reach a root, and have no class yet, its class.
use Rattle.std.proofs.Common.{◌≡◌, ℕ, zero, suc, ◌+◌, ◌<◌, ◌≤◌, ◌⊎◌, inl, inr, List, [], ◌∷◌, ◌++◌, Some, None, length, drop, sym, ◌∙◌, ap, subst, arith}
use Rattle.std.specs.Prelude.{slice_get}
use Rattle.std.proofs.lemmas.Bool.{cases_lt, cases_eq}
use Rattle.std.proofs.lemmas.Option.{same_Some, slice_get_within}
use Rattle.std.proofs.lemmas.List.{length_push}
use Rattle.tor_digraph.specs.Walks.{Net, IsArc, HasArc, IsInside, Reaches, here, along}
use Rattle.tor_digraph.specs.Closing.{Has, IsOnce, IsClosing}
use Rattle.tor_digraph.specs.Reached.{IsGrown}
use Rattle.tor_digraph.proofs.Closings.{reaches_trans, same_arc}
use Rattle.tor_arena.proofs.Gets.{has-from_Contains, slice_get-some, slice_get-push_old, slice_get-push_cases, slice_get-push_last}
use Rattle.tor_solve.specs.Classes.{IsClass, IsClassed, IsComponents, IsReversed, IsReversedTo}

module _ {N : Type 0} (arcs : List (N × N)) where
  -- what holds at the end of a walk, and goes back along arcs, holds at its start
  pub walk-back : (S : N → Type 0) → ((x y : N) → HasArc arcs x y → S y → S x) → (x y : N) → Reaches arcs x y → S y → S x
  walk-back S back x y w s = go w s
    where
      go : {y : N} → Reaches arcs x y → S y → S x
      go here s = s
      go (along {b} {c} r arc) s = go r (back b c arc s)

-- on the way of a walk from x, the farthest place of the list at which it was reaches x, and y is not beyond it
record Climb {N : Type 0} (arcs : List (N × N)) (nodes : List N) (i : ℕ) (x y : N) : Type 0 where
  top : ℕ
  node : N
  at_top : slice_get nodes top ≡ Some node
  low : top ≤ i
  back : Reaches arcs node x
  under : ℕ
  below : under ≤ top
  at_under : slice_get nodes under ≡ Some y

module _ {N : Type 0} (arcs : List (N × N)) (nodes : List N) (closing : IsClosing arcs nodes) (i : ℕ) (root x : N) (placed : (z : N) →
    Reaches arcs x z → Reaches arcs z root → (q : ℕ) × (q ≤ i) × (slice_get nodes q ≡ Some z)) where
  climb : {y : N} → Reaches arcs x y → Reaches arcs y root → Climb arcs nodes i x y
  climb here to = let p = placed x here to in record { top = p.0; node = x; at_top = p.2; low = p.1; back = here; under = p.0; below = omega arith; at_under = p.2 }
  climb (along {b} {c} r arc) to =
      let w = climb r (reaches_trans (along here arc) to) in
      let p = placed c (along r arc) to in
      elim (closing.exits w.top w.node w.at_top w.under b c w.below w.at_under arc) [
        | inl h ↦ record { top = w.top; node = w.node; at_top = w.at_top; low = w.low; back = w.back; under = h.0; below = (let lt : h.0 < w.top = h.1 in omega arith); at_under = h.2 }
        | inr rc ↦ elim (cases_lt w.top p.0) [
          | inl lt ↦ record { top = p.0; node = c; at_top = p.2; low = p.1; back = reaches_trans rc w.back; under = p.0; below = omega arith; at_under = p.2 }
          | inr le ↦ record { top = w.top; node = w.node; at_top = w.at_top; low = w.low; back = w.back; under = p.0; below = le; at_under = p.2 }
        ]
      ]

  pub root-reaches : slice_get nodes i ≡ Some root → Reaches arcs x root → Reaches arcs root x
  root-reaches at r =
      let w = climb r here in
      let same : w.under ≡ i = closing.once w.under i root w.at_under at in
      let below : w.under ≤ w.top = w.below in
      let low : w.top ≤ i = w.low in
      let top : w.top ≡ i = omega arith in
      subst (λ z. Reaches arcs z x) (same_Some w.node root (sym w.at_top ∙ subst (λ k. slice_get nodes k ≡ Some root) (sym top) at)) w.back

module _ {N : Type 0} (arcs back : List (N × N)) (from : (x y : N) → HasArc arcs x y → HasArc back y x) (to : (x y : N) → HasArc back y x → HasArc arcs x y) where
  pub reversed : (y x : N) → Reaches back y x → Reaches arcs x y
  reversed y x w = go w
    where
      go : {x : N} → Reaches back y x → Reaches arcs x y
      go here = here
      go (along {b} {c} r arc) = reaches_trans (along here (to c b arc)) (go r)

module _ {N : Type 0} (back : List (N × N)) where
  pub grown-cases : (root : N) (old new : List N) (x : N) → IsOnce new → IsGrown back root old new → Has new x → Has old x ⊎ ((Has old x → ⊥) × Reaches back root x)
  grown-cases root old new x once w h = elim (cases_lt h.0 (length old)) [
    | inl lt ↦ (let y = slice_get-some old h.0 lt in inl (h.0, y.1 ∙ sym (w.kept h.0 y.0 y.1) ∙ h.1))
    | inr le ↦ inr ((λ o. (let lt : o.0 < length old = slice_get_within old o.0 x o.1 in let same : o.0 ≡ h.0 = once o.0 h.0 x (w.kept o.0 x o.1) h.1 in omega arith)), w.more h.0 x le h.1)
  ]

  pub grown-old : (root : N) (old new : List N) (x : N) → IsGrown back root old new → Has old x → Has new x
  grown-old root old new x w h = (h.0, w.kept h.0 x h.1)

module _ {N : Type 0} (place : N → ℕ) (arcs back : List (N × N)) (from : (x y : N) → HasArc arcs x y → HasArc back y x) (to : (x y : N) → HasArc back y x → HasArc arcs x y)
    (nodes : List N) (closing : IsClosing arcs nodes) (all : (x y : N) → HasArc arcs x y → Has nodes x) (i : ℕ) (root : N) (at : slice_get nodes i ≡ Some root)
    (old new : List N) (later : (k : ℕ) (x : N) → i < k → slice_get nodes k ≡ Some x → Has old x) (closed : (x y : N) → Has old x → HasArc back x y →
    Has old y) (closed' : (x y : N) → Has new x → HasArc back x y → Has new y)
    (fresh : Has old root → ⊥) (once : IsOnce new) (grown : IsGrown back root old new) where
  -- a node that is new reaches the root, and the root reaches it
  to-root : (x : N) → Reaches back root x → Reaches arcs x root
  to-root x r = reversed arcs back from to root x r

  from-root : (x : N) → (Has old x → ⊥) → Reaches back root x → Reaches arcs root x
  from-root x out r = root-reaches arcs nodes closing i root x placed at (to-root x r)
    where
      placed : (z : N) → Reaches arcs x z → Reaches arcs z root → (q : ℕ) × (q ≤ i) × (slice_get nodes q ≡ Some z)
      placed z xz zr =
          let h = walk-back arcs (λ n. Has nodes n) (λ u v arc _. all u v arc) z root zr (i, at) in
          elim (cases_lt i h.0) [
            | inl lt ↦ absurd (out (walk-back arcs (λ n. Has old n) (λ u v arc s. closed v u s (from u v arc)) x z xz (later h.0 z lt h.1)))
            | inr le ↦ (h.0, le, h.1)
          ]

  pub classed-more : (of of' : List ℕ) (count : ℕ) → IsClassed place arcs old of count →
      ((x : N) → Has new x → (Has old x → ⊥) → IsClass place of' x count) → ((x : N) → Has old x → slice_get of' (place x) ≡ slice_get of (place x)) →
      IsClassed place arcs new of' (count + 1)
  classed-more of of' count c marked kept = record {
    below = λ x k h at'. elim (grown-cases back root old new x once grown h) [
      | inl o ↦ (let lt : k < count = c.below x k o (sym (kept x o) ∙ at') in omega arith)
      | inr p ↦ (let e : count ≡ k = same_Some count k (sym (marked x h p.0) ∙ at') in omega arith)
    ];
    each = λ k lt. elim (cases_lt k count) [
      | inl less ↦ (let w = c.each k less in (w.0, grown-old back root old new w.0 grown w.1, kept w.0 w.1 ∙ w.2))
      | inr le ↦ (let e : count ≡ k = omega arith in (
        root,
        has-from_Contains new root grown.has_start,
        subst (λ z. slice_get of' (place root) ≡ Some z) e (marked root (has-from_Contains new root grown.has_start) fresh),
      ))
    ];
    same = λ x y k hx hy cx cy. elim (grown-cases back root old new x once grown hx) [
      | inl ox ↦ elim (grown-cases back root old new y once grown hy) [
        | inl oy ↦ c.same x y k ox oy (sym (kept x ox) ∙ cx) (sym (kept y oy) ∙ cy)
        | inr py ↦ (let lt : k < count = c.below x k ox (sym (kept x ox) ∙ cx) in let e : count ≡ k = same_Some count k (sym (marked y hy py.0) ∙ cy) in absurd (omega arith))
      ]
      | inr px ↦ elim (grown-cases back root old new y once grown hy) [
        | inl oy ↦ (let lt : k < count = c.below y k oy (sym (kept y oy) ∙ cy) in let e : count ≡ k = same_Some count k (sym (marked x hx px.0) ∙ cx) in absurd (omega arith))
        | inr py ↦ reaches_trans (to-root x px.1) (from-root y py.0 py.1)
      ]
    ];
    order = λ x y j k hy arc cx cy. elim (grown-cases back root old new y once grown hy) [
      | inl oy ↦ (let ox = closed y x oy (from x y arc) in c.order x y j k oy arc (sym (kept x ox) ∙ cx) (sym (kept y oy) ∙ cy))
      | inr py ↦ (let hx = closed' y x hy (from x y arc) in let e : count ≡ k = same_Some count k (sym (marked y hy py.0) ∙ cy) in elim (grown-cases back root old new x once grown hx) [
        | inl ox ↦ (let lt : j < count = c.below x j ox (sym (kept x ox) ∙ cx) in omega arith)
        | inr px ↦ (let e' : count ≡ j = same_Some count j (sym (marked x hx px.0) ∙ cx) in omega arith)
      ])
    ];
  }

module _ {N : Type 0} (place : N → ℕ) (net : Net N) where
  pub classed-none : (of : List ℕ) (none : List N) → none ≡ [] → IsClassed place net.arcs none of 0
  classed-none of none e = subst (λ z. IsClassed place net.arcs z of 0) (sym e) (record {
    below = λ x k h. (let bad : None ≡ Some x = h.1 in cc);
    each = λ k lt. absurd (omega arith);
    same = λ x y k h. (let bad : None ≡ Some x = h.1 in cc);
    order = λ x y j k h. (let bad : None ≡ Some y = h.1 in cc);
  })

  walk-order : (nodes : List N) (of : List ℕ) (count : ℕ) → IsClassed place net.arcs nodes of count → ((x : N) → place x < length of → Has nodes x) →
      ((x y : N) → HasArc net.arcs x y → place x < length of) → (x : N) (j : ℕ) → IsClass place of x j → {y : N} → Reaches net.arcs x y → (k : ℕ) →
      IsClass place of y k → j ≤ k
  walk-order nodes of count w has tails x j cx here k cy = let e : j ≡ k = same_Some j k (sym cx ∙ cy) in omega arith
  walk-order nodes of count w has tails x j cx (along {b} {c} r arc) k cy =
      let m = slice_get-some of (place b) (tails b c arc) in
      let low : j ≤ m.0 = walk-order nodes of count w has tails x j cx r m.0 m.1 in
      let high : m.0 ≤ k = w.order b c m.0 k (has c (slice_get_within of (place c) k cy)) arc m.1 cy in
      omega arith

  pub classed-done : (nodes : List N) (of : List ℕ) (count : ℕ) → IsClassed place net.arcs nodes of count →
      ((x : N) → place x < net.nodes → Has nodes x) → IsInside place net → length of ≡ net.nodes →
      IsComponents place net (record { of = of; count = count })
  classed-done nodes of count c all inside many = record {
    many = many;
    same = λ x y j k cx cy. (
      (λ e. (
        c.same x y k (has x (slice_get_within of (place x) j cx)) (has y (slice_get_within of (place y) k cy)) (cx ∙ ap Some e) cy,
        c.same y x k (has y (slice_get_within of (place y) k cy)) (has x (slice_get_within of (place x) j cx)) cy (cx ∙ ap Some e),
      )),
      (λ r. (let a : j ≤ k = walk-order nodes of count c has tails x j cx r.0 k cy in let b : k ≤ j = walk-order nodes of count c has tails y k cy r.1 j cx in omega arith)),
    );
    order = λ x y j k arc cx cy. c.order x y j k (has y (slice_get_within of (place y) k cy)) arc cx cy;
    below = λ x k cx. c.below x k (has x (slice_get_within of (place x) k cx)) cx;
    each = λ k lt. (let w = c.each k lt in (w.0, w.2));
  }
    where
      has : (x : N) → place x < length of → Has nodes x
      has x lt = all x (subst (λ z. place x < z) many lt)

      tails : (x y : N) → HasArc net.arcs x y → place x < length of
      tails x y arc = subst (λ z. place x < z) (sym many) (inside.tails arc.0 x y arc.1)

module _ {N : Type 0} where
  has-drop : (n : ℕ) (xs : List N) (k : ℕ) (x : N) → slice_get (drop n xs) k ≡ Some x → (j : ℕ) × (n ≤ j) × (slice_get xs j ≡ Some x)
  has-drop zero xs k x e = (k, omega arith, e)
  has-drop (suc n) [] k x e = cc
  has-drop (suc n) (y ∷ xs) k x e = let r = has-drop n xs k x e in let le : n ≤ r.0 = r.1 in (suc r.0, omega arith, r.2)

  drop-has : (n : ℕ) (xs : List N) (j : ℕ) (x : N) → n ≤ j → slice_get xs j ≡ Some x → Has (drop n xs) x
  drop-has zero xs j x le e = (j, e)
  drop-has (suc n) [] j x le e = cc
  drop-has (suc n) (y ∷ xs) zero x le e = absurd (omega arith)
  drop-has (suc n) (y ∷ xs) (suc j) x le e = drop-has n xs j x (omega arith) e

  pub later-more : (order : List N) (i left : ℕ) (root : N) (old new : List N) → left ≡ i + 1 → slice_get order i ≡ Some root → Has new root →
      ((x : N) → Has old x → Has new x) → ((k : ℕ) (x : N) → left ≤ k → slice_get order k ≡ Some x → Has old x) → (k : ℕ) (x : N) → i ≤ k →
      slice_get order k ≡ Some x → Has new x
  later-more order i left root old new e at has grow later k x le at' = elim (cases_eq k i) [
    | inl q ↦ subst (λ z. Has new z) (same_Some root x (sym at ∙ subst (λ z. slice_get order z ≡ Some x) q at')) has
    | inr ne ↦ grow x (later k x (omega arith) at')
  ]

module _ {N : Type 0} (back : List (N × N)) (root : N) (old new : List N) (grown : IsGrown back root old new) where
  pub grown-longer : (a b : List N) → a ≡ old → b ≡ new → length a ≤ length b
  grown-longer a b e e' = rw (e, e') (elim (cases_lt (length new) (length old)) [
    | inl lt ↦ (let y = slice_get-some old (length new) lt in let bad : length new < length new = slice_get_within new (length new) y.0 (grown.kept (length new) y.0 y.1) in absurd (omega arith))
    | inr le ↦ le
  ])

  pub fresh-new : (a b f : List N) → a ≡ old → b ≡ new → f ≡ drop (length a) b → (x : N) → Has new x → (Has old x → ⊥) → Has f x
  fresh-new a b f e e' e'' x h out = rw (e'', e, e') (elim (cases_lt h.0 (length old)) [
    | inl lt ↦ (let y = slice_get-some old h.0 lt in absurd (out (h.0, y.1 ∙ sym (grown.kept h.0 y.0 y.1) ∙ h.1)))
    | inr le ↦ drop-has (length old) new h.0 x le h.1
  ])

  pub fresh-old : (a b f : List N) → a ≡ old → b ≡ new → f ≡ drop (length a) b → IsOnce new → (x : N) → Has old x → Has f x → ⊥
  fresh-old a b f e e' e'' once x o h =
      let h' = subst (λ z. Has z x) (e'' ∙ ap (λ z. drop (length z) b) e ∙ ap (λ z. drop (length old) z) e') h in
      let r = has-drop (length old) new h'.0 x h'.1 in
      let lt : o.0 < length old = slice_get_within old o.0 x o.1 in
      let same : o.0 ≡ r.0 = once o.0 r.0 x (grown.kept o.0 x o.1) r.2 in
      let le : length old ≤ r.0 = r.1 in
      omega arith

  pub fresh-has : (a b f : List N) → a ≡ old → b ≡ new → f ≡ drop (length a) b → (x : N) → Has f x → Has new x
  fresh-has a b f e e' e'' x h =
      let h' = subst (λ z. Has z x) (e'' ∙ ap (λ z. drop (length z) b) e ∙ ap (λ z. drop (length old) z) e') h in
      let r = has-drop (length old) new h'.0 x h'.1 in (r.0, r.2)

module _ {N : Type 0} (net other new : Net N) where
  pub reversed-more : (k : ℕ) (t h : N) → IsReversedTo net other k → new ≡ record other { arcs = other.arcs ++ (h, t) ∷ [] } → (i : ℕ) → i ≡ k → IsArc net.arcs i t h → IsReversedTo net new (k + 1)
  reversed-more k t h r e i e-i arc = let at : IsArc net.arcs k t h = subst (λ z. IsArc net.arcs z t h) e-i arc in let arcs-is : new.arcs ≡ other.arcs ++ (h, t) ∷ [] = ap (λ z. z.arcs) e in record {
    nodes = ap (λ z. z.nodes) e ∙ r.nodes;
    many = ap length arcs-is ∙ length_push other.arcs (h, t) ∙ ap (λ n. n + 1) r.many;
    from = λ j x y lt a. subst (λ z. HasArc z y x) (sym arcs-is) (elim (cases_lt j k) [
      | inl less ↦ (let w = r.from j x y less a in (w.0, slice_get-push_old other.arcs ((h, t) ∷ []) w.0 (y, x) w.1))
      | inr le ↦ (let q : j ≡ k = omega arith in let w = same_arc net.arcs k t h x y at (subst (λ z. IsArc net.arcs z x y) q a) in
          subst (λ z. HasArc (other.arcs ++ (h, t) ∷ []) y z) w.0
          (subst (λ z. HasArc (other.arcs ++ (h, t) ∷ []) z t) w.1 (length other.arcs, slice_get-push_last other.arcs (h, t))))
    ]);
    back = λ x y a. (let b = subst (λ z. HasArc z y x) arcs-is a in elim (slice_get-push_cases other.arcs (h, t) b.0 (y, x) b.1) [
      | inl p ↦ r.back x y (b.0, p)
      | inr p ↦ (k, subst (λ z. slice_get net.arcs k ≡ Some z) (swapped p.1) at)
    ]);
  }
    where
      swapped : {x y : N} → ◌≡◌ {A = N × N} (y, x) (h, t) → ◌≡◌ {A = N × N} (t, h) (x, y)
      swapped e = sym (ap (λ p. (p.1, p.0)) e)

  pub reversed-done : (k : ℕ) → length net.arcs ≤ k → IsReversedTo net other k → IsReversed net other
  reversed-done k le r = record {
    nodes = r.nodes;
    from = λ x y a. (let lt : a.0 < length net.arcs = slice_get_within net.arcs a.0 (x, y) a.1 in r.from a.0 x y (omega arith) a.1);
    back = r.back;
  }
