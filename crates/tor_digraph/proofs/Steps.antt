-- Each step of a search keeps what is known of it.
use Rattle.std.proofs.Common.{◌≡◌, ℕ, ◌+◌, ◌<◌, ◌≤◌, ◌⊎◌, inl, inr, List, [], ◌∷◌, ◌++◌, Option, Some, None, length, set, refl, sym, ◌∙◌, ap, subst, arith}
use Rattle.std.specs.Prelude.{slice_get}
use Rattle.std.proofs.lemmas.List.{set_at, set-append_left, length_push}
use Rattle.std.proofs.lemmas.Bool.{cases_eq, cases_lt}
use Rattle.std.proofs.lemmas.Option.{same_Some, slice_get_within}
use Rattle.tor_digraph.specs.Walks.{IsArc, HasArc, Reaches, here, along}
use Rattle.tor_digraph.specs.Links.{IsLatest}
use Rattle.tor_digraph.specs.Closing.{Has}
use Rattle.tor_digraph.specs.Found.{IsSeen, depth, IsFound}
use Rattle.tor_digraph.specs.Search.{IsAhead, IsSearch}
use Rattle.tor_digraph.specs.declared.found.Found.{Found}
use Rattle.tor_digraph.specs.declared.found.Found.TheVariants.{No, Start, Along}
use Rattle.tor_digraph.specs.declared.found.Open.{Open}
use Rattle.tor_arena.proofs.Gets.{slice_get-push_old, slice_get-push_cases, slice_get-push_last, slice_get-set_cases, slice_get-set_same, slice_get-set_other}
use Rattle.tor_digraph.proofs.Closings.{same_arc, closing-push}
use Rattle.tor_digraph.proofs.Few.{few}

module _ {X : Type 0} where
  pub has-old : (xs ys : List X) (x : X) → Has xs x → Has (xs ++ ys) x
  has-old xs ys x h = (h.0, slice_get-push_old xs ys h.0 x h.1)

  pub has-last : (xs : List X) (x : X) → Has (xs ++ x ∷ []) x
  has-last xs x = (length xs, slice_get-push_last xs x)

  pub has-cases : (xs : List X) (y x : X) → Has (xs ++ y ∷ []) x → Has xs x ⊎ (x ≡ y)
  has-cases xs y x h = elim (slice_get-push_cases xs y h.0 x h.1) [ inl p ↦ inl (h.0, p) | inr p ↦ inr p.1 ]

module _ {N A : Type 0} (place : N → ℕ) where
  pub found-more : (found : List (Found N A)) (i : ℕ) (f : Found N A) (x : N) → IsSeen f → IsFound place found x → IsFound place (set found i f) x
  found-more found i f x s h = elim (cases_eq (place x) i) [
    | inl e ↦ (f, subst (λ k. slice_get (set found i f) k ≡ Some f) (sym e) (slice_get-set_same found i f (subst (λ k. k < length found) e (slice_get_within found (place x) h.0 h.1))), s)
    | inr ne ↦ (h.0, slice_get-set_other found i f (place x) ne ∙ h.1, h.2)
  ]

module _ {N A : Type 0} (place : N → ℕ) (spot : A → ℕ) (one : (u v : N) → place u ≡ place v → u ≡ v) (arcs : List (N × N)) where
  -- the node on top of the stack has no arc left, and is left for good
  pub search-close : (found : List (Found N A)) (nodes : List N) (rest : List (Open N A)) (top : Open N A) →
      IsSearch place spot arcs found nodes (rest ++ top ∷ []) → top.next ≡ None → IsSearch place spot arcs found (nodes ++ top.node ∷ []) rest
  search-close found nodes rest top s none = record {
    seen = λ x f. elim (s.seen x f) [
      | inl h ↦ inl (has-old nodes (top.node ∷ []) x h)
      | inr h ↦ elim (slice_get-push_cases rest top h.0 h.1 h.2) [
        | inl p ↦ inr (h.0, h.1, p, h.3)
        | inr p ↦ inl (subst (λ z. Has (nodes ++ top.node ∷ []) z) (sym (ap (λ o. o.node) p.1) ∙ h.3) (has-last nodes top.node))
      ]
    ];
    nodes_seen = λ x h. elim (has-cases nodes top.node x h) [
      | inl p ↦ s.nodes_seen x p
      | inr p ↦ subst (λ z. IsFound place found z) (sym p) top-found
    ];
    depths = λ k o at. s.depths k o (slice_get-push_old rest (top ∷ []) k o at);
    apart = λ k o at h. elim (has-cases nodes top.node o.node h) [
      | inl p ↦ s.apart k o (slice_get-push_old rest (top ∷ []) k o at) p
      | inr p ↦ s.once k (length rest) o top (slice_get_within rest k o at) (slice_get-push_old rest (top ∷ []) k o at) (slice_get-push_last rest top) p
    ];
    path = λ i j o p lt a b. s.path i j o p lt (slice_get-push_old rest (top ∷ []) i o a) (slice_get-push_old rest (top ∷ []) j p b);
    once = λ i j o p lt a b. s.once i j o p lt (slice_get-push_old rest (top ∷ []) i o a) (slice_get-push_old rest (top ∷ []) j p b);
    heads = λ x y h arc. elim (has-cases nodes top.node x h) [
      | inl p ↦ s.heads x y p arc
      | inr p ↦ top-heads y (subst (λ z. HasArc arcs z y) p arc)
    ];
    scanned = λ k o at. s.scanned k o (slice_get-push_old rest (top ∷ []) k o at);
    next = λ k o a at. s.next k o a (slice_get-push_old rest (top ∷ []) k o at);
    order = closing-push nodes top.node s.order (s.apart (length rest) top (slice_get-push_last rest top)) (λ u v h arc. elim h [
      | inl p ↦ exits v (s.heads u v p arc)
      | inr p ↦ exits v (top-heads v (subst (λ z. HasArc arcs z v) p arc))
    ]);
    tree = s.tree;
  }
    where
      top-found : IsFound place found top.node
      top-found = let d = s.depths (length rest) top (slice_get-push_last rest top) in (d.0, d.1, d.2)

      top-heads : (y : N) → HasArc arcs top.node y → IsFound place found y
      top-heads y arc = elim (s.scanned (length rest) top (slice_get-push_last rest top) arc.0 y arc.1) [
        | inl f ↦ f
        | inr h ↦ absurd (subst (λ r. IsAhead spot r arc.0) none h)
      ]

      exits : (v : N) → IsFound place found v → Has nodes v ⊎ Reaches arcs v top.node
      exits v f = elim (s.seen v f) [
        | inl h ↦ inl h
        | inr h ↦ inr (elim (slice_get-push_cases rest top h.0 h.1 h.2) [
          | inl p ↦ subst (λ z. Reaches arcs z top.node) h.3 (s.path h.0 (length rest) h.1 top (slice_get_within rest h.0 h.1 p) h.2 (slice_get-push_last rest top))
          | inr p ↦ subst (λ z. Reaches arcs z top.node) (sym (ap (λ o. o.node) p.1) ∙ h.3) here
        ])
      ]

  -- the stack has at most as many nodes as there are
  pub stack-few : (found : List (Found N A)) (nodes : List N) (stack : List (Open N A)) → IsSearch place spot arcs found nodes stack → length stack ≤ length found
  stack-few found nodes stack s = few (λ o. place o.node) stack (length found) (λ i j o p lt a b e. s.once i j o p lt a b (one o.node p.node e))
      (λ k o at. (let d = s.depths k o at in slice_get_within found (place o.node) d.0 d.1))

  -- the next arc of a node on the stack leads to a node that was found, so the one after it is next
  pub search-advance : (found : List (Found N A)) (nodes : List N) (stack : List (Open N A)) (k : ℕ) (top : Open N A) (a : A) (h : N) (r : Option A) →
      IsSearch place spot arcs found nodes stack → slice_get stack k ≡ Some top → top.next ≡ Some a → IsArc arcs (spot a) top.node h →
      IsFound place found h → IsLatest spot arcs top.node (spot a) r →
      IsSearch place spot arcs found nodes (set stack k (record { node = top.node; next = r }))
  search-advance found nodes stack k top a h r s at-k is-next arc-a f latest = record {
    seen = λ x q. elim (s.seen x q) [
      | inl p ↦ inl p
      | inr p ↦ inr (elim (cases_eq p.0 k) [
        | inl e ↦ (
          k,
          new,
          slice_get-set_same stack k new (slice_get_within stack k top at-k),
          ap (λ o. o.node) (same_Some top p.1 (sym at-k ∙ (subst (λ i. slice_get stack i ≡ Some p.1) e p.2)))
              ∙ p.3,
        )
        | inr ne ↦ (p.0, p.1, slice_get-set_other stack k new p.0 ne ∙ p.2, p.3)
      ])
    ];
    nodes_seen = s.nodes_seen;
    depths = λ i o at. (let w = was i o at in subst (λ z. (f : Found N A) × (slice_get found (place z) ≡ Some f) × IsSeen f × (depth f ≡ i)) w.2 (s.depths i w.0 w.1));
    apart = λ i o at q. (let w = was i o at in s.apart i w.0 w.1 (subst (λ z. Has nodes z) (sym w.2) q));
    path = λ i j o p lt x y. (let w = was i o x in let v = was j p y in subst (λ z. Reaches arcs z p.node) w.2 (subst (λ z. Reaches arcs w.0.node z) v.2 (s.path i j w.0 v.0 lt w.1 v.1)));
    once = λ i j o p lt x y e. (let w = was i o x in let v = was j p y in s.once i j w.0 v.0 lt w.1 v.1 (w.2 ∙ e ∙ sym v.2));
    heads = s.heads;
    scanned = λ i o at j y arc. elim (slice_get-set_cases stack k new i o at) [
      | inl q ↦ subst (λ z. IsFound place found y ⊎ IsAhead spot z.next j) (sym q.1) (rescan r latest j y (subst (λ z. IsArc arcs j z.node y) q.1 arc))
      | inr q ↦ s.scanned i o q.1 j y arc
    ];
    next = λ i o b at e. elim (slice_get-set_cases stack k new i o at) [
      | inl q ↦ subst (λ z. (v : N) × IsArc arcs (spot b) z.node v) (sym q.1) (from-latest r latest b (sym (ap (λ z. z.next) q.1) ∙ e))
      | inr q ↦ s.next i o b q.1 e
    ];
    order = s.order;
    tree = s.tree;
  }
    where
      new : Open N A
      new = record { node = top.node; next = r }

      was : (i : ℕ) (o : Open N A) → slice_get (set stack k (record { node = top.node; next = r })) i ≡ Some o → (p : Open N A) × (slice_get stack i ≡ Some p) × (p.node ≡ o.node)
      was i o at = elim (slice_get-set_cases stack k (record { node = top.node; next = r }) i o at) [
        | inl q ↦ (top, subst (λ z. slice_get stack z ≡ Some top) (sym q.0) at-k, sym (ap (λ z. z.node) q.1))
        | inr q ↦ (o, q.1, refl)
      ]

      from-latest : (r : Option A) → IsLatest spot arcs top.node (spot a) r → (b : A) → r ≡ Some b → (v : N) × IsArc arcs (spot b) top.node v
      from-latest None l b e = cc
      from-latest (Some c) l b e = (l.1.0, subst (λ z. IsArc arcs (spot z) top.node l.1.0) (same_Some c b e) l.1.1)

      before : (r : Option A) → IsLatest spot arcs top.node (spot a) r → (j : ℕ) (y : N) → IsArc arcs j top.node y → j < spot a → IsAhead spot r j
      before None l j y arc lt = l j y (omega arith) lt arc
      before (Some b) l j y arc lt = elim (cases_lt (spot b) j) [
        | inl q ↦ absurd (l.2 j y (omega arith) lt arc)
        | inr q ↦ q
      ]

      again : (r : Option A) → IsLatest spot arcs top.node (spot a) r → (j : ℕ) (y : N) → IsArc arcs j top.node y → j ≤ spot a → IsFound place found y ⊎ IsAhead spot r j
      again r l j y arc le = elim (cases_eq j (spot a)) [
        | inl e ↦ inl (subst (λ z. IsFound place found z) (sym ((same_arc arcs (spot a) top.node y top.node h (subst (λ z. IsArc arcs z top.node y) e arc) arc-a).1)) f)
        | inr ne ↦ inr (before r l j y arc (omega arith))
      ]

      rescan : (r : Option A) → IsLatest spot arcs top.node (spot a) r → (j : ℕ) (y : N) → IsArc arcs j top.node y → IsFound place found y ⊎ IsAhead spot r j
      rescan r l j y arc = elim (s.scanned k top at-k j y arc) [
        | inl q ↦ inl q
        | inr q ↦ again r l j y arc (subst (λ z. IsAhead spot z j) is-next q)
      ]

  not-found : (found : List (Found N A)) (h : N) → slice_get found (place h) ≡ Some No → IsFound place found h → ⊥
  not-found found h absent f = subst IsSeen (same_Some f.0 No (sym f.1 ∙ absent)) f.2

  keep-seen : (found : List (Found N A)) (h t : N) (e f : Found N A) → slice_get found (place h) ≡ Some No → slice_get found (place t) ≡ Some e →
      IsSeen e → slice_get (set found (place h) f) (place t) ≡ Some e
  keep-seen found h t e f absent at seen =
      slice_get-set_other found (place h) f (place t)
      (λ q. subst IsSeen (same_Some e No (sym at ∙ (subst (λ k. slice_get found k ≡ Some No) (sym q) absent))) seen) ∙ at

  -- a node that was not found goes on top of the stack
  pub search-open : (found : List (Found N A)) (nodes : List N) (stack : List (Open N A)) (h : N) (f : Found N A) (r : Option A) →
      IsSearch place spot arcs found nodes stack → slice_get found (place h) ≡ Some No → IsSeen f → depth f ≡ length stack →
      ((i : ℕ) (o : Open N A) → slice_get stack i ≡ Some o → Reaches arcs o.node h) → IsLatest spot arcs h (length arcs) r →
      ((t : N) (a : A) (d : ℕ) → f ≡ Along t a d → IsArc arcs (spot a) t h ×
      ((e : Found N A) × (slice_get found (place t) ≡ Some e) × IsSeen e × (depth e + 1 ≡ d))) →
      IsSearch place spot arcs (set found (place h) f) nodes (stack ++ (record { node = h; next = r }) ∷ [])
  search-open found nodes stack h f r s absent seen-f deep to-h latest from = record {
    seen = λ x q. elim (cases_eq (place x) (place h)) [
      | inl e ↦ inr (length stack, new, slice_get-push_last stack new, sym (one x h e))
      | inr ne ↦ elim (s.seen x (q.0, sym (slice_get-set_other found (place h) f (place x) ne) ∙ q.1, q.2)) [
        | inl p ↦ inl p
        | inr p ↦ inr (p.0, p.1, slice_get-push_old stack (new ∷ []) p.0 p.1 p.2, p.3)
      ]
    ];
    nodes_seen = λ x q. found-more place found (place h) f x seen-f (s.nodes_seen x q);
    depths = λ k o at. elim (slice_get-push_cases stack new k o at) [
      | inl p ↦ (let d = s.depths k o p in (d.0, keep-seen found h o.node d.0 f absent d.1 d.2, d.2, d.3))
      | inr p ↦ (
        f,
        subst (λ z. slice_get (set found (place h) f) (place z) ≡ Some f) (sym (ap (λ z. z.node) p.1))
            (slice_get-set_same found (place h) f (slice_get_within found (place h) No absent)),
        seen-f,
        deep ∙ sym p.0,
      )
    ];
    apart = λ k o at q. elim (slice_get-push_cases stack new k o at) [
      | inl p ↦ s.apart k o p q
      | inr p ↦ not-found found h absent (s.nodes_seen h (subst (λ z. Has nodes z) (ap (λ z. z.node) p.1) q))
    ];
    path = λ i j o p lt x y. elim (slice_get-push_cases stack new j p y) [
      | inl b ↦ (let below : j < length stack = slice_get_within stack j p b in s.path i j o p lt (older i o x (omega arith)) b)
      | inr b ↦ subst (λ z. Reaches arcs o.node z) (sym (ap (λ z. z.node) b.1)) (to-h i o (older i o x (omega arith)))
    ];
    once = λ i j o p lt x y e. elim (slice_get-push_cases stack new j p y) [
      | inl b ↦ (let below : j < length stack = slice_get_within stack j p b in s.once i j o p lt (older i o x (omega arith)) b e)
      | inr b ↦ (let d = s.depths i o (older i o x (omega arith)) in not-found found h absent (subst (λ z. IsFound place found z) (e ∙ ap (λ z. z.node) b.1) (d.0, d.1, d.2)))
    ];
    heads = λ x y q arc. found-more place found (place h) f y seen-f (s.heads x y q arc);
    scanned = λ k o at j y arc. elim (slice_get-push_cases stack new k o at) [
      | inl p ↦ elim (s.scanned k o p j y arc) [
        | inl q ↦ inl (found-more place found (place h) f y seen-f q)
        | inr q ↦ inr q
      ]
      | inr p ↦ inr (subst (λ z. IsAhead spot z.next j) (sym p.1) (all-ahead r latest j y (subst (λ z. IsArc arcs j z.node y) p.1 arc)))
    ];
    next = λ k o a at e. elim (slice_get-push_cases stack new k o at) [
      | inl p ↦ s.next k o a p e
      | inr p ↦ subst (λ z. (v : N) × IsArc arcs (spot a) z.node v) (sym p.1) (first-arc r latest a (sym (ap (λ z. z.next) p.1) ∙ e))
    ];
    order = s.order;
    tree = λ x t a d at. elim (slice_get-set_cases found (place h) f (place x) (Along t a d) at) [
      | inl p ↦ (let w = from t a d (sym p.1) in (subst (λ z. IsArc arcs (spot a) t z) (sym (one x h p.0)) w.0, (w.1.0, keep-seen found h t w.1.0 f absent w.1.1 w.1.2, w.1.2, w.1.3)))
      | inr p ↦ (let w = s.tree x t a d p.1 in (w.0, (w.1.0, keep-seen found h t w.1.0 f absent w.1.1 w.1.2, w.1.2, w.1.3)))
    ];
  }
    where
      new : Open N A
      new = record { node = h; next = r }

      older : (i : ℕ) (o : Open N A) → slice_get (stack ++ (record { node = h; next = r }) ∷ []) i ≡ Some o → i < length stack → slice_get stack i ≡ Some o
      older i o x lt = elim (slice_get-push_cases stack (record { node = h; next = r }) i o x) [ inl p ↦ p | inr p ↦ absurd (omega arith) ]

      all-ahead : (r : Option A) → IsLatest spot arcs h (length arcs) r → (j : ℕ) (y : N) → IsArc arcs j h y → IsAhead spot r j
      all-ahead None l j y arc = l j y (omega arith) (slice_get_within arcs j (h, y) arc) arc
      all-ahead (Some b) l j y arc = elim (cases_lt (spot b) j) [
        | inl q ↦ absurd (l.2 j y (omega arith) (slice_get_within arcs j (h, y) arc) arc)
        | inr q ↦ q
      ]

      first-arc : (r : Option A) → IsLatest spot arcs h (length arcs) r → (b : A) → r ≡ Some b → (v : N) × IsArc arcs (spot b) h v
      first-arc None l b e = cc
      first-arc (Some c) l b e = (l.1.0, subst (λ z. IsArc arcs (spot z) h l.1.0) (same_Some c b e) l.1.1)

  -- the next arc leads to a node that was found before
  pub search-skip : (found : List (Found N A)) (nodes : List N) (rest : List (Open N A)) (top : Open N A) (a : A) (h : N) (f : Found N A)
      (r : Option A) → IsSearch place spot arcs found nodes (rest ++ top ∷ []) → top.next ≡ Some a → IsArc arcs (spot a) top.node h →
      slice_get found (place h) ≡ Some f → IsSeen f → IsLatest spot arcs top.node (spot a) r →
      IsSearch place spot arcs found nodes (rest ++ (record { node = top.node; next = r }) ∷ [])
  search-skip found nodes rest top a h f r s is-next arc at seen latest =
      subst (λ z. IsSearch place spot arcs found nodes z) (set_at rest top [] (record { node = top.node; next = r }) (length rest) refl)
      (search-advance found nodes (rest ++ top ∷ []) (length rest) top a h r s (slice_get-push_last rest top) is-next arc (f, at, seen) latest)

  -- the next arc leads to a node that was not found before
  pub search-along : (found : List (Found N A)) (nodes : List N) (rest : List (Open N A)) (top : Open N A) (a : A) (h : N) (d : ℕ) (r b : Option A) →
      IsSearch place spot arcs found nodes (rest ++ top ∷ []) → top.next ≡ Some a → IsArc arcs (spot a) top.node h →
      slice_get found (place h) ≡ Some No → d ≡ length rest + 1 → IsLatest spot arcs top.node (spot a) r → IsLatest spot arcs h (length arcs) b →
      IsSearch place spot arcs (set found (place h) (Along top.node a d)) nodes
      ((rest ++ (record { node = top.node; next = r }) ∷ []) ++ (record { node = h; next = b }) ∷ [])
  search-along found nodes rest top a h d r b s is-next arc absent deep latest first =
      subst (λ z. IsSearch place spot arcs found' nodes z)
      (set-append_left (rest ++ top ∷ []) (new ∷ []) (length rest) top' inside ∙ ap (λ z. z ++ new ∷ []) (set_at rest top [] top' (length rest) refl))
      (search-advance found' nodes ((rest ++ top ∷ []) ++ new ∷ []) (length rest) top a h r opened
      (slice_get-push_old (rest ++ top ∷ []) (new ∷ []) (length rest) top (slice_get-push_last rest top)) is-next arc (
        Along top.node a d,
        slice_get-set_same found (place h) (Along top.node a d) (slice_get_within found (place h) No absent),
        tt,
      ) latest)
    where
      found' : List (Found N A)
      found' = set found (place h) (Along top.node a d)

      new : Open N A
      new = record { node = h; next = b }

      top' : Open N A
      top' = record { node = top.node; next = r }

      inside : length rest < length (rest ++ top ∷ [])
      inside = slice_get_within (rest ++ top ∷ []) (length rest) top (slice_get-push_last rest top)

      to-h : (i : ℕ) (o : Open N A) → slice_get (rest ++ top ∷ []) i ≡ Some o → Reaches arcs o.node h
      to-h i o at = elim (slice_get-push_cases rest top i o at) [
        | inl p ↦ along (s.path i (length rest) o top (slice_get_within rest i o p) at (slice_get-push_last rest top)) (spot a, arc)
        | inr p ↦ subst (λ z. Reaches arcs z h) (sym (ap (λ z. z.node) p.1)) (along here (spot a, arc))
      ]

      from : (t : N) (c : A) (e : ℕ) → Along top.node a d ≡ Along t c e → IsArc arcs (spot c) t h × ((f : Found N A) × (slice_get found (place t) ≡ Some f) × IsSeen f × (depth f + 1 ≡ e))
      from t c e same =
          let t-is : top.node ≡ t = cc in
          let c-is : a ≡ c = cc in
          let e-is : d ≡ e = cc in
          let w = s.depths (length rest) top (slice_get-push_last rest top) in (
            subst (λ z. IsArc arcs (spot z) t h) c-is (subst (λ z. IsArc arcs (spot a) z h) t-is arc),
            (w.0, subst (λ z. slice_get found (place z) ≡ Some w.0) t-is w.1, w.2, ap (λ z. z + 1) w.3 ∙ sym deep ∙ e-is),
          )

      opened : IsSearch place spot arcs (set found (place h) (Along top.node a d)) nodes ((rest ++ top ∷ []) ++ (record { node = h; next = b }) ∷ [])
      opened = search-open found nodes (rest ++ top ∷ []) h (Along top.node a d) b s absent tt (deep ∙ sym (length_push rest top)) to-h first from

  -- the same, of lists that were made step by step
  pub search-along_made : (found : List (Found N A)) (nodes : List N) (rest : List (Open N A)) (top : Open N A) (a : A) (h : N) (d : ℕ)
      (r b : Option A) → IsSearch place spot arcs found nodes (rest ++ top ∷ []) → top.next ≡ Some a → IsArc arcs (spot a) top.node h →
      (f : Found N A) → slice_get found (place h) ≡ Some f → f ≡ No → IsLatest spot arcs top.node (spot a) r → IsLatest spot arcs h (length arcs) b →
      (found' : List (Found N A)) (stack stack' : List (Open N A)) → stack ≡ rest ++ (record { node = top.node; next = r }) ∷ [] → d ≡ length stack →
      found' ≡ set found (place h) (Along top.node a d) → stack' ≡ stack ++ (record { node = h; next = b }) ∷ [] →
      IsSearch place spot arcs found' nodes stack'
  search-along_made found nodes rest top a h d r b s is-next arc f at absent latest first found' stack stack' e deep e-found e' =
      subst (λ z. IsSearch place spot arcs z nodes stack') (sym e-found)
      (subst (λ z. IsSearch place spot arcs (set found (place h) (Along top.node a d)) nodes z) (sym (e' ∙ ap (λ z. z ++ (record { node = h; next = b }) ∷ []) e))
      (search-along found nodes rest top a h d r b s is-next arc (at ∙ ap Some absent) (deep ∙ ap length e ∙ length_push rest _) latest first))

  -- the next arc leaves the node on top of the stack
  pub search-arc : (found : List (Found N A)) (nodes : List N) (rest : List (Open N A)) (top : Open N A) (a : A) (t h : N) →
      IsSearch place spot arcs found nodes (rest ++ top ∷ []) → top.next ≡ Some a → IsArc arcs (spot a) t h → IsArc arcs (spot a) top.node h
  search-arc found nodes rest top a t h s is-next arc =
      let w = s.next (length rest) top a (slice_get-push_last rest top) is-next in
      subst (λ z. IsArc arcs (spot a) z h) (sym ((same_arc arcs (spot a) top.node w.0 t h w.1 arc).0)) arc

module _ {N A : Type 0} where
  pub seen-not_no : (f : Found N A) → (f ≡ No → ⊥) → IsSeen f
  seen-not_no No h = h refl
  seen-not_no Start h = tt
  seen-not_no (Along t a d) h = tt
