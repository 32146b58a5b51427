-- Links from node to node of a class, and the classes that they give.
use Rattle.std.proofs.Common.{◌≡◌, ◌≢◌, inl, inr, ℕ, ◌+◌, ◌<◌, ◌≤◌, List, [], ◌∷◌, ◌++◌, Some, length, set, refl, sym, ap, ◌∙◌, subst, arith}
use Rattle.std.specs.Prelude.{slice_get}
use Rattle.std.proofs.lemmas.Bool.{cases_eq, cases_lt}
use Rattle.std.proofs.lemmas.List.{length-set}
use Rattle.std.proofs.lemmas.Option.{same_Some, slice_get_within}
use Rattle.tor_arena.proofs.Gets.{slice_get-push_cases, slice_get-push_old, slice_get-push_last, slice_get-set_cases, slice_get-some}
use Rattle.tor_digraph.specs.Walks.{Net, Reaches, IsInside, here, along}
use Rattle.tor_digraph.specs.Closing.{Has}
use Rattle.tor_solve.specs.Classes.{Classes, IsComponents}
use Rattle.reach_counts.specs.Condensing.{IsOfClass}
use Rattle.reach_counts.specs.Cycles.{IsCycle, AreCycles, IsNextOfClass, AreClassLinks, IsClassList, IsPartList, IsToldCycle, AreToldTo}
use Rattle.reach_counts.proofs.Reaching.{reached-inside}

module _ (of : List ℕ) where
  same_class : (x j k : ℕ) → IsOfClass of x j → IsOfClass of x k → j ≡ k
  same_class x j k a b = same_Some j k (sym a ∙ b)

  class_at : (x y k : ℕ) → x ≡ y → IsOfClass of x k → IsOfClass of y k
  class_at x y k e h = subst (λ z. IsOfClass of z k) e h

  -- ---- one node more is linked

  module _ (count p left k r : ℕ) (first next : List ℕ) (one : left ≡ p + 1) (inside : p < length of) (cls : IsOfClass of p k)
      (at_k : slice_get first k ≡ Some r) (h : AreClassLinks of count left first next) where
    link-first : (j s : ℕ) → slice_get (set first k p) j ≡ Some s → IsNextOfClass of j p s
    link-first j s at =
        elim (slice_get-set_cases first k p j s at) [
          | inl e ↦
              let s_is = e.1 in record {
                there = λ lt. (omega (arith, s_is), class_at p s j (sym e.1) (cls ∙ ap (λ z. Some z) (sym e.0)));
                none_before = λ z le lt c. absurd (omega (arith, le, lt, s_is));
                most = omega (arith, inside, s_is);
              }
          | inr old ↦
              let n = h.firsts j s old.1 in record {
                there = λ lt. (let w = n.there lt in let low = w.0 in (omega (arith, low, one), w.1));
                none_before = λ z le lt c. elim (cases_eq z p) [
                  | inl e ↦ old.0 (same_class p j k (class_at z p j e c) cls)
                  | inr ne ↦ n.none_before z (omega (arith, le, ne, one)) lt c
                ];
                most = n.most;
              }
        ]

    link-next : (y s j : ℕ) → p ≤ y → slice_get (set next p r) y ≡ Some s → IsOfClass of y j → IsNextOfClass of j (y + 1) s
    link-next y s j le at c =
        elim (slice_get-set_cases next p r y s at) [
          | inl e ↦
              let j_is : k ≡ j = same_class p k j cls (class_at y p j e.0 c) in
              let y_is = e.0 in
              let low : left ≡ y + 1 = omega (arith, one, y_is) in
              subst (λ z. IsNextOfClass of z (y + 1) s) j_is (subst (λ z. IsNextOfClass of k z s) low (subst (λ z. IsNextOfClass of k left z) (sym e.1) (h.firsts k r at_k)))
          | inr old ↦ let ne = old.0 in h.nexts y s j (omega (arith, le, ne, one)) old.1 c
        ]

    pub linked-more : AreClassLinks of count p (set first k p) (set next p r)
    linked-more = record {
      classes = length-set first k p ∙ h.classes;
      nodes = length-set next p r ∙ h.nodes;
      firsts = link-first;
      nexts = link-next;
    }

  -- ---- a class is followed

  module _ (count : ℕ) (first next : List ℕ) (h : AreClassLinks of count 0 first next) where
    -- links lead on
    pub linked-on : (y r : ℕ) → slice_get next y ≡ Some r → y < r
    linked-on y r at =
        let lt = slice_get_within next y r at in
        let many = h.nodes in
        let within : y < length of = omega (arith, lt, many) in
        let c = slice_get-some of y within in
        let n = h.nexts y r c.0 (omega arith) at c.1 in
        elim (cases_lt r (length of)) [
          | inl less ↦ let low = (n.there less).0 in omega (arith, low)
          | inr le ↦ omega (arith, within, le)
        ]

    pub part-next : (k at r : ℕ) (row new : List ℕ) → at < length of → slice_get next at ≡ Some r → new ≡ row ++ at ∷ [] → IsPartList of k at row → IsPartList of k r new
    part-next k at r row new lt linked is p =
        let n = h.nexts at r k (omega arith) linked (p.next lt) in
        let on = linked-on at r linked in record {
          members = λ x w. elim (slice_get-push_cases row at w.0 x (ap (λ l. slice_get l w.0) (sym is) ∙ w.1)) [
            | inl old ↦ (let m = p.members x (w.0, old) in let less = m.1 in (m.0, omega (arith, less, on)))
            | inr new_at ↦ (let e = new_at.1 in (class_at at x k (sym e) (p.next lt), omega (arith, e, on)))
          ];
          all = λ x less c. elim (cases_lt x at) [
            | inl before ↦ (let w = p.all x before c in (w.0, ap (λ l. slice_get l w.0) is ∙ slice_get-push_old row (at ∷ []) w.0 x w.1))
            | inr le ↦ elim (cases_eq x at) [
              | inl e ↦ (length row, ap (λ l. slice_get l (length row)) is ∙ slice_get-push_last row at ∙ ap (λ z. Some z) (sym e))
              | inr ne ↦ absurd (n.none_before x (omega (arith, le, ne)) less c)
            ]
          ];
          rising = λ i j x y less a b.
              elim (slice_get-push_cases row at j y (ap (λ l. slice_get l j) (sym is) ∙ b)) [
                | inl old_b ↦ elim (slice_get-push_cases row at i x (ap (λ l. slice_get l i) (sym is) ∙ a)) [
                  | inl old_a ↦ p.rising i j x y less old_a old_b
                  | inr new_a ↦ (let within = slice_get_within row j y old_b in let e = new_a.0 in absurd (omega (arith, less, within, e)))
                ]
                | inr new_b ↦ elim (slice_get-push_cases row at i x (ap (λ l. slice_get l i) (sym is) ∙ a)) [
                  | inl old_a ↦ (let low = (p.members x (i, old_a)).1 in let e = new_b.1 in omega (arith, low, e))
                  | inr new_a ↦ (let e = new_a.0 in let f = new_b.0 in absurd (omega (arith, less, e, f)))
                ]
              ];
          next = λ less. (n.there less).1;
        }

  pub part-done : (k at : ℕ) (row : List ℕ) → length of ≤ at → IsPartList of k at row → IsClassList of k row
  part-done k at row le p = record {
    members = λ x. (λ w. (p.members x w).0, λ c. (let lt = slice_get_within of x k c in p.all x (omega (arith, lt, le)) c));
    rising = p.rising;
  }

  -- ---- classes are told

  told-later : (before : ℕ) (nodes : List ℕ) → IsToldCycle of before nodes → IsToldCycle of (before + 1) nodes
  told-later before nodes t = record {
    class = t.class;
    least = t.least;
    list = t.list;
    begins = t.begins;
    early = (let early = t.early in omega (arith, early));
    many = t.many;
  }

  -- a node whose class isn't told now
  pub told-same : (place : ℕ) (rows : List (List ℕ)) → ((k y : ℕ) → IsOfClass of place k → IsNextOfClass of k 0 place → IsOfClass of y k → place ≢ y → ⊥) → AreToldTo of place rows → AreToldTo of (place + 1) rows
  told-same place rows none t = record {
    each = λ i nodes at. told-later place nodes (t.each i nodes at);
    all = λ x y k lt cls n other ne. elim (cases_lt x place) [
      | inl less ↦ t.all x y k less cls n other ne
      | inr le ↦ (let e : x ≡ place = omega (arith, lt, le) in
          absurd (none k y (class_at x place k e cls) (subst (λ z. IsNextOfClass of k 0 z) e n) other (λ f. ne (e ∙ f))))
    ];
    order = t.order;
  }

  module _ (count : ℕ) (first next : List ℕ) (h : AreClassLinks of count 0 first next) (place class : ℕ) (cls : IsOfClass of place class) where
    -- it isn't the first of its class
    pub not-first : (f : ℕ) → slice_get first class ≡ Some f → f ≢ place → (k y : ℕ) → IsOfClass of place k → IsNextOfClass of k 0 place → IsOfClass of y k → place ≢ y → ⊥
    not-first f at ne k y c n other apart =
        let e : class ≡ k = same_class place class k cls c in
        let m : IsNextOfClass of k 0 f = subst (λ z. IsNextOfClass of z 0 f) e (h.firsts class f at) in
        let within = slice_get_within of place k c in
        elim (cases_lt f place) [
          | inl less ↦ n.none_before f (omega arith) less (m.there (omega (arith, less, within))).1
          | inr le ↦ m.none_before place (omega arith) (omega (arith, le, ne)) c
        ]

    -- it is the only one of its class
    pub not-many : (r : ℕ) → slice_get next place ≡ Some r → length next ≤ r → (k y : ℕ) → IsOfClass of place k → IsNextOfClass of k 0 place → IsOfClass of y k → place ≢ y → ⊥
    not-many r at le k y c n other apart =
        let m = h.nexts place r k (omega arith) at c in
        let within = slice_get_within of y k other in
        let many = h.nodes in
        elim (cases_lt y place) [
          | inl less ↦ n.none_before y (omega arith) less other
          | inr up ↦ m.none_before y (omega (arith, up, apart)) (omega (arith, within, many, le)) other
        ]

    -- its class is told
    module _ (r : ℕ) (row : List ℕ) (at_first : slice_get first class ≡ Some place) (at_next : slice_get next place ≡ Some r) (there : r < length next) (list : IsClassList of class row) where
      least : IsNextOfClass of class 0 place
      least = h.firsts class place at_first

      begins-at : slice_get row 0 ≡ Some place
      begins-at =
          let w = (list.members place).1 cls in
          let within = slice_get_within row w.0 place w.1 in
          let z = slice_get-some row 0 (omega (arith, within)) in
          elim (cases_eq w.0 0) [
            | inl e ↦ ap (slice_get row) (sym e) ∙ w.1
            | inr ne ↦ absurd (least.none_before z.0 (omega arith) (list.rising 0 w.0 z.0 place (omega (arith, ne)) z.1 w.1) ((list.members z.0).0 (0, z.1)))
          ]

      two : 2 ≤ length row
      two =
          let n = h.nexts place r class (omega arith) at_next cls in
          let many = h.nodes in
          let less : r < length of = omega (arith, there, many) in
          let on = n.there less in
          let w = (list.members r).1 on.1 in
          let within = slice_get_within row w.0 r w.1 in
          elim (cases_eq w.0 0) [
            | inl e ↦
                let same : place ≡ r = same_Some place r (sym begins-at ∙ ap (slice_get row) (sym e) ∙ w.1) in
                let low = on.0 in absurd (omega (arith, same, low))
            | inr ne ↦ omega (arith, within, ne)
          ]

      told : IsToldCycle of (place + 1) row
      told = record { class = class; least = place; list = list; begins = begins-at; early = omega arith; many = two }

      pub told-more : (rows new : List (List ℕ)) → new ≡ rows ++ row ∷ [] → AreToldTo of place rows → AreToldTo of (place + 1) new
      told-more rows new is t = record {
        each = λ i nodes at. elim (slice_get-push_cases rows row i nodes (ap (λ (l : List (List ℕ)). slice_get l i) (sym is) ∙ at)) [
          | inl old ↦ told-later place nodes (t.each i nodes old)
          | inr last ↦ subst (λ z. IsToldCycle of (place + 1) z) (sym last.1) told
        ];
        all = λ x y k lt c n other ne. elim (cases_lt x place) [
          | inl less ↦ (let w = t.all x y k less c n other ne in
              (w.0, w.1, ap (λ (l : List (List ℕ)). slice_get l w.0) is ∙ slice_get-push_old rows (row ∷ []) w.0 w.1 w.2, w.3))
          | inr le ↦ (let e : place ≡ x = omega (arith, lt, le) in
              (length rows, row, ap (λ (l : List (List ℕ)). slice_get l (length rows)) is ∙ slice_get-push_last rows row, (0, begins-at ∙ ap (λ z. Some z) e)))
        ];
        order = λ i j ns ms x y lt a b a0 b0.
            elim (slice_get-push_cases rows row j ms (ap (λ (l : List (List ℕ)). slice_get l j) (sym is) ∙ b)) [
              | inl old_b ↦ elim (slice_get-push_cases rows row i ns (ap (λ (l : List (List ℕ)). slice_get l i) (sym is) ∙ a)) [
                | inl old_a ↦ t.order i j ns ms x y lt old_a old_b a0 b0
                | inr new_a ↦ (let within = slice_get_within rows j ms old_b in let e = new_a.0 in absurd (omega (arith, lt, within, e)))
              ]
              | inr new_b ↦ elim (slice_get-push_cases rows row i ns (ap (λ (l : List (List ℕ)). slice_get l i) (sym is) ∙ a)) [
                | inl old_a ↦ (
                    let w = t.each i ns old_a in
                    let x_is : w.least ≡ x = same_Some w.least x (sym w.begins ∙ a0) in
                    let y_is : place ≡ y = same_Some place y (sym begins-at ∙ ap (λ l. slice_get l 0) (sym new_b.1) ∙ b0) in
                    let early = w.early in omega (arith, x_is, y_is, early))
                | inr new_a ↦ (let e = new_a.0 in let f = new_b.0 in absurd (omega (arith, lt, e, f)))
              ]
            ];
      }

-- ---- what is told are the cycles

reached-there : (net : Net ℕ) (x y : ℕ) → IsInside (λ n. n) net → x ≢ y → Reaches net.arcs x y → y < net.nodes
reached-there net x y inside ne here = absurd (ne refl)
reached-there net x y inside ne (along {b = u} {c = v} r arc) = inside.heads arc.0 u v arc.1

module _ (net : Net ℕ) (c : Classes) (parts : IsComponents (λ n. n) net c) (inside : IsInside (λ n. n) net) (first next : List ℕ)
    (h : AreClassLinks c.of c.count 0 first next) (rows : List (List ℕ)) (t : AreToldTo c.of (length c.of) rows) where
  class_for : (x : ℕ) → x < net.nodes → (k : ℕ) × IsOfClass c.of x k
  class_for x lt = let many = parts.many in slice_get-some c.of x (omega (arith, lt, many))

  with_class : (x j k : ℕ) → IsOfClass c.of x j → j ≡ k → IsOfClass c.of x k
  with_class x j k h e = subst (λ z. IsOfClass c.of x z) e h

  -- a told class has all nodes of a class of which it has one
  told-has : (nodes : List ℕ) → IsToldCycle c.of (length c.of) nodes → (f x k : ℕ) → IsOfClass c.of f k → IsOfClass c.of x k → Has nodes f → Has nodes x
  told-has nodes told f x k f_class x_class has =
      (told.list.members x).1 (with_class x k told.class x_class (same_class c.of f k told.class f_class ((told.list.members f).0 has)))

  cycle-told : (nodes : List ℕ) → IsToldCycle c.of (length c.of) nodes → IsCycle net nodes
  cycle-told nodes w = record {
    many = w.many;
    rising = w.list.rising;
    there = λ x has. (let lt = slice_get_within c.of x w.class ((w.list.members x).0 has) in let many = parts.many in omega (arith, lt, many));
    whole = λ x y has.
        let cx = (w.list.members x).0 has in (
          λ has_y. (parts.same x y w.class w.class cx ((w.list.members y).0 has_y)).0 refl,
          λ r.
              let lt = slice_get_within c.of x w.class cx in
              let many = parts.many in
              let cy = class_for y (reached-inside net x y inside (omega (arith, lt, many)) r.0) in
              let e = (parts.same x y w.class cy.0 cx cy.1).1 r in
              (w.list.members y).1 (cy.1 ∙ ap (λ z. Some z) (sym e)),
        );
  }

  all-told : (x y : ℕ) → x ≢ y → Reaches net.arcs x y → Reaches net.arcs y x → (i : ℕ) × (nodes : List ℕ) × (slice_get rows i ≡ Some nodes) × Has nodes x
  all-told x y ne rxy ryx =
      let cx = class_for x (reached-there net y x inside (λ e. ne (sym e)) ryx) in
      let cy = class_for y (reached-there net x y inside ne rxy) in
      let k_is : cx.0 ≡ cy.0 = (parts.same x y cx.0 cy.0 cx.1 cy.1).1 (rxy, ryx) in
      let cy_at : IsOfClass c.of y cx.0 = with_class y cy.0 cx.0 cy.1 (sym k_is) in
      let below = parts.below x cx.0 cx.1 in
      let classes = h.classes in
      let f = slice_get-some first cx.0 (omega (arith, below, classes)) in
      let n = h.firsts cx.0 f.0 f.1 in
      let x_in = slice_get_within c.of x cx.0 cx.1 in
      let f_in : f.0 < length c.of = first-inside f.0 cx.0 n cx.1 x_in in
      let f_class = (n.there f_in).1 in
      let w = elim (cases_eq f.0 x) as (λ _. (i : ℕ) × (nodes : List ℕ) × (slice_get rows i ≡ Some nodes) × Has nodes f.0) [
        | inl e ↦ t.all f.0 y cx.0 f_in f_class n cy_at (λ q. ne (sym e ∙ q))
        | inr apart ↦ t.all f.0 x cx.0 f_in f_class n cx.1 apart
      ] in
      (w.0, w.1, w.2, told-has w.1 (t.each w.0 w.1 w.2) f.0 x cx.0 f_class cx.1 w.3)
    where
      first-inside : (f k : ℕ) → IsNextOfClass c.of k 0 f → IsOfClass c.of x k → x < length c.of → f < length c.of
      first-inside f k n cls lt =
          elim (cases_lt f (length c.of)) [
            | inl less ↦ less
            | inr le ↦ absurd (n.none_before x (omega arith) (omega (arith, lt, le)) cls)
          ]

  pub told-cycles : AreCycles net rows
  told-cycles = record {
    each = λ i nodes at. cycle-told nodes (t.each i nodes at);
    all = all-told;
    order = t.order;
  }
