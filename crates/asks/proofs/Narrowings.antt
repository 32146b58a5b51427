-- The digraph of the orders of open edges, arc by arc, and what is reached in it.
use Rattle.std.proofs.Common.{◌≡◌, inl, inr, ℕ, ◌+◌, ◌*◌, ◌<◌, ◌≤◌, List, [], ◌∷◌, ◌++◌, Some, length, refl, sym, ap, ◌∙◌, subst, arith}
use Rattle.std.specs.Prelude.{slice_get}
use Rattle.std.proofs.lemmas.Bool.{cases_lt}
use Rattle.std.proofs.lemmas.Option.{same_Some, slice_get_within}
use Rattle.tor_arena.proofs.Gets.{slice_get-push_cases, slice_get-push_old, slice_get-push_last}
use Rattle.relationships.specs.declared.mark.Mark.{Mark}
use Rattle.tor_digraph.specs.Walks.{Net, IsArc, HasArc, Reaches, here, along}
use Rattle.tor_clauses.specs.Literals.{Literal, node_of, lit_of}
use Rattle.tor_clauses.proofs.LiteralLemmas.{lit_with, node_of_lit, node_below, same_literal}
use Rattle.ties.specs.Tied.{open_from}
use Rattle.asks.specs.Narrowing.{opens_before, narrow_node, IsOpenNode, IsNarrowedTo, IsNarrowed, IsNarrowPut}
use Rattle.asks.specs.Arriving.{FillsBatches}
use Rattle.asks.proofs.Opens.{before_below, same_open}

-- the edge of a node that is there
pub edge_below : (x n : ℕ) → x < n * 2 → (lit_of x).edge < n
edge_below x n lt = omega (arith, lt)

-- the node of an open order is there
pub narrow_below : (marks : List Mark) (x : ℕ) → IsOpenNode marks x → narrow_node marks x < length (open_from 0 marks) * 2
narrow_below marks x o = node_below (lit_with (opens_before marks (lit_of x).edge) (lit_of x).over) (length (open_from 0 marks)) (before_below marks (lit_of x).edge o)

-- two open orders with one such node are one
pub same_narrow : (marks : List Mark) (x y : ℕ) → IsOpenNode marks x → IsOpenNode marks y → narrow_node marks x ≡ narrow_node marks y → x ≡ y
same_narrow marks x y o u e =
    let l = lit_with (opens_before marks (lit_of x).edge) (lit_of x).over in
    let m = lit_with (opens_before marks (lit_of y).edge) (lit_of y).over in
    let same = same_literal l m e in
    let edge = same_open marks (lit_of x).edge (lit_of y).edge o u (ap (λ (k : Literal). k.edge) same) in
    sym (node_of_lit x) ∙ ap (λ k. node_of (lit_with k (lit_of x).over)) edge ∙
    ap (λ o. node_of (lit_with (lit_of y).edge o)) (ap (λ (k : Literal). k.over) same) ∙ node_of_lit y

module _ (marks : List Mark) (count : ℕ) (net : Net ℕ) where
  pub narrowed-none : (other : Net ℕ) → count * 2 ≤ other.nodes → FillsBatches other.nodes → other.arcs ≡ [] → IsNarrowedTo marks count net 0 other
  narrowed-none other nodes whole none = record {
    nodes = nodes;
    whole = whole;
    from = λ k x y lt. absurd (omega (arith, lt));
    back = λ i j arc. absurd (nothing arc.0 (i, j) (subst (λ (l : List (ℕ × ℕ)). slice_get l arc.0 ≡ Some (i, j)) none arc.1));
  }
    where
      nothing : (k : ℕ) (e : ℕ × ℕ) → slice_get {X = ℕ × ℕ} [] k ≡ Some e → ⊥
      nothing k e at = cc

  module _ (k tail head : ℕ) (other new : Net ℕ) (h : IsNarrowedTo marks count net k other) (at : IsArc net.arcs k tail head) (p : IsNarrowPut marks tail head other new) where
    -- what was there stays there
    kept : (i j : ℕ) → HasArc other.arcs i j → HasArc new.arcs i j
    kept i j arc =
        elim p.put [
          | inl s ↦ subst (λ (n : Net ℕ). HasArc n.arcs i j) (sym s.2)
              (arc.0, slice_get-push_old other.arcs ((narrow_node marks tail, narrow_node marks head) ∷ []) arc.0 (i, j) arc.1)
          | inr s ↦ subst (λ (n : Net ℕ). HasArc n.arcs i j) (sym s.1) arc
        ]

    at_last : IsOpenNode marks tail → IsOpenNode marks head → HasArc new.arcs (narrow_node marks tail) (narrow_node marks head)
    at_last o u =
        elim p.put [
          | inl s ↦ subst (λ (n : Net ℕ). HasArc n.arcs (narrow_node marks tail) (narrow_node marks head)) (sym s.2)
              (length other.arcs, slice_get-push_last other.arcs (narrow_node marks tail, narrow_node marks head))
          | inr s ↦ absurd (s.0 (o, u))
        ]

    from_arc : (m x y : ℕ) → m < k + 1 → IsArc net.arcs m x y → IsOpenNode marks x → IsOpenNode marks y → HasArc new.arcs (narrow_node marks x) (narrow_node marks y)
    from_arc m x y lt arc o u =
        elim (cases_lt m k) [
          | inl less ↦ kept (narrow_node marks x) (narrow_node marks y) (h.from m x y less arc o u)
          | inr le ↦
              let e : m ≡ k = omega (arith, lt, le) in
              let same : (x, y) ≡ (tail, head) = same_Some (x, y) (tail, head) (sym arc ∙ ap (slice_get net.arcs) e ∙ at) in
              let x_is : x ≡ tail = ap (λ (q : ℕ × ℕ). q.0) same in
              let y_is : y ≡ head = ap (λ (q : ℕ × ℕ). q.1) same in
              subst (λ z. HasArc new.arcs (narrow_node marks z) (narrow_node marks y)) (sym x_is)
              (subst (λ z. HasArc new.arcs (narrow_node marks tail) (narrow_node marks z)) (sym y_is)
              (at_last (subst (IsOpenNode marks) x_is o) (subst (IsOpenNode marks) y_is u)))
        ]

    back_arc : (i j : ℕ) → HasArc new.arcs i j → (x y : ℕ) × HasArc net.arcs x y × IsOpenNode marks x × IsOpenNode marks y ×
        (i ≡ narrow_node marks x) × (j ≡ narrow_node marks y)
    back_arc i j arc =
        elim p.put [
          | inl s ↦
              let there : HasArc (other.arcs ++ (narrow_node marks tail, narrow_node marks head) ∷ []) i j =
              subst (λ (n : Net ℕ). HasArc n.arcs i j) s.2 arc in
              elim (slice_get-push_cases other.arcs (narrow_node marks tail, narrow_node marks head) there.0 (i, j) there.1) [
                | inl old ↦ h.back i j (there.0, old)
                | inr last ↦ (tail, head, (k, at), s.0, s.1, ap (λ (q : ℕ × ℕ). q.0) last.1, ap (λ (q : ℕ × ℕ). q.1) last.1)
              ]
          | inr s ↦ h.back i j (subst (λ (n : Net ℕ). HasArc n.arcs i j) s.1 arc)
        ]

    same_nodes : new.nodes ≡ other.nodes
    same_nodes = elim p.put [ inl s ↦ ap (λ (n : Net ℕ). n.nodes) s.2 | inr s ↦ ap (λ (n : Net ℕ). n.nodes) s.1 ]

    -- one arc more
    pub narrowed-next : IsNarrowedTo marks count net (k + 1) new
    narrowed-next = record {
      nodes = subst (λ n. count * 2 ≤ n) (sym same_nodes) h.nodes;
      whole = subst FillsBatches (sym same_nodes) h.whole;
      from = from_arc;
      back = back_arc;
    }

  pub narrowed-done : (k : ℕ) (other : Net ℕ) → length net.arcs ≤ k → IsNarrowedTo marks count net k other → IsNarrowed marks count net other
  narrowed-done k other le h = record {
    nodes = h.nodes;
    whole = h.whole;
    from = λ m x y lt arc. h.from m x y (omega (arith, lt, le)) arc;
    back = h.back;
  }

  module _ (other : Net ℕ) (h : IsNarrowed marks count net other) where
    -- what reaches an open order among the open orders reaches it
    down_to : {i j : ℕ} → Reaches other.arcs i j → (y : ℕ) → IsOpenNode marks y → j ≡ narrow_node marks y →
        (x : ℕ) × IsOpenNode marks x × (i ≡ narrow_node marks x) × Reaches net.arcs x y
    down_to here y o e = (y, o, e, here)
    down_to (along {b = b} {c = c} r arc) y o e =
        let a = h.back b c arc in
        let same : a.1 ≡ y = same_narrow marks a.1 y a.4 o (sym a.6 ∙ e) in
        let d = down_to r a.0 a.3 a.5 in
        (d.0, d.1, d.2, along d.3 (subst (HasArc net.arcs a.0) same a.2))

    pub down : (y : ℕ) → IsOpenNode marks y → {i : ℕ} → Reaches other.arcs i (narrow_node marks y) →
        (x : ℕ) × IsOpenNode marks x × (i ≡ narrow_node marks x) × Reaches net.arcs x y
    down y o r = down_to r y o refl

    -- and an open order is reached among them, where nothing but open orders stands between open orders
    pub up : ((x b c : ℕ) → IsOpenNode marks x → Reaches net.arcs x b → HasArc net.arcs b c → IsOpenNode marks c → IsOpenNode marks b) →
        (x : ℕ) → IsOpenNode marks x → {y : ℕ} → Reaches net.arcs x y → IsOpenNode marks y → Reaches other.arcs (narrow_node marks x) (narrow_node marks y)
    up between x o here u = here
    up between x o (along {b = b} {c = c} r arc) u =
        let v = between x b c o r arc u in
        along (up between x o r v) (h.from arc.0 b c (slice_get_within net.arcs arc.0 (b, c) arc.1) arc.1 v u)
