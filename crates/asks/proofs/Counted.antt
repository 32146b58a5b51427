-- What is reached among the orders of open edges, said of edges.
use Rattle.std.proofs.Common.{◌≡◌, ◌↔◌, ℕ, zero, suc, ◌/◌, ◌<◌, ◌⊎◌, inl, inr, true, List, [], ◌∷◌, Some, length, map, get_or, refl, sym, ap, ◌∙◌, subst, arith, All, Contains}
use Rattle.std.specs.Prelude.{slice_get}
use Rattle.std.proofs.lemmas.Bool.{false≢true, cases_order}
use Rattle.std.proofs.lemmas.Option.{get_or_from_slice_get, slice_get_within, same_Some}
use Rattle.std.proofs.lemmas.List.{length-map}
use Rattle.std.specs.List.{flat_map}
use Rattle.tor_arena.proofs.Gets.{slice_get-some, slice_get-unmap, has-from_Contains, Contains-from_has, Contains-map}
use Rattle.tor_numbers.specs.Edges.{edge_at}
use Rattle.relationships.specs.declared.label.End.{End}
use Rattle.relationships.specs.declared.mark.Mark.{Mark}
use Rattle.relationships.specs.Relationship.{Orientation, opposite, Serves}
use Rattle.relationships.specs.Graph.{Edge, edges, edges_on}
use Rattle.relationships.specs.Evidence.{NeighboursDiffer, Closure}
use Rattle.relationships.specs.Selection.{IsServable, IsForced}
use Rattle.relationships.specs.Marking.{is_forced}
use Rattle.relationships.proofs.Neighbours.{distinct-apart}
use Rattle.tor_digraph.specs.Walks.{Net, HasArc, Reaches, IsInside, here, along}
use Rattle.tor_digraph.specs.Closing.{IsOnce}
use Rattle.as_graph.specs.Paths.{paths_at}
use Rattle.tor_clauses.specs.Literals.{Literal, negated, node_of, lit_of, opposite_node, Says}
use Rattle.tor_clauses.specs.Flipping.{HasPartners}
use Rattle.tor_clauses.proofs.Flips.{reach_back}
use Rattle.tor_clauses.specs.Formulas.{Formula, FitsGraph}
use Rattle.tor_clauses.proofs.LiteralLemmas.{lit_with, lit_of_node, node_of_lit, opposite_node_twice, opposite_twice}
use Rattle.tor_clauses.proofs.Models.{paths_apart}
use Rattle.tor_solve.specs.Laws.{DecidedLaw}
use Rattle.forced_edges.specs.ForcedLaws.{ClosureReachLaw}
use Rattle.order_trials.proofs.Ordering.{says_low, says_high, rising}
use Rattle.ties.specs.Tied.{AreMarks, open_from}
use Rattle.ties.specs.TieLaws.{ImplicationLaw}
use Rattle.ties.specs.Parts.{IsOpen}
use Rattle.ties.proofs.Exactness.{as_many}
use Rattle.ties.proofs.Tiedness.{order}
use Rattle.asks.specs.Asks.{IsForcedBy, IsOpenOf, ForcesSoMany}
use Rattle.asks.specs.Arriving.{IsArrivalCount}
use Rattle.asks.specs.Narrowing.{opens_before, narrow_node, IsOpenNode, IsNarrowed}
use Rattle.asks.proofs.Opens.{place_of_open}
use Rattle.asks.proofs.Narrowings.{edge_below, narrow_below, down, up}
use Rattle.asks.proofs.Forcings.{led_to, some_end, in_closure}

-- ---- marks

-- what the marks say of the edge at a place
marked_at : (kept : List (List ℕ)) (es : List Edge) (marks : List Mark) (place : ℕ) (e : Edge) (m : Mark) → AreMarks kept es marks →
    slice_get es place ≡ Some e → slice_get marks place ≡ Some m → (is_forced m ≡ true) ↔ IsForced kept e.0 e.1
marked_at kept [] [] place e m all at mark = absurd (cc at)
marked_at kept [] (n ∷ marks) place e m all at mark = absurd all
marked_at kept (f ∷ es) [] place e m all at mark = absurd all
marked_at kept (f ∷ es) (n ∷ marks) zero e m all at mark =
    let edge : f ≡ e = same_Some f e at in
    let is : n ≡ m = same_Some n m mark in
    subst (λ (g : Edge). (is_forced m ≡ true) ↔ IsForced kept g.0 g.1) edge
    (subst (λ (k : Mark). (is_forced k ≡ true) ↔ IsForced kept f.0 f.1) is all.0)
marked_at kept (f ∷ es) (n ∷ marks) (suc place) e m all at mark = marked_at kept es marks place e m all.1 at mark

module _ (kept : List (List ℕ)) (es : List Edge) (marks : List Mark) (all : AreMarks kept es marks) (place : ℕ) (e : Edge) (at : slice_get es place ≡ Some e) where
  pub open_unforced : IsOpen marks place → IsForced kept e.0 e.1 → ⊥
  open_unforced o forced = false≢true ((marked_at kept es marks place e Mark.Open all at o).1 forced)

  pub open_or_forced : IsOpen marks place ⊎ IsForced kept e.0 e.1
  open_or_forced =
      let many = as_many kept es marks all in
      let lt = slice_get_within es place e at in
      let m = slice_get-some marks place (omega (arith, many, lt)) in
      by_mark m.0 m.1
    where
      by_mark : (m : Mark) → slice_get marks place ≡ Some m → IsOpen marks place ⊎ IsForced kept e.0 e.1
      by_mark Mark.Open o = inl o
      by_mark Mark.Forced f = inr ((marked_at kept es marks place e Mark.Forced all at f).0 refl)

  pub unforced_open : (IsForced kept e.0 e.1 → ⊥) → IsOpen marks place
  unforced_open none = elim open_or_forced [ inl o ↦ o | inr f ↦ absurd (none f) ]

-- the edge of an open mark
pub edge_of_mark : (kept : List (List ℕ)) (es : List Edge) (marks : List Mark) → AreMarks kept es marks → (place : ℕ) → IsOpen marks place →
    (e : Edge) × (slice_get es place ≡ Some e)
edge_of_mark kept es marks all place o =
    let many = as_many kept es marks all in
    let lt = slice_get_within marks place Mark.Open o in
    slice_get-some es place (omega (arith, many, lt))

-- ---- edges

pub edges_once : (graph : List (List ℕ)) → IsOnce (edges graph)
edges_once graph i j e a b =
    elim (cases_order i j) [
      | inl same ↦ same
      | inr o ↦ elim o [
        | inl lt ↦ absurd (apart i j e lt a b)
        | inr lt ↦ absurd (apart j i e lt b a)
      ]
    ]
  where
    apart : (i j : ℕ) (e : Edge) → i < j → slice_get (edges graph) i ≡ Some e → slice_get (edges graph) j ≡ Some e → ⊥
    apart i j e lt a b =
        distinct-apart (flat_map edges_on graph) i j e lt (slice_get_within (edges graph) j e b)
        (get_or_from_slice_get (edges graph) i e e a ∙ sym (get_or_from_slice_get (edges graph) j e e b))

opposite_end : (x y : End) → (x ≡ y) ⊎ (x ≡ opposite y)
opposite_end End.Low End.Low = inl refl
opposite_end End.Low End.High = inr refl
opposite_end End.High End.Low = inr refl
opposite_end End.High End.High = inl refl

other_than : (x y : End) → (x ≡ y → ⊥) → x ≡ opposite y
other_than x y ne = elim (opposite_end x y) [ inl e ↦ absurd (ne e) | inr e ↦ e ]

not_opposite : (x : End) → x ≡ opposite x → ⊥
not_opposite End.Low e = cc
not_opposite End.High e = cc

module _ (decided : DecidedLaw) (law : ImplicationLaw) (reach : ClosureReachLaw) (graph : List (List ℕ)) (f : Formula)
    (apart : All NeighboursDiffer graph) (fits : FitsGraph graph f) (inside : IsInside (λ n. n) f.net) (partners : HasPartners f.net.arcs)
    (servable : IsServable (paths_at graph f.paths)) (marks : List Mark) (all : AreMarks (paths_at graph f.paths) (edges graph) marks) where
  abbrev served : List (List ℕ)
  served = paths_at graph f.paths

  abbrev es : List Edge
  es = edges graph

  abbrev IsAt : ℕ → Edge → Type 0
  IsAt x e = slice_get es (lit_of x).edge ≡ Some e

  differing : All NeighboursDiffer served
  differing = paths_apart graph f apart fits

  rises : (x : ℕ) (e : Edge) → IsAt x e → e.0 < e.1
  rises x e at = rising graph apart (lit_of x).edge e at

  says_of : (k : ℕ) (end : End) (e : Edge) → e.0 < e.1 → slice_get es k ≡ Some e → Says es (lit_with k end) (order e end).0 (order e end).1
  says_of k End.Low e lt at = says_low es k e.0 e.1 lt at
  says_of k End.High e lt at = says_high es k e.0 e.1 lt at

  says : (x : ℕ) (e : Edge) → IsAt x e → Says es (lit_of x) (order e (lit_of x).over).0 (order e (lit_of x).over).1
  says x e at = says_of (lit_of x).edge (lit_of x).over e (rises x e at) at

  reaches : (x y : ℕ) (e g : Edge) → IsAt x e → IsAt y g → Reaches f.net.arcs x y ↔
      Closure served (order e (lit_of x).over).0 (order e (lit_of x).over).1 (order g (lit_of y).over).0 (order g (lit_of y).over).1
  reaches x y e g at bt = reach graph f x y _ _ _ _ apart fits (says x e at) (says y g bt)

  -- what is reached holds with the order
  leads : (x y : ℕ) (e g : Edge) → IsAt x e → IsAt y g → Reaches f.net.arcs x y → (O : Orientation) → Serves O served →
      O e.0 e.1 ≡ (lit_of x).over → O g.0 g.1 ≡ (lit_of y).over
  leads x y e g at bt r = led_to served e g (lit_of x).over (lit_of y).over (rises x e at) (rises y g bt) ((reaches x y e g at bt).0 r)

  edge_of_node : (x : ℕ) → x < f.net.nodes → (e : Edge) × IsAt x e
  edge_of_node x lt = let nodes = fits.nodes in slice_get-some es (lit_of x).edge (edge_below x (length es) (omega (arith, lt, nodes)))

  edge_of_open : (x : ℕ) → IsOpenNode marks x → (e : Edge) × IsAt x e
  edge_of_open x o = edge_of_mark served es marks all (lit_of x).edge o

  unforced : (x : ℕ) (e : Edge) → IsAt x e → IsOpenNode marks x → IsForced served e.0 e.1 → ⊥
  unforced x e at o = open_unforced served es marks all (lit_of x).edge e at o

  -- nothing but open orders stands between open orders
  between : (x b c : ℕ) → IsOpenNode marks x → Reaches f.net.arcs x b → HasArc f.net.arcs b c → IsOpenNode marks c → IsOpenNode marks b
  between x b c o r arc u =
      let e = edge_of_open x o in
      let g = edge_of_open c u in
      let h = edge_of_node b (inside.tails arc.0 b c arc.1) in
      elim (open_or_forced served es marks all (lit_of b).edge h.0 h.1) [
        | inl opens ↦ opens
        | inr forced ↦ elim (opposite_end (servable.0 h.0.0 h.0.1) (lit_of b).over) [
          | inl is ↦ (
              let always : (O : Orientation) → Serves O served → O g.0.0 g.0.1 ≡ (lit_of c).over =
              λ O serves. leads b c h.0 g.0 h.1 g.1 (along here arc) O serves (forced O servable.0 serves servable.1 ∙ is) in
              absurd (unforced c g.0 g.1 u (λ O O' serves serves'. always O serves ∙ sym (always O' serves')))
              )
          | inr is ↦ (
              let never : (O : Orientation) → Serves O served → O e.0.0 e.0.1 ≡ (lit_of x).over → ⊥ =
              λ O serves holds. not_opposite (lit_of b).over
              (sym (leads x b e.0 h.0 e.1 h.1 r O serves holds) ∙ forced O servable.0 serves servable.1 ∙ is) in
              absurd (unforced x e.0 e.1 o (λ O O' serves serves'.
              other_than (O e.0.0 e.0.1) (lit_of x).over (never O serves) ∙ sym (other_than (O' e.0.0 e.0.1) (lit_of x).over (never O' serves'))))
              )
        ]
      ]

  -- ---- counts

  -- an order and its opposite are of one edge
  opposite_at : (y : ℕ) (g : Edge) → IsAt y g → IsAt (opposite_node y) g
  opposite_at y g at = subst (λ (l : Literal). slice_get es l.edge ≡ Some g) (sym (lit_of_node (negated (lit_of y)))) at

  opposite_open : (y : ℕ) → IsOpenNode marks y → IsOpenNode marks (opposite_node y)
  opposite_open y o = subst (λ (l : Literal). IsOpen marks l.edge) (sym (lit_of_node (negated (lit_of y)))) o

  -- the edge of an order of an open edge
  abbrev edge_by : ℕ → Edge
  edge_by j = edge_at es (get_or (open_from 0 marks) (j / 2) 0)

  edge_by_narrow : (y : ℕ) (g : Edge) → IsOpenNode marks y → IsAt y g → edge_by (narrow_node marks y) ≡ g
  edge_by_narrow y g o at =
      let half = ap (λ (l : Literal). l.edge) (lit_of_node (lit_with (opens_before marks (lit_of y).edge) (lit_of y).over)) in
      ap (λ k. edge_at es (get_or (open_from 0 marks) k 0)) half ∙
      ap (edge_at es) (get_or_from_slice_get (open_from 0 marks) (opens_before marks (lit_of y).edge) (lit_of y).edge 0 (place_of_open marks (lit_of y).edge o)) ∙
      get_or_from_slice_get es (lit_of y).edge g (0, 0) at

  module _ (other : Net ℕ) (narrow : IsNarrowed marks (length (open_from 0 marks)) f.net other) (x : ℕ) (o : IsOpenNode marks x) (n : ℕ)
      (count : IsArrivalCount other other.nodes (narrow_node marks (opposite_node x)) n) (e : Edge) (at : IsAt x e) where
    abbrev pub end : End
    end = (lit_of x).over

    -- an order that is counted: it leads to the opposite of x, so its opposite follows from x
    record IsCounted (j : ℕ) : Type 0 where
      node : ℕ
      edge : Edge
      is_open : IsOpenNode marks node
      is : j ≡ narrow_node marks node
      reached : Reaches f.net.arcs x (opposite_node node)
      stands : IsAt node edge

    counted : (j : ℕ) → Contains count.nodes j → IsCounted j
    counted j c =
        let r = (count.exact j).0 c in
        let d = down marks (length (open_from 0 marks)) f.net other narrow (opposite_node x) (opposite_open x o) r.1 in
        let g = edge_of_open d.0 d.1 in
        record {
          node = d.0;
          edge = g.0;
          is_open = d.1;
          is = d.2;
          reached = subst (λ y. Reaches f.net.arcs y (opposite_node d.0)) (opposite_node_twice x) (reach_back f.net.arcs partners d.3);
          stands = g.1;
        }

    edge_is : (j : ℕ) (k : IsCounted j) → edge_by j ≡ k.edge
    edge_is j k = ap edge_by k.is ∙ edge_by_narrow k.node k.edge k.is_open k.stands

    has_end : (j : ℕ) (k : IsCounted j) (O : Orientation) → Serves O served → O e.0 e.1 ≡ end → O k.edge.0 k.edge.1 ≡ (lit_of (opposite_node k.node)).over
    has_end j k O serves is = leads x (opposite_node k.node) e k.edge at (opposite_at k.node k.edge k.stands) k.reached O serves is

    abbrev found : List Edge
    found = map edge_by count.nodes

    of_found : (g : Edge) → Contains found g → IsOpenOf served es g × IsForcedBy served e end g
    of_found g c =
        let h = has-from_Contains found g c in
        let p = slice_get-unmap edge_by count.nodes h.0 g h.1 in
        let k = counted p.0 (Contains-from_has count.nodes p.0 (h.0, p.1)) in
        let same : k.edge ≡ g = sym (edge_is p.0 k) ∙ p.2 in
        subst (λ (g : Edge). IsOpenOf served es g × IsForcedBy served e end g) same (
          (Contains-from_has es k.edge ((lit_of k.node).edge, k.stands), unforced k.node k.edge k.stands k.is_open),
          λ O O' serves serves' is is'. has_end p.0 k O serves is ∙ sym (has_end p.0 k O' serves' is'),
        )

    in_found : (g : Edge) → IsOpenOf served es g × IsForcedBy served e end g → Contains found g
    in_found g (opens, forced) =
        let p = has-from_Contains es g opens.0 in
        let c = in_closure decided law served differing servable e g end (rises x e at) (rising graph apart p.0 g p.1) (unforced x e at o) opens.1 forced in
        there p.0 p.1 c.0 c.1
      where
        -- the opposite of the order that follows is counted
        there : (place : ℕ) → slice_get es place ≡ Some g → (z : End) → Closure served (order e end).0 (order e end).1 (order g z).0 (order g z).1 → Contains found g
        there place stands z closed =
            let y = node_of (lit_with place z) in
            let is = lit_of_node (lit_with place z) in
            let bt : IsAt y g = subst (λ (m : Literal). slice_get es m.edge ≡ Some g) (sym is) stands in
            let u : IsOpenNode marks y = subst (λ (m : Literal). IsOpen marks m.edge) (sym is) (unforced_open served es marks all place g stands opens.1) in
            let r : Reaches f.net.arcs x y = (reaches x y e g at bt).1
            (subst (λ (z : End). Closure served (order e end).0 (order e end).1 (order g z).0 (order g z).1) (ap (λ (m : Literal). m.over) (sym is)) closed) in
            of_node (opposite_node y) (opposite_open y u) (opposite_at y g bt) (reach_back f.net.arcs partners r)
          where
            of_node : (v : ℕ) → IsOpenNode marks v → IsAt v g → Reaches f.net.arcs v (opposite_node x) → Contains found g
            of_node v w vt r =
                let s = up marks (length (open_from 0 marks)) f.net other narrow between v w r (opposite_open x o) in
                let below = narrow_below marks v w in
                let nodes = narrow.nodes in
                let has = (count.exact (narrow_node marks v)).1 (omega (arith, below, nodes), s) in
                subst (Contains found) (edge_by_narrow v g w vt) (Contains-map edge_by count.nodes (narrow_node marks v) has)

    -- two orders that are counted are of two edges: both orders of one would hold
    same_counted : (j j' : ℕ) (k : IsCounted j) (l : IsCounted j') → k.edge ≡ l.edge → j ≡ j'
    same_counted j j' k l edge =
        let place = edges_once graph (lit_of k.node).edge (lit_of l.node).edge l.edge (k.stands ∙ ap Some edge) l.stands in
        let w = some_end decided law served differing servable e end (rises x e at) (unforced x e at o) in
        let over : (lit_of (opposite_node k.node)).over ≡ (lit_of (opposite_node l.node)).over =
        sym (has_end j k w.0 w.1 w.2) ∙ ap (λ (g : Edge). w.0 g.0 g.1) edge ∙ has_end j' l w.0 w.1 w.2 in
        k.is ∙ ap (narrow_node marks) (same_opposite k.node l.node place over) ∙ sym l.is
      where
        same_opposite : (a b : ℕ) → (lit_of a).edge ≡ (lit_of b).edge → (lit_of (opposite_node a)).over ≡ (lit_of (opposite_node b)).over → a ≡ b
        same_opposite a b edge over =
            let there = lit_of_node (negated (lit_of a)) in
            let back = lit_of_node (negated (lit_of b)) in
            let ends : opposite (lit_of a).over ≡ opposite (lit_of b).over =
            sym (ap (λ (m : Literal). m.over) there) ∙ over ∙ ap (λ (m : Literal). m.over) back in
            let end_is = sym (opposite_twice (lit_of a).over) ∙ ap opposite ends ∙ opposite_twice (lit_of b).over in
            sym (node_of_lit a) ∙ ap (λ m. node_of (lit_with m (lit_of a).over)) edge ∙ ap (λ m. node_of (lit_with (lit_of b).edge m)) end_is ∙ node_of_lit b

    found_once : IsOnce found
    found_once i j g a b =
        let p = slice_get-unmap edge_by count.nodes i g a in
        let q = slice_get-unmap edge_by count.nodes j g b in
        let k = counted p.0 (Contains-from_has count.nodes p.0 (i, p.1)) in
        let l = counted q.0 (Contains-from_has count.nodes q.0 (j, q.1)) in
        let same = same_counted p.0 q.0 k l (sym (edge_is p.0 k) ∙ p.2 ∙ sym q.2 ∙ edge_is q.0 l) in
        count.once i j q.0 (p.1 ∙ ap Some same) q.1

    pub forces : ForcesSoMany served es e end n
    forces = (
      found,
      record { once = found_once; exact = λ g. (of_found g, in_found g) },
      length-map count.nodes edge_by ∙ count.many,
    )
