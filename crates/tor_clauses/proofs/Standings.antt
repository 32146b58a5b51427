-- Where the triples of paths stand, and what their arcs say.
use Rattle.std.proofs.Common.{◌≡◌, ℕ, ◌+◌, ◌/◌, ◌<◌, inl, inr, List, [], ◌∷◌, ◌++◌, Some, length, flat_map, refl, sym, ap, ◌∙◌, subst, arith, append_assoc, All, true}
use Rattle.std.specs.Prelude.{slice_get}
use Rattle.std.proofs.lemmas.List.{length_push}
use Rattle.std.proofs.lemmas.List.Elements.{Contains-get_or}
use Rattle.std.proofs.lemmas.Option.{slice_get_within, same_Some}
use Rattle.relationships.specs.declared.walk.Link.{Link}
use Rattle.relationships.specs.Graph.{Edge, edge_of, edges}
use Rattle.relationships.specs.Evidence.{NeighboursDiffer, StandAt, TripleAt, Fits}
use Rattle.relationships.proofs.WalkLemmas.{apart_at, apart_next}
use Rattle.tor_digraph.specs.Walks.{IsArc, HasArc}
use Rattle.as_graph.specs.Paths.{path_at}
use Rattle.tor_clauses.specs.declared.triple.Triple.{Triple}
use Rattle.tor_clauses.specs.Literals.{Literal, negated, node_of, lit_of, over, Says}
use Rattle.tor_clauses.specs.Triples.{triples_from, triples_along, triples_on, arc_of, partner_of, arcs_of, is_same_triple}
use Rattle.tor_clauses.specs.Formulas.{Formula, FitsGraph, numbered, IsLinkOf}
use Rattle.tor_clauses.proofs.Members.{In, In-get, get-In, In-flat_map, flat_map-In, In-Contains, Contains-In, In-map, All-In}
use Rattle.tor_clauses.proofs.LiteralLemmas.{lit_of_node}
use Rattle.tor_clauses.proofs.Sames.{triple-In, In-triple, Same-arc, Same-partner}
use Rattle.tor_clauses.proofs.Arcs.{triple_at}
use Rattle.tor_clauses.proofs.Overs.{edge-In, over-reversed, Says-over, Says-negated}

-- three consecutive ASes of a path, and their triple
pub record Stands (es : List Edge) (path : ℕ) (p : List ℕ) (t : Triple) : Type 0 where
  pub x : ℕ
  pub y : ℕ
  pub z : ℕ
  pub stand : StandAt p t.at x y z
  pub named : t.path ≡ path
  pub first : t.first ≡ over es x y
  pub second : t.second ≡ over es y z

stands_from : (es : List Edge) (path : ℕ) (before : List ℕ) (at x y : ℕ) (rest : List ℕ) (t : Triple) → at ≡ length before + 2 →
    In t (triples_from es path at x y rest) → Stands es path (before ++ (x ∷ y ∷ rest)) t
stands_from es path before at x y [] t e h = absurd h
stands_from es path before at x y (z ∷ rest) t e (inl h) = subst (Stands es path (before ++ (x ∷ y ∷ z ∷ rest))) h (record {
  x = x;
  y = y;
  z = z;
  stand = record { before = before; after = rest; whole = refl; place = e };
  named = refl;
  first = refl;
  second = refl;
})
stands_from es path before at x y (z ∷ rest) t e (inr h) =
    let l : length (before ++ (x ∷ [])) ≡ length before + 1 = length_push before x in
    subst (λ p. Stands es path p t) (append_assoc before (x ∷ []) (y ∷ z ∷ rest))
    (stands_from es path (before ++ (x ∷ [])) (at + 1) y z rest t (omega (arith, e, l)) h)

pub stands_along : (es : List Edge) (path : ℕ) (p : List ℕ) (t : Triple) → In t (triples_along es path p) → Stands es path p t
stands_along es path [] t h = absurd h
stands_along es path (x ∷ []) t h = absurd h
stands_along es path (x ∷ y ∷ rest) t h = stands_from es path [] 2 x y rest t refl h

-- the triple of three consecutive ASes
abbrev triple_of : List Edge → ℕ → ℕ → ℕ → ℕ → ℕ → Triple
triple_of es path at x y z = record { path = path; at = at; first = over es x y; second = over es y z }

abbrev along : List Edge → ℕ → ℕ → List ℕ → List Triple
along es path at [] = []
along es path at (x ∷ []) = []
along es path at (x ∷ y ∷ rest) = triples_from es path at x y rest

along_is : (es : List Edge) (path : ℕ) (p : List ℕ) → along es path 2 p ≡ triples_along es path p
along_is es path [] = refl
along_is es path (x ∷ []) = refl
along_is es path (x ∷ y ∷ rest) = refl

along_behind : (es : List Edge) (path at a : ℕ) (p : List ℕ) (t : Triple) → In t (along es path (at + 1) p) → In t (along es path at (a ∷ p))
along_behind es path at a [] t h = absurd h
along_behind es path at a (b ∷ []) t h = absurd h
along_behind es path at a (b ∷ c ∷ rest) t h = inr h

in_along : (es : List Edge) (path at : ℕ) (before : List ℕ) (x y z : ℕ) (after : List ℕ) (m : ℕ) → m ≡ at + length before →
    In (triple_of es path m x y z) (along es path at (before ++ (x ∷ y ∷ z ∷ after)))
in_along es path at [] x y z after m e = let k : at ≡ m = omega (arith, e) in inl (ap (λ n. triple_of es path n x y z) k)
in_along es path at (a ∷ before) x y z after m e =
    along_behind es path at a (before ++ (x ∷ y ∷ z ∷ after)) (triple_of es path m x y z)
    (in_along es path (at + 1) before x y z after m (omega (arith, e)))

pub In-stands : (es : List Edge) (path : ℕ) (p : List ℕ) (at x y z : ℕ) → StandAt p at x y z → In (triple_of es path at x y z) (triples_along es path p)
In-stands es path p at x y z s =
    subst (λ q. In (triple_of es path at x y z) (triples_along es path q)) (sym s.whole)
    (subst (In (triple_of es path at x y z)) (along_is es path (s.before ++ (x ∷ y ∷ z ∷ s.after)))
    (in_along es path 2 s.before x y z s.after at (let e = s.place in omega (arith, e))))

-- ---- the arcs of clauses that fit a graph

module _ (graph : List (List ℕ)) (f : Formula) (apart : All NeighboursDiffer graph) (fits : FitsGraph graph f) where
  path-In : (path : ℕ) → In path f.paths → In (path_at graph path) graph
  path-In path h = Contains-In (path_at graph path) graph (Contains-get_or graph path [] (All-In (λ q. q < length graph) f.paths fits.there path h))

  path-apart : (path : ℕ) → In path f.paths → NeighboursDiffer (path_at graph path)
  path-apart path h = All-In NeighboursDiffer graph apart (path_at graph path) (path-In path h)

  -- what the literals of a triple say
  pub says_first : (path : ℕ) (at x y z : ℕ) → In path f.paths → StandAt (path_at graph path) at x y z → Says (edges graph) (over (edges graph) x y) x y
  says_first path at x y z h s =
      Says-over (edges graph) x y (edge-In graph (path_at graph path) s.before x y (z ∷ s.after) (path-In path h) s.whole)
      (apart_at s.before x y (z ∷ s.after) (subst NeighboursDiffer s.whole (path-apart path h)))

  pub says_second : (path : ℕ) (at x y z : ℕ) → In path f.paths → StandAt (path_at graph path) at x y z → Says (edges graph) (over (edges graph) y z) y z
  says_second path at x y z h s =
      Says-over (edges graph) y z
      (edge-In graph (path_at graph path) (s.before ++ (x ∷ [])) y z s.after (path-In path h) (s.whole ∙ sym (append_assoc s.before (x ∷ []) (y ∷ z ∷ s.after))))
      (apart_next s.before x y z s.after (subst NeighboursDiffer s.whole (path-apart path h)))

  pub says_both : (path at x y z : ℕ) → In path f.paths → TripleAt (path_at graph path) at x y z →
      Says (edges graph) (over (edges graph) x y) x y × Says (edges graph) (over (edges graph) y z) y z
  says_both path at x y z h (inl s) = (says_first path at x y z h s, says_second path at x y z h s)
  says_both path at x y z h (inr s) = (reversed_says y x (says_second path at z y x h s), reversed_says z y (says_first path at z y x h s))
    where
      reversed_says : (b a : ℕ) → Says (edges graph) (over (edges graph) b a) b a → Says (edges graph) (over (edges graph) a b) a b
      reversed_says b a s = subst (λ l. Says (edges graph) l a b) (sym (over-reversed (edges graph) b a s.two)) (Says-negated (edges graph) (over (edges graph) b a) b a s)

  -- the literals of a triple are those of edges
  pub triple_within : (t : Triple) → In t f.triples → (t.first.edge < length (edges graph)) × (t.second.edge < length (edges graph))
  triple_within t h =
      let of = flat_map-In (triples_on graph) t f.paths (triple-In t (flat_map (triples_on graph) f.paths) (subst (In t) fits.triples h)) in
      let s = stands_along (edges graph) of.0 (path_at graph of.0) t of.2 in
      let one = subst (λ l. Says (edges graph) l s.x s.y) (sym s.first) (says_first of.0 t.at s.x s.y s.z of.1 s.stand) in
      let two = subst (λ l. Says (edges graph) l s.y s.z) (sym s.second) (says_second of.0 t.at s.x s.y s.z of.1 s.stand) in
      (slice_get_within (edges graph) t.first.edge (edge_of s.x s.y) one.edge, slice_get_within (edges graph) t.second.edge (edge_of s.y s.z) two.edge)

  link_with : (path at x y z : ℕ) → In path f.paths → TripleAt (path_at graph path) at x y z → Fits (numbered graph f.paths) (record { path = path + 1; at = at }) x y z
  link_with path at x y z h t =
      (path_at graph path, In-Contains (path + 1, path_at graph path) (numbered graph f.paths) (In-map (λ q. (q + 1, path_at graph q)) path f.paths h), t)

  says_node : (l : ℕ) (m : Literal) (x y : ℕ) → l ≡ node_of m → Says (edges graph) m x y → Says (edges graph) (lit_of l) x y
  says_node l m x y e s = subst (λ k. Says (edges graph) k x y) (sym (lit_of_node m) ∙ ap lit_of (sym e)) s

  first_same : {a b : Edge} → a ≡ b → a.0 ≡ b.0
  first_same h = ap (λ (g : Edge). g.0) h

  second_same : {a b : Edge} → a ≡ b → a.1 ≡ b.1
  second_same h = ap (λ (g : Edge). g.1) h

  -- the link of an arc fits
  pub link_fits : (k l m : ℕ) (t : Triple) → IsArc f.net.arcs k l m → slice_get f.triples (k / 2) ≡ Some t →
      IsLinkOf graph f.paths (record { path = t.path + 1; at = t.at }) l m
  link_fits k l m t arc there =
      let r = triple_at f.triples k (l, m) (subst (λ arcs. slice_get arcs k ≡ Some (l, m)) fits.arcs arc) in
      let same : r.t ≡ t = same_Some _ _ (sym r.there ∙ there) in
      let of = flat_map-In (triples_on graph) t f.paths (triple-In t (flat_map (triples_on graph) f.paths) (subst (In t) fits.triples (get-In f.triples (k / 2) t there))) in
      let s = stands_along (edges graph) of.0 (path_at graph of.0) t of.2 in
      let first = says_first of.0 t.at s.x s.y s.z of.1 s.stand in
      let second = says_second of.0 t.at s.x s.y s.z of.1 s.stand in
      let one = subst (λ l. Says (edges graph) l s.x s.y) (sym s.first) first in
      let two = subst (λ l. Says (edges graph) l s.y s.z) (sym s.second) second in
      let link : ◌≡◌ {A = Link} (record { path = of.0 + 1; at = t.at }) (record { path = t.path + 1; at = t.at }) = ap (λ q. record { path = q + 1; at = t.at }) (sym s.named) in
      elim r.is [
        | inl e ↦ record {
          x = s.x;
          y = s.y;
          z = s.z;
          tail = says_node l t.first s.x s.y (first_same e ∙ ap (λ (u : Triple). node_of u.first) same) one;
          head = says_node m t.second s.y s.z (second_same e ∙ ap (λ (u : Triple). node_of u.second) same) two;
          fits = subst (λ w. Fits (numbered graph f.paths) w s.x s.y s.z) link (link_with of.0 t.at s.x s.y s.z of.1 (inl s.stand));
        }
        | inr e ↦ record {
          x = s.z;
          y = s.y;
          z = s.x;
          tail = says_node l (negated t.second) s.z s.y (first_same e ∙ ap (λ (u : Triple). node_of (negated u.second)) same) (Says-negated (edges graph) t.second s.y s.z two);
          head = says_node m (negated t.first) s.y s.x (second_same e ∙ ap (λ (u : Triple). node_of (negated u.first)) same) (Says-negated (edges graph) t.first s.x s.y one);
          fits = subst (λ w. Fits (numbered graph f.paths) w s.z s.y s.x) link (link_with of.0 t.at s.z s.y s.x of.1 (inr s.stand));
        }
      ]

  has_arc : (path : ℕ) (t : Triple) → In path f.paths → In t (triples_on graph path) → (a : Edge) → ((u : Triple) → is_same_triple u t ≡ true → In a (arcs_of u)) → HasArc f.net.arcs a.0 a.1
  has_arc path t h i a arc =
      let u = In-triple t (flat_map (triples_on graph) f.paths) (In-flat_map (triples_on graph) path t f.paths h i) in
      let there = In-flat_map arcs_of u.0 a f.triples (subst (In u.0) (sym fits.triples) u.1) (arc u.0 u.2) in
      In-get a f.net.arcs (subst (In a) (sym fits.arcs) there)

  -- each triple of a path has its arc
  pub arc_there : (path at x y z : ℕ) → In path f.paths → TripleAt (path_at graph path) at x y z →
      HasArc f.net.arcs (node_of (over (edges graph) x y)) (node_of (over (edges graph) y z))
  arc_there path at x y z h (inl s) =
      has_arc path (triple_of (edges graph) path at x y z) h (In-stands (edges graph) path (path_at graph path) at x y z s)
      (arc_of (triple_of (edges graph) path at x y z)) (λ u e. Same-arc u (triple_of (edges graph) path at x y z) e)
  arc_there path at x y z h (inr s) =
      let one : over (edges graph) x y ≡ negated (over (edges graph) y x) = over-reversed (edges graph) y x (says_second path at z y x h s).two in
      let two : over (edges graph) y z ≡ negated (over (edges graph) z y) = over-reversed (edges graph) z y (says_first path at z y x h s).two in
      subst (λ l. HasArc f.net.arcs (node_of l) (node_of (over (edges graph) y z))) (sym one)
      (subst (λ l. HasArc f.net.arcs (node_of (negated (over (edges graph) y x))) (node_of l)) (sym two)
      (has_arc path (triple_of (edges graph) path at z y x) h (In-stands (edges graph) path (path_at graph path) at z y x s) (partner_of (triple_of (edges graph) path at z y x))
      (λ u e. Same-partner u (triple_of (edges graph) path at z y x) e)))
