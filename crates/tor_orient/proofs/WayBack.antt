-- The way by which a search has come to a node, from its end on.
use Rattle.std.proofs.Common.{◌≡◌, ℕ, ◌*◌, ◌<◌, inl, inr, Bool, List, [], Some, length, sym, ap, ◌∙◌, subst, arith, Contains}
use Rattle.std.specs.Prelude.{slice_get}
use Rattle.std.proofs.lemmas.Option.{same_Some}
use Rattle.tor_digraph.specs.Walks.{IsArc, HasArc, Reaches, here, along}
use Rattle.tor_digraph.specs.NodeSets.{IsAdded}
use Rattle.tor_digraph.specs.Trails.{StandsAt, IsTrail}
use Rattle.tor_digraph.specs.declared.trail.Origin.{Origin}
use Rattle.tor_digraph.specs.declared.trail.Trail.{Trail}
use Rattle.tor_digraph.proofs.Closings.{reaches_trans}
use Rattle.tor_digraph.proofs.Trails.{trail_origin}
use Rattle.tor_digraph.proofs.Members.{Contains-one_more}
use Rattle.tor_arena.proofs.Gets.{none-in, slice_get-push_last}
use Rattle.relationships.specs.declared.label.End.{End}
use Rattle.gao_prefs.specs.declared.preferring.Pref.{Pref}
use Rattle.as_graph.specs.EdgeSteps.{side}
use Rattle.tor_clauses.proofs.Sides.{edge_opposite}
use Rattle.tor_orient.specs.Steps.{node_wanted, HasOpposites, IsLast}

-- with each node of so many edges its opposite is there
pub opposites_there : (edges count : ℕ) → count ≡ edges * 2 → HasOpposites count
opposites_there edges count twice n lt = let same = edge_opposite n in omega (arith, twice, lt, same)

-- and so is the node that a preference for one of them wants
pub wanted_there : (p : Pref) (edges count : ℕ) → count ≡ edges * 2 → p.edge < edges → node_wanted p < count
wanted_there p edges count twice lt = let less = side_less p.wanted in omega (arith, twice, lt, less)
  where
    side_less : (e : End) → side e < 2
    side_less End.Low = omega arith
    side_less End.High = omega arith

-- what stands last stands at some place
pub last_stands : (node : ℕ) (nodes : List ℕ) → IsLast node nodes → (place : ℕ) × StandsAt nodes place node
last_stands node nodes last = (length last.0, ap (λ (l : List ℕ). slice_get l (length last.0)) last.1 ∙ slice_get-push_last last.0 node)

-- a node was found along an arc from the one that stands at the place of its origin
pub origin_arc : (arcs : List (ℕ × ℕ)) (start : ℕ) (trail : Trail) → IsTrail arcs start trail → (place node tail : ℕ) (o : Origin) → 0 < place →
    StandsAt trail.nodes.items place node → slice_get trail.origins place ≡ Some o → StandsAt trail.nodes.items o.place tail → HasArc arcs tail node
origin_arc arcs start trail t place node tail o more at noted there =
    let r = trail_origin arcs start trail t place o more noted in
    let same_tail : r.0 ≡ tail = same_Some r.0 tail (sym r.2 ∙ there) in
    let same_node : r.1 ≡ node = same_Some r.1 node (sym r.3 ∙ at) in
    (o.arc, subst (λ n. IsArc arcs o.arc tail n) same_node (subst (λ n. IsArc arcs o.arc n r.1) same_tail r.4))

-- from a tail lead the arc to its head, and all that leads on from there
pub leads_more : (arcs : List (ℕ × ℕ)) (node tail : ℕ) → HasArc arcs tail node → (is_new : Bool) (old new : List ℕ) → IsAdded node is_new old new →
    ((n : ℕ) → Contains old n → Reaches arcs node n) → (n : ℕ) → Contains new n → Reaches arcs tail n
leads_more arcs node tail arc is_new old new added leads n h = elim added [
  | inl a ↦ elim (Contains-one_more old node n (subst (λ (l : List ℕ). Contains l n) a.2 h)) [
    | inl was ↦ reaches_trans first (leads n was)
    | inr is ↦ subst (Reaches arcs tail) (sym is) first
  ]
  | inr a ↦ reaches_trans first (leads n (subst (λ (l : List ℕ). Contains l n) a.2 h))
]
  where
    first : Reaches arcs tail node
    first = along here arc

-- nothing lies behind yet
pub leads_none : {P : Type 0} (nodes : List ℕ) (n : ℕ) → nodes ≡ [] → Contains nodes n → P
leads_none nodes n none h = absurd (none-in none h)
