-- The labels of an orientation: the paths that it serves are valley-free under them.
use Rattle.std.proofs.Common.{◌≡◌, ℕ, ◌<◌, List, [], length, get_or, map, sym, ap, ◌∙◌, subst, arith, All, Contains, Some, slice_get}
use Rattle.std.proofs.lemmas.Option.{slice_get-get_or}
use Rattle.std.proofs.lemmas.List.{length-map, get_or-map}
use Rattle.std.proofs.lemmas.List.Elements.{Contains-get_or}
use Rattle.std.specs.List.{flat_map}
use Rattle.relationships.specs.declared.label.End.{End}
use Rattle.relationships.specs.declared.label.Label.{Label}
use Rattle.relationships.specs.Relationship.{label_of, labels_of, ValleyFree, Serves}
use Rattle.relationships.specs.Graph.{Edge, edges, edges_on, orientation, labelling}
use Rattle.relationships.proofs.Edges.{relaxing_law}
use Rattle.relationships.proofs.Neighbours.{edge_law}
use Rattle.as_graph.specs.Paths.{path_at, paths_at}
use Rattle.as_graph.proofs.Labelled.{NoneTwice-distinct, labelling_at, orientation_at}

-- the edges of the paths at some places are edges of all the paths
edge_among : (paths : List (List ℕ)) (places : List ℕ) (e : Edge) → All (λ q. q < length paths) places → Contains (edges (paths_at paths places)) e → Contains (edges paths) e
edge_among paths places e there c =
    let near = ((edge_law (paths_at paths places)).1 e).0 c in
    ((edge_law paths).1 e).1 (near.0, near.1, (near.2.0, among near.2.0 near.2.1, near.2.2), near.3)
  where
    among : (path : List ℕ) → Contains (paths_at paths places) path → Contains paths path
    among path c =
        let n = length-map places (path_at paths) in
        let lt = c.1 in
        let k_lt : c.0 < length places = omega (arith, n, lt) in
        let is : path_at paths (get_or places c.0 0) ≡ path = sym (get_or-map (path_at paths) places c.0 0 path k_lt) ∙ c.2 in
        subst (Contains paths) is (Contains-get_or paths (get_or places c.0 0) [] (there c.0 0 k_lt))

-- an edge of theirs has the label of its provider
agree : (graph : List (List ℕ)) (places : List ℕ) (ends : List End) → All (λ q. q < length graph) places → length ends ≡ length (edges graph) → (e : Edge) →
    Contains (edges (paths_at graph places)) e → labelling (edges graph) (map label_of ends) e.0 e.1 ≡ label_of (orientation (edges graph) ends e.0 e.1)
agree graph places ends there many e c =
    let at = edge_among graph places e there c in
    let j = at.0 in
    let lt = at.1 in
    let n = length-map ends label_of in
    let j_lt : j < length ends = omega (arith, lt, many) in
    let is : slice_get (edges graph) j ≡ Some e = slice_get-get_or (edges graph) j e lt ∙ ap (λ (f : Edge). Some f) at.2 in
    let once = NoneTwice-distinct (flat_map edges_on graph) in
    labelling_at (edges graph) (map label_of ends) j e.0 e.1 Label.Peer once is (omega (arith, n, j_lt)) ∙ get_or-map label_of ends j End.Low Label.Peer j_lt ∙
    sym (ap label_of (orientation_at (edges graph) ends j e.0 e.1 End.Low once is j_lt))

pub labels_serve : (graph : List (List ℕ)) (places : List ℕ) (ends : List End) (labels : List Label) → All (λ q. q < length graph) places →
    length ends ≡ length (edges graph) → labels ≡ map label_of ends → Serves (orientation (edges graph) ends) (paths_at graph places) →
    All (ValleyFree (labelling (edges graph) labels)) (paths_at graph places)
labels_serve graph places ends labels there many are serves =
    subst (λ ls. All (ValleyFree (labelling (edges graph) ls)) (paths_at graph places)) (sym are)
    (relaxing_law (labels_of (orientation (edges graph) ends)) (labelling (edges graph) (map label_of ends)) (paths_at graph places)
    (λ k d within.
    let kept = edges (paths_at graph places) in
    let same = agree graph places ends there many (get_or kept k d) (Contains-get_or kept k d within) in
    (λ e. same ∙ e, λ e. same ∙ e)) serves)
