-- The orders of labels, and the steps of kept paths from one to the next: where a path goes down from x to y and on to z, "y over z"
-- follows from "x over y", and "y over x" from "z over y".
use Rattle.std.specs.Prelude.{◌≡◌, ℕ, List, Option, Some, length, slice_get, get_or, Contains, IsTrue, MatchOption}
use Rattle.relationships.specs.declared.label.Label.{Label}
use Rattle.relationships.specs.declared.mark.Mark.TheVariants as mark
use Rattle.relationships.specs.declared.walk.Link.{Link}
use Rattle.relationships.specs.Relationship.{Labelling, is_over}
use Rattle.relationships.specs.Graph.{Edge, edge_of}
use Rattle.relationships.specs.Evidence.{TripleAt, Numbered, Fits}
use Rattle.tor_digraph.specs.Walks.{Net, IsArc, HasArc}
use Rattle.tor_digraph.specs.Closing.{IsOnce}
use Rattle.relationships.specs.declared.fate.Fate.TheVariants as fate
use Rattle.result_text.specs.declared.file.EdgeLine.{EdgeLine}
use Rattle.result_text.specs.declared.file.PathLine.{PathLine}
use Rattle.result_text.specs.declared.file.ResultFile.{ResultFile}
use Rattle.result_rules.specs.File.{its_edges, its_labels, its_kept}
use Rattle.telling.specs.Labelling.{HaveLabelsTo}
use Rattle.telling.specs.Told.{edge_on}

-- these are edges of the result, all open ones among them, each once and with its label in the same place
pub record HaveLabels (file : ResultFile) (es : List Edge) (labels : List Label) : Type 0 where
  pub opens : (line : EdgeLine) → Contains file.edges line → line.mark ≡ mark.Open → Contains es (edge_on line)
  pub only : (e : Edge) → Contains es e → Contains (its_edges file) e
  pub once : IsOnce es
  pub many : length labels ≡ length es
  pub labelled : HaveLabelsTo (its_labels file) file.edges (length file.edges) es labels

-- the edge in place u is that of x and y, and its label has x over y
pub record HasOver (L : Labelling) (es : List Edge) (u x y : ℕ) : Type 0 where
  pub at : slice_get es u ≡ Some (edge_of x y)
  pub over : IsTrue (is_over L x y)

-- the link leads down from the edge in place u to that in place v
pub record IsDown (L : Labelling) (A : Numbered) (es : List Edge) (u v : ℕ) (link : Link) : Type 0 where
  pub x : ℕ
  pub y : ℕ
  pub z : ℕ
  pub from : HasOver L es u x y
  pub to : HasOver L es v y z
  pub fits : Fits A link x y z

-- the edge of the ASes in two places of a path
abbrev pub step_edge : List ℕ → (a b : ℕ) → Edge
step_edge path a b = edge_of (get_or path a 0) (get_or path b 0)

-- the edge stands in this place; without a place it isn't there
abbrev pub IsPlaceIn : List Edge → Edge → Option ℕ → Type 0
IsPlaceIn es e place = MatchOption place (Contains es e → ⊥) (λ k. slice_get es k ≡ Some e)

-- each arc has a link that leads down along it
pub record HaveLinks (L : Labelling) (A : Numbered) (es : List Edge) (arcs : List (ℕ × ℕ)) (links : List Link) : Type 0 where
  pub as_many : length links ≡ length arcs
  pub each : (k u v : ℕ) → IsArc arcs k u v → (link : Link) × (slice_get links k ≡ Some link) × IsDown L A es u v link

-- where the label has x over y, and both edges are there, an arc leads from the one to the other
abbrev pub HasDown : Labelling → List Edge → List (ℕ × ℕ) → (x y z : ℕ) → Type 0
HasDown L es arcs x y z = IsTrue (is_over L x y) → Contains es (edge_of x y) → Contains es (edge_of y z) →
    (u v : ℕ) × HasOver L es u x y × HasOver L es v y z × HasArc arcs u v

-- and so about this place of the path, in either direction
abbrev pub HasDownAt : Labelling → List Edge → List (ℕ × ℕ) → List ℕ → ℕ → Type 0
HasDownAt L es arcs path at = (x y z : ℕ) → TripleAt path at x y z → HasDown L es arcs x y z

-- and so about each place
abbrev pub HasDowns : Labelling → List Edge → List (ℕ × ℕ) → List ℕ → Type 0
HasDowns L es arcs path = (at : ℕ) → HasDownAt L es arcs path at

-- and so about each place of the path in this place, from 0, if it is kept
abbrev pub HasLineDowns : ResultFile → List Edge → List (ℕ × ℕ) → ℕ → Type 0
HasLineDowns file es arcs k = (line : PathLine) → slice_get file.paths k ≡ Some line → line.fate ≡ fate.Kept →
    HasDowns (its_labels file) es arcs line.path

-- each arc is still there
abbrev pub StillHas : (old new : List (ℕ × ℕ)) → Type 0
StillHas old new = (u v : ℕ) → HasArc old u v → HasArc new u v

-- the arcs of the kept paths down from label to label, and their links
pub record AreDowns (file : ResultFile) (es : List Edge) (net : Net ℕ) (named : List Link) : Type 0 where
  pub nodes : net.nodes ≡ length es
  pub links : HaveLinks (its_labels file) (its_kept file) es net.arcs named
