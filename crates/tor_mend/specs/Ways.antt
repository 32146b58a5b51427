-- Why an arc can't be met, and ways that are remembered.
use Rattle.std.specs.Prelude.{◌≡◌, ℕ, ◌+◌, ◌-◌, ◌<◌, ◌≤◌, List, Some, length, slice_get}
use Rattle.tor_digraph.specs.Walks.{IsArc}
use Rattle.tor_digraph.specs.declared.way.Way.{Way}
use Rattle.tor_clauses.specs.Literals.{opposite_node}
use Rattle.tor_clauses.specs.Rounds.{IsLed, LeadsOn}
use Rattle.tor_mend.specs.declared.refuting.Conflict.{Conflict}
use Rattle.tor_mend.specs.declared.known.Part.{Part}
use Rattle.tor_mend.specs.declared.known.Known.{Known}

-- the way has gone on along the arcs of another but for the first, so many, and as many of the last, from the node where these begin to
-- the one where they end
abbrev pub GoesAlongMiddle : List (ℕ × ℕ) → Way ℕ ℕ → ℕ → Way ℕ ℕ → Way ℕ ℕ → Type 0
GoesAlongMiddle arcs along skip old new = (from to x y : ℕ) → IsLed arcs along from to → slice_get along.nodes skip ≡ Some x →
    slice_get along.nodes (length along.arcs - skip) ≡ Some y → LeadsOn arcs old new x y

-- the arc leads to the head, and the way leads from the negation of its tail to its tail
abbrev pub IsRest : List (ℕ × ℕ) → ℕ → ℕ → Way ℕ ℕ → Type 0
IsRest arcs arc head rest = (tail : ℕ) × IsArc arcs arc tail head × IsLed arcs rest (opposite_node tail) tail

-- why the arc can't be met: its head leads to its negation, and the negation of its tail to its tail
pub record IsConflict (arcs : List (ℕ × ℕ)) (arc : ℕ) (d : Conflict) : Type 0 where
  pub there : (l m : ℕ) → IsArc arcs arc l m → IsLed arcs d.there m (opposite_node m)
  pub rest : (l m : ℕ) → IsArc arcs arc l m → IsLed arcs d.rest (opposite_node l) l

-- ---- ways that are remembered

-- the way goes along the first arcs alone, by their places
abbrev pub IsEarly : ℕ → Way ℕ ℕ → Type 0
IsEarly first way = (k a : ℕ) → slice_get way.arcs k ≡ Some a → a < first

-- the way leads, and behind its first arcs, so many, stands the node, and before as many of its last the negation of the node
pub record IsPart (arcs : List (ℕ × ℕ)) (way : Way ℕ ℕ) (skip x : ℕ) : Type 0 where
  pub from : ℕ
  pub to : ℕ
  pub led : IsLed arcs way from to
  pub fits : skip + skip ≤ length way.arcs
  pub begins : slice_get way.nodes skip ≡ Some x
  pub ends : slice_get way.nodes (length way.arcs - skip) ≡ Some (opposite_node x)

-- the part is of one of these ways, which goes along the first arcs, and leads from the node to its negation
pub record IsPartOf (arcs : List (ℕ × ℕ)) (first : ℕ) (ways : List (Way ℕ ℕ)) (part : Part) (x : ℕ) : Type 0 where
  pub way : Way ℕ ℕ
  pub there : slice_get ways part.way ≡ Some way
  pub leads : IsPart arcs way part.skip x
  pub early : IsEarly first way

-- each node for which a part is known has one from it to its negation, along the first arcs
abbrev pub AreKnown : List (ℕ × ℕ) → ℕ → Known → Type 0
AreKnown arcs first known = (x i : ℕ) → slice_get known.places.items x ≡ Some (Some i) →
    (part : Part) × (slice_get known.parts i ≡ Some part) × IsPartOf arcs first known.ways part x
