-- Triples that were refused alone, and why a later path with one of them is lost by the same walk.
use Rattle.std.specs.Prelude.{◌≡◌, ◌≤◌, ◌⊎◌, ℕ, ◌+◌, ◌==◌, List, [], ◌∷◌, ◌++◌, Some, length, map, slice_get, slice_set, if◌then◌else◌}
use Rattle.relationships.specs.declared.walk.Link.{Link}
use Rattle.relationships.specs.declared.walk.Walk.{Walk}
use Rattle.relationships.specs.declared.fate.Fate.{Fate}
use Rattle.relationships.specs.declared.label.End.{End}
use Rattle.relationships.specs.Graph.{edges}
use Rattle.relationships.specs.Evidence.{StandAt, Refutes}
use Rattle.as_graph.specs.EdgeSteps.{EdgeStep}
use Rattle.as_graph.specs.Paths.{path_at}
use Rattle.tor_clauses.specs.Literals.{node_of, lit_of, Holds, Says}
use Rattle.tor_clauses.specs.Formulas.{numbered, IsLinkOf}
use Rattle.tor_mend.specs.declared.refusals.Refusal.{Refusal}
use Rattle.tor_mend.specs.declared.refusals.Met.{Met}

-- the walk with this link in place of each into the path of this number
abbrev pub relink : ℕ → Link → Link → Link
relink own link old = if old.path == own then link else old

abbrev pub relinked : ℕ → Link → Walk → Walk
relinked own link w = record { ases = w.ases; links = map (relink own link) w.links }

-- each link into the path of this number names this place on it
abbrev pub NamesOnly : ℕ → ℕ → List Link → Type 0
NamesOnly own at links = (k : ℕ) (link : Link) → slice_get links k ≡ Some link → link.path ≡ own → link.at ≡ at

-- x, y, z stand on the path, y at this place, and the nodes are those of the literals "x over y" and "y over z"
abbrev pub HasTriple : List (List ℕ) → ℕ → ℕ → ℕ → ℕ → Type 0
HasTriple graph path at first second = (x y z : ℕ) × StandAt (path_at graph path) at x y z ×
    Says (edges graph) (lit_of first) x y × Says (edges graph) (lit_of second) y z

-- with the link of any such triple, on a kept path or one of any more, the walk refutes over these
abbrev pub RefutesTriple : List (List ℕ) → List ℕ → ℕ → ℕ → ℕ → Walk → Type 0
RefutesTriple graph kept first second own w = (more : List ℕ) (link : Link) → IsLinkOf graph (kept ++ more) link first second →
    Refutes (numbered graph (kept ++ more)) (relinked own link w)

-- the path of the refusal was lost, with such a walk, whose links are counted
abbrev pub IsRefusalOf : List (List ℕ) → List ℕ → List Fate → Refusal → Type 0
IsRefusalOf graph kept fates r =
    (w : Walk) × (slice_get fates r.path ≡ Some (Fate.Lost w)) × (r.links ≡ length w.links) ×
    RefutesTriple graph kept r.first r.second (r.path + 1) w

abbrev pub AreRefused : List (List ℕ) → List ℕ → List Fate → List Refusal → Type 0
AreRefused graph kept fates refusals = (k : ℕ) (r : Refusal) → slice_get refusals k ≡ Some r → IsRefusalOf graph kept fates r

-- the node of the literal that the AS from which a step goes is over the one that it reaches
abbrev pub node_at : EdgeStep → ℕ
node_at step = node_of (record { edge = step.edge; over = step.left })

-- each step whose literal holds is followed by one whose literal holds
abbrev pub AreSatisfiedOn : List End → List EdgeStep → Type 0
AreSatisfiedOn ends steps = (k : ℕ) (s t : EdgeStep) → slice_get steps k ≡ Some s → slice_get steps (k + 1) ≡ Some t →
    Holds ends (lit_of (node_at s)) → Holds ends (lit_of (node_at t))

-- the refusal is of a triple of these nodes, whose middle AS stands at this place of a path
abbrev pub IsMetWith : List Refusal → ℕ → ℕ → ℕ → Met → Type 0
IsMetWith refusals first second at met =
    (r : Refusal) × (slice_get refusals met.refusal ≡ Some r) × (r.first ≡ first) × (r.second ≡ second) × (met.at ≡ at)

-- the path has the triple of a refusal, whose place is named
abbrev pub HasRefusedTriple : List (List ℕ) → ℕ → List Refusal → Met → Type 0
HasRefusedTriple graph path refusals met =
    (r : Refusal) × (slice_get refusals met.refusal ≡ Some r) × HasTriple graph path met.at r.first r.second

-- the refusal at this place is of this path
abbrev pub IsOfPath : List Refusal → ℕ → ℕ → Type 0
IsOfPath refusals place path = (r : Refusal) × (slice_get refusals place ≡ Some r) × (r.path ≡ path)

-- the same but for what is counted of it
pub record IsSameTriple (old new : Refusal) : Type 0 where
  pub first : new.first ≡ old.first
  pub second : new.second ≡ old.second
  pub path : new.path ≡ old.path
  pub links : new.links ≡ old.links

-- only what is counted of the refusal at this place may be another
abbrev pub UsesAt : ℕ → List Refusal → List Refusal → Type 0
UsesAt place old new = (r s : Refusal) × (slice_get old place ≡ Some r) × IsSameTriple r s × (new ≡ slice_set old place s)

-- the refusal goes last, or in the place of another
abbrev pub IsPut : Refusal → List Refusal → List Refusal → Type 0
IsPut r old new = (new ≡ old ++ r ∷ []) ⊎ ((place : ℕ) × (new ≡ slice_set old place r))

-- no refusal is forgotten, and none has a longer walk than before
abbrev pub NoneGrows : List Refusal → List Refusal → Type 0
NoneGrows old new =
    (place : ℕ) (r : Refusal) → slice_get old place ≡ Some r → (s : Refusal) × (slice_get new place ≡ Some s) × (s.links ≤ r.links)

-- the refusals with one of this path, whose walk has so many links, and none into it but of the triple
pub record Puts (graph : List (List ℕ)) (path : ℕ) (w : Walk) (old new : List Refusal) : Type 0 where
  pub refusal : Refusal
  pub put : IsPut refusal old new
  pub named : refusal.path ≡ path
  pub counted : refusal.links ≡ length w.links
  pub at : ℕ
  pub alone : NamesOnly (path + 1) at w.links
  pub triple : HasTriple graph path at refusal.first refusal.second

-- what becomes of the path is remembered: where it is lost there may be a refusal of it
abbrev pub Remembers : List (List ℕ) → ℕ → Fate → List Refusal → List Refusal → Type 0
Remembers graph path Fate.Kept old new = new ≡ old
Remembers graph path (Fate.Lost w) old new = (new ≡ old) ⊎ Puts graph path w old new
