-- Which literals are settled while edges are settled one by one. These words are the crate's own: no reader of a public clause needs
-- them.
use Rattle.std.specs.Prelude.{◌≡◌, ◌⊎◌, ℕ, ◌*◌, ◌<◌, Bool, true, false, List, [], ◌∷◌, ◌++◌, Some, slice_get, length, Contains}
use Rattle.relationships.specs.declared.label.End.{End}
use Rattle.gao_prefs.specs.declared.preferring.Pref.{Pref}
use Rattle.tor_digraph.specs.Walks.{HasArc, Reaches}
use Rattle.tor_digraph.specs.NodeSets.{Nodes}
use Rattle.tor_digraph.specs.Reached.{IsGrown}
use Rattle.tor_digraph.specs.Spreading.{HasLooked, IsClosed}
use Rattle.tor_clauses.specs.Literals.{node_of, lit_of, opposite_node, Holds}
use Rattle.tor_clauses.specs.Formulas.{Formula, IsModel}
use Rattle.tor_orient.specs.declared.failing.Search.{Search}

-- the node of the end that a preference wants
abbrev pub node_wanted : Pref → ℕ
node_wanted pref = node_of (record { edge = pref.edge; over = pref.wanted })

-- no arc leads out of the nodes that are settled
abbrev pub NoneLeadsOut : List (ℕ × ℕ) → List ℕ → Type 0
NoneLeadsOut arcs settled = (x y : ℕ) → Contains settled x → HasArc arcs x y → Contains settled y

-- with each of the nodes, so many, its opposite is there
abbrev pub HasOpposites : ℕ → Type 0
HasOpposites count = (n : ℕ) → n < count → opposite_node n < count

-- the node stands last
abbrev pub IsLast : ℕ → List ℕ → Type 0
IsLast node nodes = (before : List ℕ) × (nodes ≡ before ++ node ∷ [])

-- the heads of the arcs of a node were met: one of them is the end of the search, and stands last, or none is
abbrev pub LooksTo : List (ℕ × ℕ) → List ℕ → ℕ → ℕ → List ℕ → List ℕ → Bool → Type 0
LooksTo arcs settled end tail old new true = IsLast end new
LooksTo arcs settled end tail old new false = (Contains new end → ⊥) × HasLooked arcs settled tail old new

-- the search has come to its end, which stands last, or else to all that can be reached, but not past what is settled
abbrev pub ComesTo : List (ℕ × ℕ) → List ℕ → ℕ → List ℕ → Bool → Type 0
ComesTo arcs settled end tried true = IsLast end tried
ComesTo arcs settled end tried false = (Contains tried end → ⊥) × IsClosed arcs settled tried

-- the search is over so many nodes
abbrev pub IsOver : ℕ → Search → Type 0
IsOver count s = (s.tried.nodes.count ≡ count) × (s.behind.count ≡ count)

-- from the node a walk leads to the last one, and from there to the opposite of that
abbrev pub IsFailing : List (ℕ × ℕ) → ℕ → ℕ → Type 0
IsFailing arcs node last = Reaches arcs node last × Reaches arcs last (opposite_node last)

-- one edge more is settled: it was already, or by the node that is wanted, or, where this leads to its opposite, by the opposite of a
-- node on such a walk that leads to its opposite too. With the new node all are settled that it reaches
abbrev pub IsSettledBy : List (ℕ × ℕ) → ℕ → List ℕ → List ℕ → Type 0
IsSettledBy arcs node old new =
    ((Contains old node ⊎ Contains old (opposite_node node)) × (new ≡ old)) ⊎
    ((Contains old node → ⊥) × (Contains old (opposite_node node) → ⊥) ×
    (((Reaches arcs node (opposite_node node) → ⊥) × IsGrown arcs node old new) ⊎
    ((last : ℕ) × IsFailing arcs node last × IsGrown arcs (opposite_node last) old new)))

-- an orientation of all edges under which each arc holds
abbrev pub IsWhole : Formula → List End → Type 0
IsWhole f ends = IsModel f ends × (f.net.nodes ≡ length ends * 2)

-- of the edges of the first preferences, so many, each literal that is settled holds
abbrev pub AgreesUpTo : List Pref → ℕ → List ℕ → List End → Type 0
AgreesUpTo prefs count settled ends =
    (k : ℕ) (p : Pref) → k < count → slice_get prefs k ≡ Some p →
    (Contains settled (node_wanted p) → Holds ends (lit_of (node_wanted p))) ×
    (Contains settled (opposite_node (node_wanted p)) → Holds ends (lit_of (opposite_node (node_wanted p))))

-- no orientation that serves, and agrees with all that is settled of the first edges, so many, has the end that this one wants
abbrev pub IsRuledOut : Formula → List Pref → ℕ → List ℕ → Pref → Type 0
IsRuledOut f prefs count settled p = (ends : List End) → IsWhole f ends → AgreesUpTo prefs count settled ends →
    Holds ends (lit_of (node_wanted p)) → ⊥

-- the edges of the first preferences, so many, are settled
pub record AreSettled (f : Formula) (prefs : List Pref) (count : ℕ) (r : Nodes) : Type 0 where
  pub many : r.count ≡ f.net.nodes
  pub inside : (n : ℕ) → Contains r.items n → n < f.net.nodes
  pub closed : NoneLeadsOut f.net.arcs r.items
  pub consistent : (n : ℕ) → Contains r.items n → Contains r.items (opposite_node n) → ⊥
  pub each : (k : ℕ) (p : Pref) → k < count → slice_get prefs k ≡ Some p → Contains r.items (node_wanted p) ⊎
      Contains r.items (opposite_node (node_wanted p))
  -- all that is settled follows from that of these edges
  pub follows : (ends : List End) → IsWhole f ends → AgreesUpTo prefs count r.items ends → (n : ℕ) →
      Contains r.items n → Holds ends (lit_of n)
  pub best : (k : ℕ) (p : Pref) → k < count → slice_get prefs k ≡ Some p → Contains r.items (node_wanted p) ⊎ IsRuledOut f prefs k r.items p

-- ---- the ends that are settled

-- the higher end exactly if its literal is settled
abbrev pub IsEndOf : List ℕ → ℕ → End → Type 0
IsEndOf settled edge End.High = Contains settled (node_of (record { edge = edge; over = End.High }))
IsEndOf settled edge End.Low = Contains settled (node_of (record { edge = edge; over = End.High })) → ⊥

abbrev pub AreEndsOf : List ℕ → List End → Type 0
AreEndsOf settled ends = (k : ℕ) (end : End) → slice_get ends k ≡ Some end → IsEndOf settled k end
