-- What is said of preferences.
use Rattle.std.specs.Prelude.{◌≡◌, ℕ, ◌-◌, ◌<◌, ◌≤◌, ◌⊎◌, ℤ, pos, ◌-ℤ◌, List, All, length, map, slice_index_or, nat_lt, if◌then◌else◌}
use Rattle.std.specs.Int.RustNames.{unsigned_abs}
use Rattle.relationships.specs.declared.label.End.{End}
use Rattle.relationships.specs.Graph.{Edge, edges, degree}
use Rattle.relationships.specs.Preference.{lead, lean, wanted, IsSettlingOrder}
use Rattle.tor_arena.specs.Distinct.{AllDistinct}
use Rattle.as_graph.specs.Paths.{paths_at}
use Rattle.gao_prefs.specs.declared.per_end.PerEnd.{PerEnd}
use Rattle.gao_prefs.specs.declared.preferring.Pref.{Pref}

-- the edge of a preference, where these are all edges
abbrev pub edge_preferred : List Edge → Pref → Edge
edge_preferred es pref = slice_index_or es pref.edge (0, 0)

abbrev pub edges_preferred : List Edge → List Pref → List Edge
edges_preferred es prefs = map (edge_preferred es) prefs

-- ---- what the preferences of a graph's paths say, where the paths at these places are kept

-- their edges stand in the order of settling
abbrev pub AreInOrder : List (List ℕ) → List ℕ → List Pref → Type 0
AreInOrder graph kept prefs =
    IsSettlingOrder (lead (degree graph) (paths_at graph kept)) (edges graph) (edges_preferred (edges graph) prefs)

-- each has the lean of its edge
abbrev pub HaveLeans : List (List ℕ) → List ℕ → List Pref → Type 0
HaveLeans graph kept prefs =
    All (λ pref. pref.lean ≡ lean (degree graph) (paths_at graph kept) (edge_preferred (edges graph) pref)) prefs

-- each has the end that its edge wants
abbrev pub HaveWanted : List (List ℕ) → List ℕ → List Pref → Type 0
HaveWanted graph kept prefs =
    All (λ pref. pref.wanted ≡ wanted (degree graph) (paths_at graph kept) (edge_preferred (edges graph) pref)) prefs

-- there is one for each edge, and all this holds of them
pub record AreSettled (graph : List (List ℕ)) (kept : List ℕ) (prefs : List Pref) : Type 0 where
  pub count : length prefs ≡ length (edges graph)
  pub inside : All (λ pref. pref.edge < length (edges graph)) prefs
  pub apart : AllDistinct (map (λ (pref : Pref). pref.edge) prefs)
  pub order : AreInOrder graph kept prefs
  pub leans : HaveLeans graph kept prefs
  pub wants : HaveWanted graph kept prefs

-- ---- by the votes for the two ends of an edge, and their degrees

abbrev pub lean_by : PerEnd → ℤ
lean_by votes = pos votes.low -ℤ pos votes.high

abbrev pub wanted_by : PerEnd → PerEnd → End
wanted_by votes degrees =
    if nat_lt votes.high votes.low then End.Low else (
    if nat_lt votes.low votes.high then End.High else (
    if nat_lt degrees.low degrees.high then End.High else End.Low))

-- what the edge at a place prefers
pub record IsPref (votes degrees : List PerEnd) (place : ℕ) (pref : Pref) : Type 0 where
  pub edge : pref.edge ≡ place
  pub lean : pref.lean ≡ lean_by (slice_index_or votes place (record { low = 0; high = 0 }))
  pub wanted : pref.wanted ≡ wanted_by (slice_index_or votes place (record { low = 0; high = 0 }))
      (slice_index_or degrees place (record { low = 0; high = 0 }))

-- what a preference is sorted by, so that the greatest absolute lean goes first
abbrev pub key_of : Pref → ℕ × ℕ
key_of p = (18446744073709551615 - unsigned_abs p.lean, p.edge)

-- the first has the greater absolute lean, or the same, and then its edge is not behind the other's
abbrev pub NotAfter : Pref → Pref → Type 0
NotAfter p q = (unsigned_abs q.lean < unsigned_abs p.lean) ⊎ ((unsigned_abs q.lean ≡ unsigned_abs p.lean) × (p.edge ≤ q.edge))
