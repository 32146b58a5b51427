-- A search that is followed for some arcs alone: the arcs of a node are looked along one after the other.
use Rattle.std.proofs.Common.{◌≡◌, ℕ, ◌+◌, ◌<◌, List, Option, Some, None, length, sym, ap, ◌∙◌, subst, arith}
use Rattle.std.proofs.lemmas.Option.{slice_get_within}
use Rattle.tor_digraph.specs.Walks.{IsArc}
use Rattle.tor_digraph.specs.Links.{IsLatest}
use Rattle.tor_digraph.specs.Search.{steps_of}
use Rattle.tor_digraph.specs.Trails.{StandsAt}
use Rattle.tor_digraph.specs.Spreading.{Stays}
use Rattle.tor_clauses.proofs.Ways.{some_same}

-- the next arc to look along is one from the node at a place
pub record IsLooking (arcs : List (ℕ × ℕ)) (nodes : List ℕ) (place : ℕ) (next : Option ℕ) : Type 0 where
  pub node : ℕ
  pub here : StandsAt nodes place node
  pub high : ℕ
  pub latest : IsLatest (λ a. a) arcs node high next

module _ (arcs : List (ℕ × ℕ)) where
  pub looking_begun : (nodes : List ℕ) (place x : ℕ) (next : Option ℕ) → StandsAt nodes place x → IsLatest (λ a. a) arcs x (length arcs) next → IsLooking arcs nodes place next
  looking_begun nodes place x next at latest = record { node = x; here = at; high = length arcs; latest = latest }

  module _ (nodes : List ℕ) (place a : ℕ) (next : Option ℕ) (is : next ≡ Some a) (s : IsLooking arcs nodes place next) where
    latest_is : (a < s.high) × ((v : ℕ) × IsArc arcs a s.node v)
    latest_is = let latest = subst (IsLatest (λ b. b) arcs s.node s.high) is s.latest in (latest.0, latest.1)

    pub looking_arc : (l m : ℕ) → IsArc arcs a l m → StandsAt nodes place l
    looking_arc l m arc =
        let same : s.node ≡ l = ap (λ (e : ℕ × ℕ). e.0) (some_same (sym latest_is.1.1 ∙ arc)) in
        s.here ∙ ap Some same

    pub looking_there : a < length arcs
    looking_there = slice_get_within arcs a (s.node, latest_is.1.0) latest_is.1.1

    module _ (more : Option ℕ) (later : (u v : ℕ) → IsArc arcs a u v → IsLatest (λ b. b) arcs u a more) where
      pub looking_next : (new : List ℕ) → Stays nodes new → IsLooking arcs new place more
      looking_next new grown = record { node = s.node; here = grown place s.node s.here; high = a; latest = later s.node latest_is.1.0 latest_is.1.1 }

      pub looking_smaller : steps_of (λ b. b) more < steps_of (λ b. b) next
      looking_smaller = subst (λ o. steps_of (λ b. b) more < steps_of (λ b. b) o) (sym is) (less more (later s.node latest_is.1.0 latest_is.1.1))
        where
          less : (o : Option ℕ) → IsLatest (λ b. b) arcs s.node a o → steps_of (λ b. b) o < a + 2
          less None h = omega arith
          less (Some b) h = let lt = h.0 in omega (arith, lt)
