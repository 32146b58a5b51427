-- What it is to make literals hold, and to take that back.
use Rattle.std.specs.Prelude.{◌≡◌, ℕ, ◌*◌, ◌<◌, ◌⊎◌, List, [], ◌∷◌, Some, slice_get, slice_set, length}
use Rattle.relationships.specs.declared.label.End.{End}
use Rattle.tor_digraph.specs.Walks.{IsArc, HasArc, Reaches}
use Rattle.tor_clauses.specs.Literals.{lit_of, opposite_node, Holds}
use Rattle.tor_clauses.specs.Flipping.{ImplicationHolds, IsPartner}
use Rattle.tor_mend.specs.declared.flipping.Flip.{Flip}
use Rattle.tor_mend.specs.declared.mending.State.{State}

-- ---- going back

-- the ends before these flips, of which the last came last
abbrev pub flipped_back : List End → List Flip → List End
flipped_back ends [] = ends
flipped_back ends (flip ∷ flips) = slice_set (flipped_back ends flips) flip.edge flip.was

abbrev pub AreInside : ℕ → List Flip → Type 0
AreInside count flips = (k : ℕ) (f : Flip) → slice_get flips k ≡ Some f → f.edge < count

-- ---- a repair under way

-- one end for each edge, and a trail of so many nodes
pub record IsState (nodes : ℕ) (s : State) : Type 0 where
  pub ends : length s.ends * 2 ≡ nodes
  pub trail : s.trail.nodes.count ≡ nodes
  pub flips : AreInside (length s.ends) s.flips

-- each arc is met that was met before, or that leads to the start or from its negation; and what holds now and did not hold before is
-- reached from the start
pub record IsMended (arcs : List (ℕ × ℕ)) (old new : List End) (start : ℕ) : Type 0 where
  pub met : (l m : ℕ) → HasArc arcs l m → ImplicationHolds old l m ⊎ ((m ≡ start) ⊎ (opposite_node l ≡ start)) → ImplicationHolds new l m
  pub changed : (x : ℕ) → Holds new (lit_of x) → (Holds old (lit_of x) → ⊥) → Reaches arcs start x

-- the arc is not met: its tail holds, and its head does not
abbrev pub IsUnmet : List (ℕ × ℕ) → List End → ℕ → Type 0
IsUnmet arcs ends arc = (l m : ℕ) → IsArc arcs arc l m → Holds ends (lit_of l) × (Holds ends (lit_of m) → ⊥)

-- the arc itself, or its partner. Of an arc and its partner the one is met where the other is
abbrev pub IsSide : List (ℕ × ℕ) → ℕ → ℕ → Type 0
IsSide arcs arc side = (side ≡ arc) ⊎ IsPartner arcs arc side
