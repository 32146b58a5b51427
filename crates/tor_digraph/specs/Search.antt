-- A search under way: the nodes that it has left for good, and those that it still looks along.
-- These words are the search's own: no reader of a public clause needs them.
use Rattle.std.specs.Prelude.{◌≡◌, ℕ, ◌+◌, ◌<◌, ◌≤◌, ◌⊎◌, List, Option, Some, None, slice_get, length, sum_by}
use Rattle.tor_digraph.specs.Walks.{IsArc, HasArc, Reaches}
use Rattle.tor_digraph.specs.Closing.{Has, IsClosing}
use Rattle.tor_digraph.specs.Found.{IsSeen, depth, IsFound, HasTreeArcs}
use Rattle.tor_digraph.specs.declared.found.Found.{Found}
use Rattle.tor_digraph.specs.declared.found.Found.TheVariants.{No, Start, Along}
use Rattle.tor_digraph.specs.declared.found.Open.{Open}

module _ {A : Type 0} where
  -- the arc at place j is the next one to look at, or comes after it
  abbrev pub IsAhead : (A → ℕ) → Option A → ℕ → Type 0
  IsAhead spot None j = ⊥
  IsAhead spot (Some a) j = j ≤ spot a

  -- the steps that a node on the stack may still cost
  abbrev pub steps_of : (A → ℕ) → Option A → ℕ
  steps_of spot None = 1
  steps_of spot (Some a) = spot a + 2

module _ {N A : Type 0} where
  abbrev pub OnStack : List (Open N A) → N → Type 0
  OnStack stack x = (k : ℕ) × (o : Open N A) × (slice_get stack k ≡ Some o) × (o.node ≡ x)

  pub record IsSearch (place : N → ℕ) (spot : A → ℕ) (arcs : List (N × N)) (found : List (Found N A)) (nodes : List N)
      (stack : List (Open N A)) : Type 0 where
    pub seen : (x : N) → IsFound place found x → Has nodes x ⊎ OnStack stack x
    pub nodes_seen : (x : N) → Has nodes x → IsFound place found x
    -- a node stands on the stack as high as it is deep
    pub depths : (k : ℕ) (o : Open N A) → slice_get stack k ≡ Some o → (f : Found N A) ×
        (slice_get found (place o.node) ≡ Some f) × IsSeen f × (depth f ≡ k)
    pub apart : (k : ℕ) (o : Open N A) → slice_get stack k ≡ Some o → Has nodes o.node → ⊥
    pub path : (i j : ℕ) (o p : Open N A) → i < j → slice_get stack i ≡ Some o → slice_get stack j ≡ Some p → Reaches arcs o.node p.node
    pub once : (i j : ℕ) (o p : Open N A) → i < j → slice_get stack i ≡ Some o → slice_get stack j ≡ Some p → o.node ≡ p.node → ⊥
    pub heads : (x y : N) → Has nodes x → HasArc arcs x y → IsFound place found y
    -- the arcs before the next one to look at lead to nodes that were found
    pub scanned : (k : ℕ) (o : Open N A) → slice_get stack k ≡ Some o → (j : ℕ) (y : N) → IsArc arcs j o.node y →
        IsFound place found y ⊎ IsAhead spot o.next j
    pub next : (k : ℕ) (o : Open N A) (a : A) → slice_get stack k ≡ Some o → o.next ≡ Some a → (v : N) × IsArc arcs (spot a) o.node v
    pub order : IsClosing arcs nodes
    pub tree : HasTreeArcs place spot arcs found

  -- the search from start has added to the nodes only nodes that start reaches
  pub record IsGrowth (arcs : List (N × N)) (start : N) (old nodes : List N) (stack : List (Open N A)) : Type 0 where
    pub kept : (k : ℕ) (x : N) → slice_get old k ≡ Some x → slice_get nodes k ≡ Some x
    pub more : (k : ℕ) (x : N) → length old ≤ k → slice_get nodes k ≡ Some x → Reaches arcs start x
    pub waiting : (k : ℕ) (o : Open N A) → slice_get stack k ≡ Some o → Reaches arcs start o.node

  -- the steps that a node may cost that was not found
  abbrev pub steps_left : ℕ → Found N A → ℕ
  steps_left m No = m + 2
  steps_left m Start = 0
  steps_left m (Along t a d) = 0

  -- at most so many steps are left
  abbrev pub work : (A → ℕ) → ℕ → List (Found N A) → List (Open N A) → ℕ
  work spot m found stack = sum_by (steps_left m) found + sum_by (λ o. steps_of spot o.next) stack

  -- these have less work left than the old ones
  abbrev pub IsLess : (A → ℕ) → List (N × N) → List (Found N A) → List (Open N A) → List (Found N A) → List (Open N A) → Type 0
  IsLess spot arcs old_found old_stack found stack = work spot (length arcs) found stack < work spot (length arcs) old_found old_stack

  -- what grew from some start until the old ones has grown from it until these
  abbrev pub GrowsOn : List (N × N) → List N → List (Open N A) → List N → List (Open N A) → Type 0
  GrowsOn arcs old_nodes old_stack nodes stack = (start : N) (old : List N) →
      IsGrowth arcs start old old_nodes old_stack → IsGrowth arcs start old nodes stack

  -- what was found stays found, and no further node is a start
  pub record IsLater (place : N → ℕ) (old new : List (Found N A)) : Type 0 where
    pub kept : (x : N) → IsFound place old x → IsFound place new x
    pub starts : (x : N) → slice_get new (place x) ≡ Some Start → slice_get old (place x) ≡ Some Start
