-- Nodes that were added one by one, as those that a search has visited.
use Rattle.std.specs.Prelude.{◌≡◌, ◌⊎◌, ℕ, Bool, true, List, [], ◌∷◌, ◌++◌, Some, slice_get, Contains, IsTrue, IsFalse}
use Rattle.tor_digraph.specs.Closing.{IsOnce}

-- some nodes, in order, of so many
pub record Nodes : Type 0 where
  pub count : ℕ
  pub items : List ℕ

-- exactly these nodes are marked, and each stands once
pub record AreMarked (nodes : List ℕ) (marks : List Bool) : Type 0 where
  pub noted : (n : ℕ) → Contains nodes n → slice_get marks n ≡ Some true
  pub only : (n : ℕ) → slice_get marks n ≡ Some true → Contains nodes n
  pub once : IsOnce nodes

-- the nodes with one more, if it is new
abbrev pub IsAdded : ℕ → Bool → List ℕ → List ℕ → Type 0
IsAdded node new before after =
    (IsTrue new × (Contains before node → ⊥) × (after ≡ before ++ node ∷ [])) ⊎ (IsFalse new × Contains before node × (after ≡ before))
