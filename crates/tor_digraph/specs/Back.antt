-- Steps back along a search tree. These words are the search's own: no reader of a public clause needs them.
use Rattle.std.specs.Prelude.{◌≡◌, ℕ, ◌+◌, List, [], Some, slice_get, length}
use Rattle.tor_digraph.specs.Walks.{IsArc}

-- steps that lead from here to end, the next one last
pub record IsBack {N A : Type 0} (spot : A → ℕ) (arcs : List (N × N)) (from end : N) (back : List (N × A)) : Type 0 where
  pub done : back ≡ [] → from ≡ end
  pub bottom : (s : N × A) → slice_get back 0 ≡ Some s → s.0 ≡ end
  pub top : (k : ℕ) (s : N × A) → length back ≡ k + 1 → slice_get back k ≡ Some s → IsArc arcs (spot s.1) from s.0
  pub between : (k : ℕ) (s t : N × A) → slice_get back k ≡ Some s → slice_get back (k + 1) ≡ Some t → IsArc arcs (spot s.1) t.0 s.0
