-- The marks beside how nodes were found. These words are the search's own: no reader of a public clause needs them.
use Rattle.std.specs.Prelude.{◌≡◌, ◌↔◌, ℕ, Bool, List, Some, slice_get, length, IsTrue}
use Rattle.tor_digraph.specs.Found.{IsSeen}
use Rattle.tor_digraph.specs.declared.found.Found.{Found}

-- there is one mark for each node, and it says whether the node was found
pub record AreMarked {N A : Type 0} (found : List (Found N A)) (marks : List Bool) : Type 0 where
  pub many : length marks ≡ length found
  pub each : (k : ℕ) (f : Found N A) (b : Bool) → slice_get found k ≡ Some f → slice_get marks k ≡ Some b → IsTrue b ↔ IsSeen f
