-- Orders that are settled in batches. These words are the marking's own: no reader of a public clause needs them.
use Rattle.std.specs.Prelude.{◌≡◌, ℕ, ◌<◌, ◌⊎◌, Bool, List, [], ◌∷◌, ◌++◌, length, IsTrue, All, Contains}
use Rattle.order_trials.specs.Posing.{Posed}
use Rattle.order_trials.specs.Showing.{IsFullyShown, StayShown}
use Rattle.order_trials.specs.Settling.{IsSettled}
use Rattle.order_trials.specs.declared.showing.Shown.{Shown}

-- an order that is settled is left out, and another one waits
abbrev pub IsWaiting : Bool → ℕ → List ℕ → List ℕ → Type 0
IsWaiting done n old new = (IsTrue done × (new ≡ old)) ⊎ ((IsTrue done → ⊥) × (new ≡ old ++ n ∷ []))

-- all of these orders are settled but those that wait
abbrev pub AreSettledBut : Posed → Shown → List ℕ → List ℕ → Type 0
AreSettledBut posed s nodes waiting = (n : ℕ) → Contains nodes n → IsSettled posed s.nodes.items n ⊎ Contains waiting n

abbrev pub AreNodesOf : Posed → List ℕ → Type 0
AreNodesOf posed nodes = All (λ n. n < posed.formula.net.nodes) nodes

-- a batch has settled all of these but those that wait, at least one of them
pub record IsBatchSettled (posed : Posed) (nodes : List ℕ) (old new : Shown) (waiting : List ℕ) : Type 0 where
  pub shown : IsFullyShown posed new
  pub keeps : StayShown old new
  pub settled : AreSettledBut posed new nodes waiting
  pub inside : AreNodesOf posed waiting
  pub fewer : (length nodes ≡ 0) ⊎ (length waiting < length nodes)
