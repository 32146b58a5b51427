-- The laws that this crate proves, each as the contract of a function in src/laws.rt.
use Rattle.std.specs.Prelude.{◌≡◌, ◌↔◌, ℕ, ◌<◌, List, ◌++◌, All, Contains, length}
use Rattle.tor_digraph.specs.Closing.{IsOnce}
use Rattle.relationships.specs.declared.label.End.{End}
use Rattle.relationships.specs.declared.given.Given.{Given}
use Rattle.relationships.specs.Relationship.{Orientation}
use Rattle.relationships.specs.Graph.{Edge}
use Rattle.relationships.specs.Evidence.{NeighboursDiffer, Closure}
use Rattle.relationships.specs.Selection.{IsServable, IsForced}
use Rattle.relationships.specs.Givens.{returns, ServesWith}
use Rattle.asks.specs.Asks.{IsForcedBy, IsOpenOf, ForcesSoMany}

-- the AS that is over the other where an edge has this end as its provider, and that other one
abbrev pub order_by : Edge → End → ℕ × ℕ
order_by e End.Low = (e.0, e.1)
order_by e End.High = (e.1, e.0)

-- an order of the edge is in the closure of the order by which this end of `e` is its provider
abbrev pub IsInClosure : List (List ℕ) → Edge → End → Edge → Type 0
IsInClosure served e end f =
    (other : End) × Closure served (order_by e end).0 (order_by e end).1 (order_by f other).0 (order_by f other).1

-- an open edge is forced by an end of another exactly if one of its orders is in the closure of that order
abbrev pub ForcedByLaw : Type 0
ForcedByLaw =
    (served : List (List ℕ)) (e f : Edge) (end : End) → All NeighboursDiffer served → IsServable served → e.0 < e.1 → f.0 < f.1 →
    (IsForced served e.0 e.1 → ⊥) → (IsForced served f.0 f.1 → ⊥) → IsForcedBy served e end f ↔ IsInClosure served e end f

-- so many open edges are in the closure
pub record HoldsSoMany (served : List (List ℕ)) (es : List Edge) (e : Edge) (end : End) (n : ℕ) : Type 0 where
  pub held : List Edge
  pub once : IsOnce held
  pub exact : (f : Edge) → Contains held f ↔ (IsOpenOf served es f × IsInClosure served e end f)
  pub many : length held ≡ n

-- so the number of open edges that are forced is that of those in the closure
abbrev pub AskClosureLaw : Type 0
AskClosureLaw =
    (served : List (List ℕ)) (es : List Edge) (e : Edge) (end : End) (n : ℕ) → All NeighboursDiffer served → IsServable served →
    All (λ f. f.0 < f.1) es → IsOpenOf served es e → ForcesSoMany served es e end n ↔ HoldsSoMany served es e end n

-- behind the returns of givens this is said of the orientations that agree with the givens
abbrev pub AgreeingAsksLaw : Type 0
AgreeingAsksLaw =
    (givens : List Given) (paths kept : List (List ℕ)) (e f : Edge) (end : End) →
    IsForcedBy (returns paths givens ++ kept) e end f ↔
    ((O O' : Orientation) → ServesWith givens paths O kept → ServesWith givens paths O' kept → O e.0 e.1 ≡ end → O' e.0 e.1 ≡ end →
    O f.0 f.1 ≡ O' f.0 f.1)

-- an end of an edge forces one number of open edges
abbrev pub OneNumberLaw : Type 0
OneNumberLaw =
    (served : List (List ℕ)) (es : List Edge) (e : Edge) (end : End) (m n : ℕ) → ForcesSoMany served es e end m →
    ForcesSoMany served es e end n → m ≡ n
