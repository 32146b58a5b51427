-- What it is to repair an orientation: arcs are met, one after the other.
use Rattle.std.specs.Prelude.{◌≡◌, ℕ, ◌<◌, ◌≤◌, ◌⊎◌, List, length}
use Rattle.relationships.specs.declared.label.End.{End}
use Rattle.tor_digraph.specs.Walks.{IsArc, HasArc, Reaches}
use Rattle.tor_clauses.specs.Literals.{lit_of, opposite_node, Holds}
use Rattle.tor_clauses.specs.Flipping.{ImplicationHolds}
use Rattle.tor_mend.specs.declared.mending.State.{State}

-- the first arcs are met
abbrev pub AreMet : List (ℕ × ℕ) → ℕ → List End → Type 0
AreMet arcs count ends = (k l m : ℕ) → k < count → IsArc arcs k l m → ImplicationHolds ends l m

-- the literal is reached from the head of the arc, or from the negation of its tail
abbrev pub IsTouched : List (ℕ × ℕ) → ℕ → ℕ → Type 0
IsTouched arcs arc x = (l m : ℕ) × IsArc arcs arc l m × (Reaches arcs m x ⊎ Reaches arcs (opposite_node l) x)

-- the arc is met now, and so is each that was met before. What holds now and did not hold before is reached from the arc, and where
-- the arc was met before, nothing is changed
pub record IsArcMended (arcs : List (ℕ × ℕ)) (old new : List End) (arc : ℕ) : Type 0 where
  pub stays : (l m : ℕ) → HasArc arcs l m → ImplicationHolds old l m → ImplicationHolds new l m
  pub met : (l m : ℕ) → IsArc arcs arc l m → ImplicationHolds new l m
  pub changed : (x : ℕ) → Holds new (lit_of x) → (Holds old (lit_of x) → ⊥) → IsTouched arcs arc x
  pub same : ((l m : ℕ) → IsArc arcs arc l m → ImplicationHolds old l m) → new ≡ old

-- all arcs are met, where the first were met before. What holds now and did not hold before is reached from one of the others, and
-- where all were met before, nothing is changed
pub record IsRepaired (arcs : List (ℕ × ℕ)) (first count : ℕ) (old new : List End) : Type 0 where
  pub met : AreMet arcs count new
  pub changed : (x : ℕ) → Holds new (lit_of x) → (Holds old (lit_of x) → ⊥) → (k : ℕ) × (first ≤ k) × IsTouched arcs k x
  pub same : AreMet arcs count old → new ≡ old

-- so of all arcs
abbrev pub Repairs : List (ℕ × ℕ) → ℕ → State → State → Type 0
Repairs arcs first old new = IsRepaired arcs first (length arcs) old.ends new.ends
