-- The two answers of a solver.
use Rattle.std.specs.Prelude.{◌↔◌, ℕ, List}
use Rattle.relationships.specs.declared.label.End.{End}
use Rattle.relationships.specs.declared.walk.Walk.{Walk}
use Rattle.relationships.specs.Selection.{IsServable}
use Rattle.tor_clauses.specs.Formulas.{Formula, demands_of}
use Rattle.tor_solve.specs.declared.solution.Solution.{Solution}

-- this of the orientation, where there is one
abbrev pub IfModel : Solution → (List End → Type 0) → Type 0
IfModel (Solution.Model ends) P = P ends
IfModel (Solution.Walk walk) P = Unit {0}

-- this of the walk, where there is one
abbrev pub IfWalk : Solution → (Walk → Type 0) → Type 0
IfWalk (Solution.Model ends) P = Unit {0}
IfWalk (Solution.Walk walk) P = P walk

-- the answer is a walk
abbrev pub IsRefuted : Solution → Type 0
IsRefuted (Solution.Model ends) = ⊥
IsRefuted (Solution.Walk walk) = Unit {0}

-- it is a walk exactly if no orientation serves what it has to, by these clauses
abbrev pub IsExact : List (List ℕ) → Formula → Solution → Type 0
IsExact graph f solution = IsRefuted solution ↔ (IsServable (demands_of graph f) → ⊥)
