-- The ties where relationships are given: they are those of before where nothing is given, they are by the orientations that agree with the
-- givens, and an edge that a given names has no line. Each law is proved as the contract of a function in src/laws.rt.
use Rattle.std.specs.Prelude.{◌≡◌, ◌≢◌, ◌↔◌, ℕ, Bool, List, [], ◌++◌, All, Contains}
use Rattle.relationships.specs.declared.given.Given.{Given}
use Rattle.relationships.specs.Relationship.{Orientation}
use Rattle.relationships.specs.Graph.{Edge, edge_of}
use Rattle.relationships.specs.Evidence.{paths_of, kept_from}
use Rattle.relationships.specs.Selection.{Keeps}
use Rattle.relationships.specs.Givens.{returns, ServesWith}
use Rattle.ties.specs.declared.tie.Side.{Side}
use Rattle.ties.specs.declared.tie.Tie.{Tie}
use Rattle.ties.specs.Tied.{AreTied, beside}
use Rattle.ties.specs.declared.table.TieLine.{TieLine}
use Rattle.ties.specs.Ties.{AreTiesBy, AreTiesOf, AreTieLinesOf}

-- where nothing is given, each path is kept exactly if some orientation serves it together with those kept before it, and the ties are by
-- the orientations that serve the kept paths
abbrev pub NoGivensTiesLaw : Type 0
NoGivensTiesLaw =
    (paths : List (List ℕ)) (ts : List Tie) →
    AreTiesOf [] paths ts ↔ ((keeps : List Bool) × Keeps paths keeps × AreTiesBy paths (paths_of (kept_from 1 paths keeps)) ts)

-- edges are tied behind the returns exactly if all orientations that agree with the givens and serve the kept paths relate them so
abbrev pub AgreeingTiesLaw : Type 0
AgreeingTiesLaw =
    (givens : List Given) (paths kept : List (List ℕ)) (side : Side) (e f : Edge) →
    AreTied (returns paths givens ++ kept) side e f ↔
    ((O : Orientation) → ServesWith givens paths O kept → O f.0 f.1 ≡ beside side (O e.0 e.1))

-- no line is of an edge that a given names
abbrev pub GivenTiesLaw : Type 0
GivenTiesLaw =
    (givens : List Given) (paths : List (List ℕ)) (lines : List TieLine) → AreTieLinesOf givens paths lines →
    (g : Given) → Contains givens g → All (λ line. (line.low, line.high) ≢ edge_of g.over g.under) lines
