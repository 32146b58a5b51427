-- The ties of distinct paths: of the open edges among all their edges, by the paths of them that are kept. Where relationships are given,
-- all orientations agree with them: one that agrees with the givens and serves paths is one that serves the returns of the givens and these
-- paths (`given_serving_law`). The returns add no edge (`given_edges_law`).
use Rattle.std.specs.Prelude.{◌≡◌, ℕ, Bool, List, ◌++◌, map}
use Rattle.tor_numbers.specs.Edges.{edge_at}
use Rattle.relationships.specs.declared.given.Given.{Given}
use Rattle.relationships.specs.declared.mark.Mark.{Mark}
use Rattle.relationships.specs.Graph.{Edge, edges}
use Rattle.relationships.specs.Evidence.{paths_of, kept_from}
use Rattle.relationships.specs.Selection.{KeepsFrom}
use Rattle.relationships.specs.Givens.{returns}
use Rattle.ties.specs.declared.tie.Tie.{Tie}
use Rattle.ties.specs.declared.table.TieLine.{TieLine}
use Rattle.ties.specs.Tied.{AreTies, ShareExactly, AreMarks, open_from}

-- the ties of the edges of `paths`, by the orientations that serve the paths of `served`
pub record AreTiesBy (paths served : List (List ℕ)) (ts : List Tie) : Type 0 where
  pub marks : List Mark
  pub marked : AreMarks served (edges paths) marks
  pub ties : AreTies served (edges paths) (open_from 0 marks) ts
  pub same : ShareExactly served (edges paths) ts

-- where each path is kept exactly if some orientation that agrees with the givens serves it together with those kept before it
pub record AreTiesOf (givens : List Given) (paths : List (List ℕ)) (ts : List Tie) : Type 0 where
  pub keeps : List Bool
  pub kept : KeepsFrom (returns paths givens) paths keeps
  pub by : AreTiesBy paths (returns paths givens ++ paths_of (kept_from 1 paths keeps)) ts

-- what is written of an edge
abbrev pub tie_line_of : List Edge → Tie → TieLine
tie_line_of es t = record { low = (edge_at es t.edge).0; high = (edge_at es t.edge).1; class = t.class; side = t.side }

-- the lines of the ties of these paths under givens
abbrev pub AreTieLinesOf : List Given → List (List ℕ) → List TieLine → Type 0
AreTieLinesOf givens paths lines = (ts : List Tie) × AreTiesOf givens paths ts × (lines ≡ map (tie_line_of (edges paths)) ts)
