-- What one given more does, for an open edge of which it was asked how many edges either provider forces.
use Rattle.std.specs.Prelude.{◌≡◌, ◌⊎◌, ◌↔◌, ℕ, List, [], ◌∷◌, ◌++◌, Option, Some, slice_get, length, map, is_none, All, Contains, IsTrue}
use Rattle.std.specs.Prelude.{if◌then◌else◌}
use Rattle.relationships.specs.declared.label.End.{End}
use Rattle.relationships.specs.declared.given.Given.{Given}
use Rattle.relationships.specs.declared.walk.Walk.{Walk}
use Rattle.relationships.specs.Graph.{Edge, edge_of, edges}
use Rattle.relationships.specs.Evidence.{NeighboursDiffer, paths_of}
use Rattle.relationships.specs.Givens.{NameTwo, end_by, returns}
use Rattle.relationships.specs.Checking.{kept_of}
use Rattle.relationships.specs.Marking.{is_forced}
use Rattle.result_text.specs.declared.file.EdgeLine.{EdgeLine}
use Rattle.rel_infer.specs.GivenInference.{IsInferredWith}
use Rattle.asks.specs.declared.table.AskLine.{AskLine}
use Rattle.asks.specs.Asks.{AreForcedBy, AreAskLinesOf}

-- the edges that are open by the first lines and forced by the second, where both are of the same edges in one order
abbrev pub newly_forced : List EdgeLine → List EdgeLine → List Edge
newly_forced (l ∷ ls) (m ∷ ms) =
    if is_forced l.mark then newly_forced ls ms
    else (if is_forced m.mark then (l.low, l.high) ∷ newly_forced ls ms else newly_forced ls ms)
newly_forced _ _ = []

-- how many open edges the line says are forced if this end is the provider
abbrev pub number_if : AskLine → End → ℕ
number_if line End.Low = line.if_low
number_if line End.High = line.if_high

-- the same paths are kept, what was forced still is, and these edges are forced that weren't: the open ones that this end of the edge
-- forces, and so many
pub record ForcesAsSaid (served : List (List ℕ)) (es : List Edge) (e : Edge) (end : End) (n : ℕ) (walks walks' : List (Option Walk))
    (lines lines' : List EdgeLine) : Type 0 where
  pub kept : map is_none walks' ≡ map is_none walks
  pub still : (k : ℕ) (l m : EdgeLine) → slice_get lines k ≡ Some l → slice_get lines' k ≡ Some m → IsTrue (is_forced l.mark) →
      IsTrue (is_forced m.mark)
  pub these : AreForcedBy served es e end (newly_forced lines lines')
  pub many : length (newly_forced lines lines') ≡ n

-- the second givens are the first and this one, in whatever order
abbrev pub AreWithGiven : List Given → Given → List Given → Type 0
AreWithGiven givens given more = (g : Given) → Contains more g ↔ (Contains givens g ⊎ (g ≡ given))

-- with one given more, of an edge that has a line, as many edges are forced as the line says of the given's provider
abbrev pub GivenAskLaw : Type 0
GivenAskLaw =
    (givens more : List Given) (ratio : ℕ) (paths : List (List ℕ)) (asked : List AskLine) (line : AskLine) (given : Given)
    (walks walks' : List (Option Walk)) (lines lines' : List EdgeLine) (whys whys' : List Walk) (probes probes' : List (ℕ × ℕ)) →
    All NeighboursDiffer paths → NameTwo givens → AreAskLinesOf givens paths asked → Contains asked line →
    edge_of given.over given.under ≡ (line.low, line.high) → AreWithGiven givens given more →
    IsInferredWith givens ratio paths walks lines whys probes →
    IsInferredWith more ratio paths walks' lines' whys' probes' →
    ForcesAsSaid (returns paths givens ++ paths_of (kept_of paths walks)) (edges paths) (line.low, line.high)
    (end_by given.over given.under) (number_if line (end_by given.over given.under)) walks walks' lines lines'
