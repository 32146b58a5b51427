-- Which contract would settle most if somebody knew it: of each open edge, how many open edges are forced once it is known which of its
-- two ASes is the provider of the other. Where relationships are given, all orientations agree with them, by their returns
-- (`given_serving_law`).
use Rattle.std.specs.Prelude.{◌≡◌, ◌↔◌, ℕ, ◌+◌, Bool, List, ◌++◌, All, Contains, length, map, min}
use Rattle.std.specs.declared.cmp.Ordering.{Ordering}
use Rattle.std.specs.Ordering.{nat_cmp, on, then_cmp, flip_args}
use Rattle.std.specs.List.Sorted.{IsPermutation, IsSorted}
use Rattle.tor_numbers.specs.Edges.{edge_at}
use Rattle.tor_digraph.specs.Closing.{IsOnce}
use Rattle.relationships.specs.declared.label.End.{End}
use Rattle.relationships.specs.declared.given.Given.{Given}
use Rattle.relationships.specs.declared.mark.Mark.{Mark}
use Rattle.relationships.specs.Relationship.{Orientation, Serves}
use Rattle.relationships.specs.Graph.{Edge, edges}
use Rattle.relationships.specs.Evidence.{paths_of, kept_from}
use Rattle.relationships.specs.Selection.{KeepsFrom, IsForced}
use Rattle.relationships.specs.Givens.{returns}
use Rattle.ties.specs.Tied.{AreMarks, open_from}
use Rattle.asks.specs.declared.ask.Ask.{Ask}
use Rattle.asks.specs.declared.table.AskLine.{AskLine}

-- once it is known that this end of `e` is its provider, `f` is forced: all orientations that serve the paths and have that end agree on it
abbrev pub IsForcedBy : List (List ℕ) → Edge → End → Edge → Type 0
IsForcedBy served e end f =
    (O O' : Orientation) → Serves O served → Serves O' served → O e.0 e.1 ≡ end → O' e.0 e.1 ≡ end → O f.0 f.1 ≡ O' f.0 f.1

-- one of these edges, and the paths alone don't force it
abbrev pub IsOpenOf : List (List ℕ) → List Edge → Edge → Type 0
IsOpenOf served es f = Contains es f × (IsForced served f.0 f.1 → ⊥)

-- these are the open edges that are forced once that is known, each once
pub record AreForcedBy (served : List (List ℕ)) (es : List Edge) (e : Edge) (end : End) (found : List Edge) : Type 0 where
  pub once : IsOnce found
  pub exact : (f : Edge) → Contains found f ↔ (IsOpenOf served es f × IsForcedBy served e end f)

-- so many open edges are forced once that is known
abbrev pub ForcesSoMany : List (List ℕ) → List Edge → Edge → End → ℕ → Type 0
ForcesSoMany served es e end n = (found : List Edge) × AreForcedBy served es e end found × (length found ≡ n)

-- ---- what is said of an open edge

-- both numbers of an open edge, which is given by its place
pub record IsAsk (served : List (List ℕ)) (es : List Edge) (a : Ask) : Type 0 where
  pub low : ForcesSoMany served es (edge_at es a.edge) End.Low a.if_low
  pub high : ForcesSoMany served es (edge_at es a.edge) End.High a.if_high

-- how many are forced at least, whichever of the two is the provider
abbrev pub at_least : Ask → ℕ
at_least a = min a.if_low a.if_high

-- how many in both cases together
abbrev pub in_both : Ask → ℕ
in_both a = a.if_low + a.if_high

-- the edge that settles more at least comes first, of two of these the one with the greater sum, and of two of these the earlier one
abbrev pub ask_cmp : Ask → Ask → Ordering
ask_cmp = then_cmp (on at_least (flip_args nat_cmp)) (then_cmp (on in_both (flip_args nat_cmp)) (on (λ a. a.edge) nat_cmp))

-- of the edges at these places, one each, in that order
pub record AreAsks (served : List (List ℕ)) (es : List Edge) (places : List ℕ) (asks : List Ask) : Type 0 where
  pub each : IsPermutation places (map (λ a. a.edge) asks)
  pub counted : All (IsAsk served es) asks
  pub sorted : IsSorted ask_cmp asks

-- ---- of which edges

-- of the open edges of `paths`, by the orientations that serve the paths of `served`
pub record AreAsksBy (paths served : List (List ℕ)) (asks : List Ask) : Type 0 where
  pub marks : List Mark
  pub marked : AreMarks served (edges paths) marks
  pub are : AreAsks served (edges paths) (open_from 0 marks) asks

-- where each path is kept exactly if some orientation that agrees with the givens serves it together with those kept before it
pub record AreAsksOf (givens : List Given) (paths : List (List ℕ)) (asks : List Ask) : Type 0 where
  pub keeps : List Bool
  pub kept : KeepsFrom (returns paths givens) paths keeps
  pub by : AreAsksBy paths (returns paths givens ++ paths_of (kept_from 1 paths keeps)) asks

-- what is written of an edge
abbrev pub ask_line_of : List Edge → Ask → AskLine
ask_line_of es a = record { low = (edge_at es a.edge).0; high = (edge_at es a.edge).1; if_low = a.if_low; if_high = a.if_high }

-- the lines of the open edges of these paths under givens
abbrev pub AreAskLinesOf : List Given → List (List ℕ) → List AskLine → Type 0
AreAskLinesOf givens paths lines = (asks : List Ask) × AreAsksOf givens paths asks × (lines ≡ map (ask_line_of (edges paths)) asks)
