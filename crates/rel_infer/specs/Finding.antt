-- What is found of the edges of a graph, where the paths of some clauses are kept. These words are the crate's own: no reader of a
-- public clause needs them.
use Rattle.std.specs.Prelude.{◌≡◌, ◌↔◌, ℕ, ◌+◌, List, ◌++◌, length, map, take, drop, is_none, All, IsTrue}
use Rattle.relationships.specs.declared.fate.Fate.{Fate}
use Rattle.relationships.specs.declared.label.Label.{Label}
use Rattle.relationships.specs.declared.mark.Mark.{Mark}
use Rattle.relationships.specs.Relationship.{Orientation, Labelling, ValleyFree, labels_of}
use Rattle.relationships.specs.Graph.{Edge, edges, degree, support, labelling}
use Rattle.relationships.specs.Evidence.{paths_of}
use Rattle.relationships.specs.Fates.{walk_of}
use Rattle.relationships.specs.Preference.{IsSettlingOrder, IsPreferred, IsRelabelled, ServeEitherWay, NoneLeftOut, lead, wanted}
use Rattle.relationships.specs.Selection.{KeepsFrom, IsForced}
use Rattle.relationships.specs.Checking.{LostFrom, MarksHold, kept_of}
use Rattle.relationships.specs.Marking.{claims_of, orders_of}
use Rattle.as_graph.specs.Paths.{paths_at}
use Rattle.tor_clauses.specs.Formulas.{Formula, demands_of, numbered, numbered_of}
use Rattle.rel_infer.specs.declared.finding.Found.{Found}
use Rattle.rel_infer.specs.declared.inferring.Inferred.{Inferred}
use Rattle.rel_infer.specs.EdgeLines.{AreLinesOf}

-- the labels of these edges, by what has to be served, and by the votes of the paths that are counted
pub record AreLabelsBy (degree : ℕ → ℕ) (ratio : ℕ) (es : List Edge) (served counted : List (List ℕ)) (L : Labelling) : Type 0 where
  pub order : List Edge
  pub settling : IsSettlingOrder (lead degree counted) es order
  pub providers : Orientation
  pub preferred : IsPreferred served (wanted degree counted) order providers
  pub relabelled : IsRelabelled degree ratio served es (labels_of providers) L

-- what is found by the paths of the clauses, of which those at the places `real` are counted
pub record AreFound (ratio : ℕ) (graph : List (List ℕ)) (f : Formula) (real : List ℕ) (found : Found) : Type 0 where
  pub labels : List Label
  pub marks : List Mark
  pub lines : AreLinesOf (edges graph) labels marks (map (support (paths_at graph real)) (edges graph)) found.edges
  pub are_labels :
      AreLabelsBy (degree graph) ratio (edges graph) (demands_of graph f) (paths_at graph real) (labelling (edges graph) labels)
  pub free : All (ValleyFree (labelling (edges graph) labels)) (demands_of graph f)
  pub exact : All (λ c. IsTrue c.forced ↔ IsForced (demands_of graph f) c.low c.high) (claims_of (edges graph) labels marks)
  pub borne : MarksHold (numbered_of graph f) (claims_of (edges graph) labels marks) found.whys (orders_of found.probes)
  pub either_way : ServeEitherWay (labelling (edges graph) labels) (demands_of graph f)
  pub none_left_out : NoneLeftOut (degree graph) ratio (demands_of graph f) (edges graph) (labelling (edges graph) labels)

-- each lost one of the first `count` paths of a graph, but for those with the fates `begun`, has a walk that refutes over the paths at the
-- places `first`, the kept ones among those before it, and itself
abbrev pub LostBehind : List (List ℕ) → List ℕ → ℕ → List Fate → List Fate → Type 0
LostBehind graph first count begun fates =
    LostFrom (length begun + 1) (numbered graph first ++ kept_of (take (length begun) graph) (map walk_of begun))
    (drop (length begun) (take count graph)) (map walk_of (drop (length begun) fates))

-- what is inferred from the first `count` paths of a graph, behind those at the places `first`, which are kept and not counted. The first
-- paths have the fates `begun` beforehand; the others are offered behind them
pub record AreInferredIn (ratio : ℕ) (graph : List (List ℕ)) (first : List ℕ) (count : ℕ) (begun : List Fate) (i : Inferred) : Type 0 where
  pub formula : Formula
  pub real : List ℕ
  pub kept : KeepsFrom (paths_at graph first) (take count graph) (map is_none (map walk_of i.fates))
  pub same : take (length begun) i.fates ≡ begun
  pub lost : LostBehind graph first count begun i.fates
  pub all_kept : numbered_of graph formula ≡ numbered graph first ++ kept_of (take count graph) (map walk_of i.fates)
  pub counted : paths_at graph real ≡ paths_of (kept_of (take count graph) (map walk_of i.fates))
  pub found : AreFound ratio graph formula real i.found
