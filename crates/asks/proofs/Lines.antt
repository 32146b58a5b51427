-- What is asked of paths, from what is asked of the places that are kept.
use Rattle.std.proofs.Common.{◌≡◌, ℕ, List, ◌++◌, Option, Some, map, take, drop, length, is_none, sym, ap, ap₂, ◌∙◌, subst}
use Rattle.std.specs.Prelude.{slice_get}
use Rattle.std.proofs.lemmas.List.{map-append}
use Rattle.std.proofs.lemmas.Option.{get_or_from_slice_get}
use Rattle.std.proofs.Math.Seq.{take-append_seam}
use Rattle.relationships.specs.Graph.{Edge, edges}
use Rattle.relationships.specs.declared.given.Given.{Given}
use Rattle.relationships.specs.declared.walk.Walk.{Walk}
use Rattle.relationships.specs.Evidence.{kept_from, paths_of}
use Rattle.relationships.specs.Selection.{KeepsFrom}
use Rattle.relationships.specs.Checking.{kept_of}
use Rattle.relationships.specs.Givens.{returns}
use Rattle.relationships.proofs.GivenLemmas.{given_edges_law}
use Rattle.as_graph.specs.Paths.{paths_at}
use Rattle.tor_clauses.specs.Formulas.{numbered}
use Rattle.tor_clauses.proofs.Exacts.{numbered_paths}
use Rattle.ties.specs.Tied.{AreMarks, open_from}
use Rattle.ties.proofs.Tyings.{behind_is}
use Rattle.asks.specs.declared.ask.Ask.{Ask}
use Rattle.asks.specs.declared.table.AskLine.{AskLine}
use Rattle.asks.specs.Asks.{AreAsks, AreAsksBy, AreAsksOf, AreAskLinesOf, ask_line_of}
use Rattle.asks.specs.Behind.{AreAskLinesBehind, AreAsksBehind}

-- ---- behind paths that are kept first

pub asks_of_kept : (graph : List (List ℕ)) (first places : List ℕ) (count : ℕ) (walks : List (Option Walk)) (asks : List Ask) →
    KeepsFrom (paths_at graph first) (take count graph) (map is_none walks) → numbered graph places ≡ numbered graph first ++ kept_of (take count graph) walks →
    AreAsksBy graph (paths_at graph places) asks → AreAsksBehind graph (paths_at graph first) count asks
asks_of_kept graph first places count walks asks keeps kept by =
    record { keeps = map is_none walks; kept = keeps; by = subst (λ l. AreAsksBy graph l asks) served by }
  where
    served : paths_at graph places ≡ paths_at graph first ++ paths_of (kept_of (take count graph) walks)
    served =
        sym (numbered_paths graph places) ∙ ap paths_of kept ∙ map-append (λ (p : ℕ × List ℕ). p.1) (numbered graph first) (kept_of (take count graph) walks) ∙
        ap (λ (ps : List (List ℕ)). ps ++ paths_of (kept_of (take count graph) walks)) (numbered_paths graph first)

-- ---- a graph of paths and, behind these, the returns

module _ (givens : List Given) (paths graph : List (List ℕ)) (n : ℕ) (same : graph ≡ paths ++ returns paths givens) (is : n ≡ length paths) where
  edges_same : edges graph ≡ edges paths
  edges_same = ap edges same ∙ (given_edges_law givens paths).0

  front_is : take n graph ≡ paths
  front_is = ap₂ (λ (m : ℕ) (ps : List (List ℕ)). take m ps) is same ∙ take-append_seam paths (returns paths givens)

  rest_is : drop n graph ≡ returns paths givens
  rest_is = behind_is givens paths graph n same is

  same_by : (served : List (List ℕ)) (asks : List Ask) → AreAsksBy graph served asks → AreAsksBy paths served asks
  same_by served asks by = record {
    marks = by.marks;
    marked = subst (λ es. AreMarks served es by.marks) edges_same by.marked;
    are = subst (λ es. AreAsks served es (open_from 0 by.marks) asks) edges_same by.are;
  }

  asks_given : (asks : List Ask) → AreAsksBehind graph (drop n graph) n asks → AreAsksOf givens paths asks
  asks_given asks are = record {
    keeps = are.keeps;
    kept = subst (λ ps. KeepsFrom (returns paths givens) ps are.keeps) front_is (subst (λ ps. KeepsFrom ps (take n graph) are.keeps) rest_is are.kept);
    by = same_by (returns paths givens ++ paths_of (kept_from 1 paths are.keeps)) asks
        (subst (λ ps. AreAsksBy graph (returns paths givens ++ paths_of (kept_from 1 ps are.keeps)) asks) front_is
        (subst (λ ps. AreAsksBy graph (ps ++ paths_of (kept_from 1 (take n graph) are.keeps)) asks) rest_is are.by));
  }

  pub ask_lines_given : (lines : List AskLine) → AreAskLinesBehind graph n lines → AreAskLinesOf givens paths lines
  ask_lines_given lines (asks, are, eq) = (asks, asks_given asks are, eq ∙ ap (λ (es : List Edge). map (ask_line_of es) asks) edges_same)

-- ---- lines

pub ask_line_is : (es : List Edge) (a : Ask) (low high : ℕ) → slice_get es a.edge ≡ Some (low, high) →
    ◌≡◌ {A = AskLine} (record { low = low; high = high; if_low = a.if_low; if_high = a.if_high }) (ask_line_of es a)
ask_line_is es a low high at =
    ap (λ (e : Edge). record { low = e.0; high = e.1; if_low = a.if_low; if_high = a.if_high }) (sym (get_or_from_slice_get es a.edge (low, high) (0, 0) at))
