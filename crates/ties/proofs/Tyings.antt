-- The ties of paths, from those of the places that are kept.
use Rattle.std.proofs.Common.{◌≡◌, ℕ, ◌+◌, ◌-◌, ◌<◌, ◌≤◌, List, ◌++◌, Option, Some, map, take, drop, length, is_none, Result, Ok, Err, sym, ap, ap₂, ◌∙◌, subst, arith, length-take, length-append, All}
use Rattle.std.specs.Prelude.{IfOk, slice_get}
use Rattle.std.proofs.lemmas.List.{length-drop, map-append, take-append-drop}
use Rattle.std.proofs.lemmas.List.Elements.{All-from_recursion}
use Rattle.std.proofs.lemmas.Option.{get_or_from_slice_get}
use Rattle.std.proofs.Math.Seq.{drop-append_seam, take-append_seam}
use Rattle.relationships.specs.Graph.{Edge, edges}
use Rattle.relationships.specs.declared.given.Given.{Given}
use Rattle.relationships.specs.declared.walk.Walk.{Walk}
use Rattle.relationships.specs.Evidence.{kept_from, paths_of}
use Rattle.relationships.specs.Selection.{KeepsFrom}
use Rattle.relationships.specs.Checking.{kept_of}
use Rattle.relationships.specs.Givens.{returns}
use Rattle.relationships.proofs.GivenLemmas.{given_edges_law}
use Rattle.as_graph.specs.Paths.{paths_at}
use Rattle.tor_clauses.specs.Formulas.{numbered}
use Rattle.tor_clauses.proofs.Exacts.{numbered_paths}
use Rattle.path_select.specs.Behind.{places_from}
use Rattle.path_select.proofs.BehindLemmas.{places_all, rows_behind}
use Rattle.ties.specs.declared.tie.Tie.{Tie}
use Rattle.ties.specs.Tied.{AreTies, ShareExactly, AreMarks, open_from}
use Rattle.ties.specs.declared.table.TieLine.{TieLine}
use Rattle.ties.specs.Behind.{AreLinesBehind, AreTiesBehind}
use Rattle.ties.specs.Ties.{AreTieLinesOf, AreTiesBy, AreTiesOf, tie_line_of}

-- two facts of a value give a third
pub both_ok : {T E : Type 0} (result : Result T E) (P Q R : T → Type 0) → ((x : T) → P x → Q x → R x) → IfOk result P → IfOk result Q → IfOk result R
both_ok (Ok x) P Q R f p q = f x p q
both_ok (Err e) P Q R f p q = tt

-- ---- behind paths that are kept first

pub ties_of_kept : (graph : List (List ℕ)) (first places : List ℕ) (count : ℕ) (walks : List (Option Walk)) (ts : List Tie) →
    KeepsFrom (paths_at graph first) (take count graph) (map is_none walks) → numbered graph places ≡ numbered graph first ++ kept_of (take count graph) walks →
    AreTiesBy graph (paths_at graph places) ts → AreTiesBehind graph (paths_at graph first) count ts
ties_of_kept graph first places count walks ts keeps kept by = record { keeps = map is_none walks; kept = keeps; by = subst (λ l. AreTiesBy graph l ts) served by }
  where
    served : paths_at graph places ≡ paths_at graph first ++ paths_of (kept_of (take count graph) walks)
    served =
        sym (numbered_paths graph places) ∙ ap paths_of kept ∙ map-append (λ (p : ℕ × List ℕ). p.1) (numbered graph first) (kept_of (take count graph) walks) ∙
        ap (λ (ps : List (List ℕ)). ps ++ paths_of (kept_of (take count graph) walks)) (numbered_paths graph first)

pub all_within : (graph : List (List ℕ)) (count : ℕ) → count ≤ length graph → All (λ path. path < length graph) (places_from count (length graph - count))
all_within graph count le =
    All-from_recursion (λ path. path < length graph) (places_from count (length graph - count))
    (places_all (λ path. path < length graph) count (length graph - count) (λ i low high. omega (arith, high, le)))

pub rows_at : (graph : List (List ℕ)) (count : ℕ) → count ≤ length graph → paths_at graph (places_from count (length graph - count)) ≡ drop count graph
rows_at graph count le =
    let short = length-take count graph in
    let front : count ≡ length (take count graph) = omega (arith, short, le) in
    ap₂ paths_at (sym (take-append-drop count graph)) (ap₂ places_from front (sym (length-drop count graph))) ∙ rows_behind (take count graph) (drop count graph)

-- ---- a graph of paths and, behind these, the returns

module _ (givens : List Given) (paths graph : List (List ℕ)) (n : ℕ) (same : graph ≡ paths ++ returns paths givens) (is : n ≡ length paths) where
  edges_same : edges graph ≡ edges paths
  edges_same = ap edges same ∙ (given_edges_law givens paths).0

  pub long : length graph ≡ length paths + length (returns paths givens)
  long = ap length same ∙ length-append paths (returns paths givens)

  front_is : take n graph ≡ paths
  front_is = ap₂ (λ (m : ℕ) (ps : List (List ℕ)). take m ps) is same ∙ take-append_seam paths (returns paths givens)

  pub behind_is : drop n graph ≡ returns paths givens
  behind_is = ap₂ (λ (m : ℕ) (ps : List (List ℕ)). drop m ps) is same ∙ drop-append_seam paths (returns paths givens)

  same_by : (served : List (List ℕ)) (ts : List Tie) → AreTiesBy graph served ts → AreTiesBy paths served ts
  same_by served ts by = record {
    marks = by.marks;
    marked = subst (λ es. AreMarks served es by.marks) edges_same by.marked;
    ties = subst (λ es. AreTies served es (open_from 0 by.marks) ts) edges_same by.ties;
    same = subst (λ es. ShareExactly served es ts) edges_same by.same;
  }

  ties_given : (ts : List Tie) → AreTiesBehind graph (drop n graph) n ts → AreTiesOf givens paths ts
  ties_given ts are = record {
    keeps = are.keeps;
    kept = subst (λ ps. KeepsFrom (returns paths givens) ps are.keeps) front_is (subst (λ ps. KeepsFrom ps (take n graph) are.keeps) behind_is are.kept);
    by = same_by (returns paths givens ++ paths_of (kept_from 1 paths are.keeps)) ts
        (subst (λ ps. AreTiesBy graph (returns paths givens ++ paths_of (kept_from 1 ps are.keeps)) ts) front_is
        (subst (λ ps. AreTiesBy graph (ps ++ paths_of (kept_from 1 (take n graph) are.keeps)) ts) behind_is are.by));
  }

  pub lines_given : (lines : List TieLine) → AreLinesBehind graph n lines → AreTieLinesOf givens paths lines
  lines_given lines (ts, are, eq) = (ts, ties_given ts are, eq ∙ ap (λ (es : List Edge). map (tie_line_of es) ts) edges_same)

-- ---- lines

pub line_is : (es : List Edge) (t : Tie) (low high : ℕ) → slice_get es t.edge ≡ Some (low, high) →
    ◌≡◌ {A = TieLine} (record { low = low; high = high; class = t.class; side = t.side }) (tie_line_of es t)
line_is es t low high at =
    ap (λ (e : Edge). record { low = e.0; high = e.1; class = t.class; side = t.side }) (sym (get_or_from_slice_get es t.edge (low, high) (0, 0) at))
