-- The laws of ties under givens.
use Rattle.std.proofs.Common.{◌≡◌, ◌≢◌, ℕ, suc, ◌+◌, List, [], ◌∷◌, ◌++◌, map, Some, refl, sym, ◌∙◌, subst, arith, All, Contains}
use Rattle.std.specs.Prelude.{slice_get}
use Rattle.std.specs.List.{AllByRecursion}
use Rattle.std.proofs.lemmas.List.Elements.{All-from_recursion}
use Rattle.std.proofs.lemmas.Option.{get_or_from_slice_get, slice_get_within}
use Rattle.relationships.specs.declared.mark.Mark.{Mark}
use Rattle.relationships.specs.Graph.{Edge, edge_of, edges}
use Rattle.relationships.specs.Evidence.{kept_from, paths_of}
use Rattle.relationships.specs.Selection.{IsForced}
use Rattle.relationships.specs.Givens.{returns}
use Rattle.relationships.proofs.GivenLemmas.{any_there, given_serving_law}
use Rattle.relationships.proofs.GivenPeerings.{given_forced_law}
use Rattle.ties.specs.declared.tie.Tie.{Tie}
use Rattle.ties.specs.Tied.{AreMarks, open_from}
use Rattle.ties.specs.declared.table.TieLine.{TieLine}
use Rattle.ties.specs.GivenTies.{AgreeingTiesLaw, GivenTiesLaw, NoGivensTiesLaw}
use Rattle.ties.specs.Ties.{tie_line_of}

pub no_givens_ties_law : NoGivensTiesLaw
no_givens_ties_law paths ts = (λ are. (are.keeps, are.kept, are.by), λ are. record { keeps = are.0; kept = are.1; by = are.2 })

pub agreeing_ties_law : AgreeingTiesLaw
agreeing_ties_law givens paths kept side e f = (
  λ tied O serves. tied O (((given_serving_law givens paths).1 O kept).0 serves),
  λ h O serves. h O (((given_serving_law givens paths).1 O kept).1 serves),
)

-- ---- an edge that is open is not forced

-- the place, counted from n on, is that of an edge that is not forced
record IsOpenAt (served : List (List ℕ)) (es : List Edge) (n place : ℕ) : Type 0 where
  at : ℕ
  edge : Edge
  is : place ≡ n + at
  there : slice_get es at ≡ Some edge
  unforced : IsForced served edge.0 edge.1 → ⊥

module _ (served : List (List ℕ)) where
  later : (e : Edge) (es : List Edge) (n : ℕ) (places : List ℕ) → AllByRecursion (IsOpenAt served es (n + 1)) places → AllByRecursion (IsOpenAt served (e ∷ es) n) places
  later e es n [] h = tt
  later e es n (place ∷ places) h = (one h.0, later e es n places h.1)
    where
      one : IsOpenAt served es (n + 1) place → IsOpenAt served (e ∷ es) n place
      one o = let is = o.is in record { at = suc o.at; edge = o.edge; is = omega (arith, is); there = o.there; unforced = o.unforced }

  open_unforced : (es : List Edge) (marks : List Mark) (n : ℕ) → AreMarks served es marks → AllByRecursion (IsOpenAt served es n) (open_from n marks)
  open_unforced [] [] n all = tt
  open_unforced [] (m ∷ marks) n all = absurd all
  open_unforced (e ∷ es) [] n all = absurd all
  open_unforced (e ∷ es) (Mark.Forced ∷ marks) n all = later e es n (open_from (n + 1) marks) (open_unforced es marks (n + 1) all.1)
  open_unforced (e ∷ es) (Mark.Open ∷ marks) n all = (
    record { at = 0; edge = e; is = omega arith; there = refl; unforced = λ forced. absurd (cc (all.0.1 forced)) },
    later e es n (open_from (n + 1) marks) (open_unforced es marks (n + 1) all.1),
  )

  -- the line is of an edge that is not forced
  record IsOfOpen (es : List Edge) (line : TieLine) : Type 0 where
    edge : Edge
    on : Contains es edge
    same : (line.low, line.high) ≡ edge
    unforced : IsForced served edge.0 edge.1 → ⊥

  lines_open : (es : List Edge) (ts : List Tie) → AllByRecursion (IsOpenAt served es 0) (map (λ (t : Tie). t.edge) ts) → AllByRecursion (IsOfOpen es) (map (tie_line_of es) ts)
  lines_open es [] h = tt
  lines_open es (t ∷ ts) h = (one h.0, lines_open es ts h.1)
    where
      one : IsOpenAt served es 0 t.edge → IsOfOpen es (tie_line_of es t)
      one o =
          let is = o.is in
          let e : o.at ≡ t.edge = omega (arith, is) in
          let at : slice_get es t.edge ≡ Some o.edge = subst (λ k. slice_get es k ≡ Some o.edge) e o.there in
          record {
            edge = o.edge;
            on = (t.edge, slice_get_within es t.edge o.edge at, get_or_from_slice_get es t.edge o.edge o.edge at);
            same = get_or_from_slice_get es t.edge o.edge (0, 0) at;
            unforced = o.unforced;
          }

pub given_ties_law : GivenTiesLaw
given_ties_law givens paths lines (ts, are, is) g there =
    subst (All (λ (line : TieLine). (line.low, line.high) ≢ edge_of g.over g.under)) (sym is)
    (All-from_recursion (λ (line : TieLine). (line.low, line.high) ≢ edge_of g.over g.under) (map (tie_line_of es) ts) (none (map (tie_line_of es) ts) all))
  where
    es : List Edge
    es = edges paths

    kept : List (List ℕ)
    kept = paths_of (kept_from 1 paths are.keeps)

    served : List (List ℕ)
    served = returns paths givens ++ kept

    all : AllByRecursion (IsOfOpen served es) (map (tie_line_of es) ts)
    all = lines_open served es ts (subst (AllByRecursion (IsOpenAt served es 0)) (sym are.by.ties.each) (open_unforced served es are.by.marks 0 are.by.marked))

    apart : (line : TieLine) → IsOfOpen served es line → (line.low, line.high) ≢ edge_of g.over g.under
    apart line o same =
        let e : o.edge ≡ edge_of g.over g.under = sym o.same ∙ same in
        let named = any_there es (edge_of g.over g.under) (subst (Contains es) e o.on) in
        o.unforced (subst (λ (f : Edge). IsForced served f.0 f.1) (sym e) (given_forced_law givens paths kept g there named).0)

    none : (ls : List TieLine) → AllByRecursion (IsOfOpen served es) ls → AllByRecursion (λ (line : TieLine). (line.low, line.high) ≢ edge_of g.over g.under) ls
    none [] h = tt
    none (line ∷ ls) h = (apart line h.0, none ls h.1)
