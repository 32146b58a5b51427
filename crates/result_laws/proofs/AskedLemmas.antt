-- With one given more, of an open edge, exactly those edges are forced that weren't which its provider forces.
use Rattle.std.proofs.Common.{◌≡◌, ◌↔◌, inl, inr, ℕ, zero, suc, ◌<◌, Bool, true, false, List, [], ◌∷◌, ◌++◌, Option, Some, map, filter, is_none, refl, sym}
use Rattle.std.proofs.Common.{ap, ◌∙◌, subst, arith, All, Contains, IsTrue}
use Rattle.std.specs.Prelude.{slice_get}
use Rattle.std.proofs.lemmas.Bool.{cases_Bool, false≢true}
use Rattle.std.proofs.lemmas.Option.{same_Some, get_or_from_slice_get}
use Rattle.std.proofs.lemmas.List.Sorted.{Contains-permutation, IsPermutation-sym}
use Rattle.std.proofs.lemmas.List.Elements.{All-append, All-contains, All-contains_itself, All-filter, All-from_recursion, All-weaker, filter_passes, recursion_from_All}
use Rattle.tor_arena.proofs.Gets.{has-from_Contains, Contains-from_has, slice_get-map, slice_get-unmap, Contains-map}
use Rattle.tor_digraph.specs.Closing.{Has, IsOnce}
use Rattle.relationships.specs.declared.label.End.{End}
use Rattle.relationships.specs.declared.given.Given.{Given}
use Rattle.relationships.specs.declared.walk.Walk.{Walk}
use Rattle.relationships.specs.Relationship.{Orientation, labels_of, ValleyFree, Serves}
use Rattle.relationships.specs.Graph.{Edge, edge_of, edges}
use Rattle.relationships.specs.Evidence.{NeighboursDiffer, paths_of, kept_from}
use Rattle.relationships.specs.Givens.{names_edge, return_of, returns, end_by, NameTwo}
use Rattle.relationships.specs.Checking.{kept_of}
use Rattle.relationships.specs.Marking.{is_forced}
use Rattle.relationships.specs.Selection.{IsForced, KeepsFrom}
use Rattle.relationships.proofs.Checked.{kept_all}
use Rattle.relationships.proofs.GivenLemmas.{all_parts, any_there, over_end, return_free, return_holds, returns_differ}
use Rattle.relationships.proofs.Selecting.{paths_of-kept_from, selection_behind_law}
use Rattle.order_trials.proofs.Ordering.{rising}
use Rattle.result_text.specs.declared.file.EdgeLine.{EdgeLine}
use Rattle.tor_numbers.specs.Edges.{edge_at}
use Rattle.top_givens.proofs.Members.{in_filter, unmapped}
use Rattle.ties.specs.Tied.{open_from}
use Rattle.asks.specs.declared.ask.Ask.{Ask}
use Rattle.asks.specs.declared.table.AskLine.{AskLine}
use Rattle.asks.specs.Asks.{IsForcedBy, AreForcedBy, ForcesSoMany, IsAsk, AreAsksBy, ask_line_of}
use Rattle.asks.proofs.Opens.{open_of_place}
use Rattle.asks.proofs.Counted.{edges_once, edge_of_mark, open_unforced}
use Rattle.asks.proofs.Uniqueness.{as_long}
use Rattle.result_laws.specs.Asked.{AreWithGiven, newly_forced, number_if, GivenAskLaw}
use Rattle.result_laws.proofs.KeptLemmas.{Within, keeps_behind_more, serves_fewer, within-append}
use Rattle.result_laws.proofs.PossibleLemmas.{either_end, edge_apart, given_held}

-- ---- what two lists of lines say

abbrev pair_of : EdgeLine → Edge
pair_of l = (l.low, l.high)

-- the line marks its edge forced exactly if this holds
abbrev Marks : (Edge → Type 0) → EdgeLine → Type 0
Marks P l = IsTrue (is_forced l.mark) ↔ P (pair_of l)

once_behind : (x : Edge) (ys : List Edge) → IsOnce (x ∷ ys) → IsOnce ys
once_behind x ys h i j y a b = let e = h (suc i) (suc j) y a b in omega (arith, e)

once_front : (x : Edge) (ys : List Edge) → IsOnce (x ∷ ys) → Has ys x → ⊥
once_front x ys h has = let e = h 0 (suc has.0) x refl has.1 in omega (arith, e)

put_once : (x : Edge) (ys : List Edge) → (Has ys x → ⊥) → IsOnce ys → IsOnce (x ∷ ys)
put_once x ys none h zero zero y a b = refl
put_once x ys none h zero (suc j) y a b = absurd (none (j, b ∙ sym a))
put_once x ys none h (suc i) zero y a b = absurd (none (i, a ∙ sym b))
put_once x ys none h (suc i) (suc j) y a b = ap suc (h i j y a b)

-- the first of two lists of lines, by its marks
newly_if_forced : (l m : EdgeLine) (ls ms : List EdgeLine) → is_forced l.mark ≡ true → newly_forced (l ∷ ls) (m ∷ ms) ≡ newly_forced ls ms
newly_if_forced l m ls ms t = rw t refl

newly_if_new : (l m : EdgeLine) (ls ms : List EdgeLine) → is_forced l.mark ≡ false → is_forced m.mark ≡ true →
    newly_forced (l ∷ ls) (m ∷ ms) ≡ pair_of l ∷ newly_forced ls ms
newly_if_new l m ls ms f t = rw (f, t) refl

newly_if_open : (l m : EdgeLine) (ls ms : List EdgeLine) → is_forced l.mark ≡ false → is_forced m.mark ≡ false →
    newly_forced (l ∷ ls) (m ∷ ms) ≡ newly_forced ls ms
newly_if_open l m ls ms f g = rw (f, g) refl

-- each newly forced edge is that of a line that is open in the first list and forced in the second
record IsNewly (ls ms : List EdgeLine) (f : Edge) : Type 0 where
  place : ℕ
  first : EdgeLine
  second : EdgeLine
  at_first : slice_get ls place ≡ Some first
  at_second : slice_get ms place ≡ Some second
  is : pair_of first ≡ f
  was_open : is_forced first.mark ≡ false
  is_now : is_forced second.mark ≡ true

newly_later : (l m : EdgeLine) (ls ms : List EdgeLine) (f : Edge) → IsNewly ls ms f → IsNewly (l ∷ ls) (m ∷ ms) f
newly_later l m ls ms f n = record {
  place = suc n.place;
  first = n.first;
  second = n.second;
  at_first = n.at_first;
  at_second = n.at_second;
  is = n.is;
  was_open = n.was_open;
  is_now = n.is_now;
}

newly_of : (ls ms : List EdgeLine) (f : Edge) → Has (newly_forced ls ms) f → IsNewly ls ms f
newly_of [] ms f h = absurd (let at = h.1 in nothing h.0 f at)
  where
    nothing : (k : ℕ) (f : Edge) → slice_get {X = Edge} [] k ≡ Some f → ⊥
    nothing k f at = cc
newly_of (l ∷ ls) [] f h = absurd (let at = h.1 in nothing h.0 f at)
  where
    nothing : (k : ℕ) (f : Edge) → slice_get {X = Edge} [] k ≡ Some f → ⊥
    nothing k f at = cc
newly_of (l ∷ ls) (m ∷ ms) f h =
    let rest = newly_of ls ms f in
    elim (cases_Bool (is_forced l.mark)) [
      | inl t ↦ newly_later l m ls ms f (rest (subst (λ es. Has es f) (newly_if_forced l m ls ms t) h))
      | inr o ↦ elim (cases_Bool (is_forced m.mark)) [
        | inl t ↦ front o t rest (subst (λ es. Has es f) (newly_if_new l m ls ms o t) h)
        | inr g ↦ newly_later l m ls ms f (rest (subst (λ es. Has es f) (newly_if_open l m ls ms o g) h))
      ]
    ]
  where
    front : is_forced l.mark ≡ false → is_forced m.mark ≡ true → (Has (newly_forced ls ms) f → IsNewly ls ms f) →
        Has (pair_of l ∷ newly_forced ls ms) f → IsNewly (l ∷ ls) (m ∷ ms) f
    front o t rest (zero, at) =
        record { place = 0; first = l; second = m; at_first = refl; at_second = refl; is = same_Some (pair_of l) f at; was_open = o; is_now = t }
    front o t rest (suc k, at) = newly_later l m ls ms f (rest (k, at))

newly_has : (ls ms : List EdgeLine) (k : ℕ) (l m : EdgeLine) → slice_get ls k ≡ Some l → slice_get ms k ≡ Some m →
    is_forced l.mark ≡ false → is_forced m.mark ≡ true → Has (newly_forced ls ms) (pair_of l)
newly_has [] ms k l m a b o t = absurd (cc a)
newly_has (x ∷ ls) [] k l m a b o t = absurd (cc b)
newly_has (x ∷ ls) (y ∷ ms) zero l m a b o t =
    let first = same_Some x l a in
    let second = same_Some y m b in
    subst (λ es. Has es (pair_of l)) (sym (newly_if_new x y ls ms (ap (λ (e : EdgeLine). is_forced e.mark) first ∙ o) (ap (λ (e : EdgeLine). is_forced e.mark) second ∙ t)))
    (0, ap (λ (e : EdgeLine). Some (pair_of e)) first)
newly_has (x ∷ ls) (y ∷ ms) (suc k) l m a b o t =
    let rest = newly_has ls ms k l m a b o t in
    elim (cases_Bool (is_forced x.mark)) [
      | inl f ↦ subst (λ es. Has es (pair_of l)) (sym (newly_if_forced x y ls ms f)) rest
      | inr f ↦ elim (cases_Bool (is_forced y.mark)) [
        | inl g ↦ subst (λ es. Has es (pair_of l)) (sym (newly_if_new x y ls ms f g)) (suc rest.0, rest.1)
        | inr g ↦ subst (λ es. Has es (pair_of l)) (sym (newly_if_open x y ls ms f g)) rest
      ]
    ]

newly_once : (ls ms : List EdgeLine) → IsOnce (map pair_of ls) → IsOnce (newly_forced ls ms)
newly_once [] ms h = λ i j x a b. absurd (cc a)
newly_once (l ∷ ls) [] h = λ i j x a b. absurd (cc a)
newly_once (l ∷ ls) (m ∷ ms) h =
    let rest = newly_once ls ms (once_behind (pair_of l) (map pair_of ls) h) in
    let none : Has (newly_forced ls ms) (pair_of l) → ⊥ = λ has.
    let n = newly_of ls ms (pair_of l) has in
    once_front (pair_of l) (map pair_of ls) h (n.place, slice_get-map pair_of ls n.place n.first n.at_first ∙ ap (λ (e : Edge). Some e) n.is) in
    elim (cases_Bool (is_forced l.mark)) [
      | inl t ↦ subst IsOnce (sym (newly_if_forced l m ls ms t)) rest
      | inr o ↦ elim (cases_Bool (is_forced m.mark)) [
        | inl t ↦ subst IsOnce (sym (newly_if_new l m ls ms o t)) (put_once (pair_of l) (newly_forced ls ms) none rest)
        | inr g ↦ subst IsOnce (sym (newly_if_open l m ls ms o g)) rest
      ]
    ]

-- lines of the same edges in one order, marked by what is forced before and then
module _ (es : List Edge) (once : IsOnce es) (ls ms : List EdgeLine) (first : map pair_of ls ≡ es) (second : map pair_of ms ≡ es) (P Q : Edge → Type 0)
    (before : All (Marks P) ls) (later : All (Marks Q) ms) where
  line_at : (xs : List EdgeLine) → map pair_of xs ≡ es → (k : ℕ) (f : Edge) → slice_get es k ≡ Some f → (l : EdgeLine) × (slice_get xs k ≡ Some l) × (pair_of l ≡ f)
  line_at xs same k f at = slice_get-unmap pair_of xs k f (ap (λ (fs : List Edge). slice_get fs k) same ∙ at)

  marked : (R : Edge → Type 0) (xs : List EdgeLine) → All (Marks R) xs → (k : ℕ) (l : EdgeLine) → slice_get xs k ≡ Some l → Marks R l
  marked R xs all k l at = All-contains (Marks R) xs l all (Contains-from_has xs l (k, at))

  pub newly_exact : (f : Edge) → Contains (newly_forced ls ms) f ↔ ((Contains es f × (P f → ⊥)) × Q f)
  newly_exact f = (
    λ c.
        let n = newly_of ls ms f (has-from_Contains (newly_forced ls ms) f c) in
        let at : slice_get es n.place ≡ Some f =
        ap (λ (fs : List Edge). slice_get fs n.place) (sym first) ∙ slice_get-map pair_of ls n.place n.first n.at_first ∙ ap (λ (e : Edge). Some e) n.is in
        let at' : slice_get es n.place ≡ Some (pair_of n.second) =
        ap (λ (fs : List Edge). slice_get fs n.place) (sym second) ∙ slice_get-map pair_of ms n.place n.second n.at_second in
        let same : pair_of n.second ≡ f = same_Some (pair_of n.second) f (sym at' ∙ at) in
        let a = marked P ls before n.place n.first n.at_first in
        let b = marked Q ms later n.place n.second n.at_second in (
          (Contains-from_has es f (n.place, at), λ p. false≢true (sym n.was_open ∙ a.1 (subst P (sym n.is) p))),
          subst Q same (b.0 n.is_now),
        ),
    λ h.
        let k = has-from_Contains es f h.0.0 in
        let l = line_at ls first k.0 f k.1 in
        let m = line_at ms second k.0 f k.1 in
        let a = marked P ls before k.0 l.0 l.1 in
        let b = marked Q ms later k.0 m.0 m.1 in
        let forced : is_forced m.0.mark ≡ true = b.1 (subst Q (sym m.2) h.1) in
        elim (cases_Bool (is_forced l.0.mark)) [
          | inl t ↦ absurd (h.0.1 (subst P l.2 (a.0 t)))
          | inr o ↦ subst (Contains (newly_forced ls ms)) l.2
              (Contains-from_has (newly_forced ls ms) (pair_of l.0) (newly_has ls ms k.0 l.0 m.0 l.1 m.1 o forced))
        ],
  )

  -- what is forced stays so, if whatever held before holds then
  pub still_forced : ((f : Edge) → P f → Q f) → (k : ℕ) (l m : EdgeLine) → slice_get ls k ≡ Some l → slice_get ms k ≡ Some m → IsTrue (is_forced l.mark) →
      IsTrue (is_forced m.mark)
  still_forced weaker k l m a b t =
      let at = slice_get-map pair_of ls k l a in
      let bt = slice_get-map pair_of ms k m b in
      let same : pair_of l ≡ pair_of m = same_Some (pair_of l) (pair_of m) (sym at ∙ ap (λ (fs : List Edge). slice_get fs k) (first ∙ sym second) ∙ bt) in
      (marked Q ms later k m b).1 (subst Q same (weaker (pair_of l) ((marked P ls before k l a).0 t)))

  pub newly_is_once : IsOnce (newly_forced ls ms)
  newly_is_once = newly_once ls ms (subst IsOnce (sym first) once)

-- ---- one given more

-- a return is that of a given whose two are neighbours on the paths
pub return_there : (paths : List (List ℕ)) (givens : List Given) (g : Given) → Contains givens g → names_edge paths g ≡ true → Contains (returns paths givens) (return_of g)
return_there paths givens g c named =
    Contains-map return_of (filter (names_edge paths) givens) g (in_filter (names_edge paths) givens g c named)

pub return_from : (paths : List (List ℕ)) (givens : List Given) (p : List ℕ) → Contains (returns paths givens) p →
    (g : Given) × Contains givens g × (names_edge paths g ≡ true) × (return_of g ≡ p)
return_from paths givens p c =
    let some = filter (names_edge paths) givens in
    let u = unmapped return_of some p c in
    let all = All-filter (names_edge paths) (Contains givens) givens (All-contains_itself givens) in (
      u.0,
      All-contains (Contains givens) some u.0 all u.1,
      All-contains (λ g. names_edge paths g ≡ true) some u.0 (filter_passes (names_edge paths) givens) u.1,
      u.2,
    )

module _ (givens more : List Given) (paths : List (List ℕ)) (walks : List (Option Walk)) (differ : All NeighboursDiffer paths) (two : NameTwo givens) (g : Given)
    (says : AreWithGiven givens g more) (low high : ℕ) (lt : low < high) (of_line : edge_of g.over g.under ≡ (low, high)) (named : names_edge paths g ≡ true)
    (keeps : KeepsFrom (returns paths givens) paths (map is_none walks)) where
  abbrev kept : List (List ℕ)
  kept = paths_of (kept_of paths walks)

  abbrev served : List (List ℕ)
  served = returns paths givens ++ kept

  abbrev served_next : List (List ℕ)
  served_next = returns paths more ++ kept

  abbrev end : End
  end = end_by g.over g.under

  within : Within (returns paths givens) (returns paths more)
  within p c =
      let r = return_from paths givens p c in
      subst (Contains (returns paths more)) r.3 (return_there paths more r.0 ((says r.0).1 (inl r.1)) r.2)

  pub served_more : (O : Orientation) → Serves O served_next → Serves O served × (O low high ≡ end)
  served_more O serves =
      let all = all_parts (ValleyFree (labels_of O)) (returns paths more) kept serves in
      let new = All-contains (ValleyFree (labels_of O)) (returns paths more) (return_of g) all.0 (return_there paths more g ((says g).1 (inr refl)) named) in
      let over = over_end O g.over g.under (return_holds (labels_of O) g new) in (
        serves_fewer O served served_next (within-append (returns paths givens) kept (returns paths more) kept within (λ p c. c)) serves,
        subst (λ (e : Edge). O e.0 e.1 ≡ end) of_line over,
      )

  pub more_served : (O : Orientation) → Serves O served → O low high ≡ end → Serves O served_next
  more_served O serves is =
      let all = all_parts (ValleyFree (labels_of O)) (returns paths givens) kept serves in
      let holds = given_held O g (edge_apart g.over g.under low high lt of_line) low high of_line is in
      let free : (p : List ℕ) → Contains (returns paths more) p → ValleyFree (labels_of O) p = λ p c.
      let r = return_from paths more p c in
      elim ((says r.0).0 r.1) [
        | inl old ↦ All-contains (ValleyFree (labels_of O)) (returns paths givens) p all.0 (subst (Contains (returns paths givens)) r.3 (return_there paths givens r.0 old r.2))
        | inr same ↦ subst (ValleyFree (labels_of O)) r.3 (subst (λ (h : Given). ValleyFree (labels_of O) (return_of h)) (sym same) (return_free (labels_of O) g holds))
      ] in
      All-append (ValleyFree (labels_of O)) (returns paths more) kept
      (All-weaker (Contains (returns paths more)) (ValleyFree (labels_of O)) free (returns paths more) (All-contains_itself (returns paths more))) all.1

  pub forced_more : (f : Edge) → IsForced served_next f.0 f.1 ↔ IsForcedBy served (low, high) end f
  forced_more f = (
    λ forced O O' s s' is is'. forced O O' (more_served O s is) (more_served O' s' is'),
    λ forced O O' s s'. (let p = served_more O s in let q = served_more O' s' in forced O O' p.0 q.0 p.1 q.1),
  )

  served_differ : All NeighboursDiffer served
  served_differ =
      All-append NeighboursDiffer (returns paths givens) kept (returns_differ givens paths two)
      (All-from_recursion NeighboursDiffer kept (kept_all NeighboursDiffer 1 paths (map is_none walks) (recursion_from_All NeighboursDiffer paths differ)))

  -- the same paths are kept
  pub same_keeps : (IsForced served low high → ⊥) → (flags : List Bool) → KeepsFrom (returns paths more) paths flags → flags ≡ map is_none walks
  same_keeps is_open flags theirs =
      let w = either_end served low high served_differ lt is_open end in
      let same = paths_of-kept_from 1 paths (map is_none walks) in
      let ours = keeps_behind_more w.0 (returns paths givens) (returns paths more) paths (map is_none walks) within keeps
      (subst (λ ps. Serves w.0 (returns paths more ++ ps)) same (more_served w.0 w.1 w.2)) in
      sym ((selection_behind_law (returns paths more) paths (map is_none walks) ours).0 flags theirs)

-- ---- the line of an edge

-- what a line says of its edge, where the paths of `served` are served
pub record IsSaid (served : List (List ℕ)) (paths : List (List ℕ)) (line : AskLine) : Type 0 where
  pub place : ℕ
  pub at : slice_get (edges paths) place ≡ Some (line.low, line.high)
  pub unforced : IsForced served line.low line.high → ⊥
  pub low : ForcesSoMany served (edges paths) (line.low, line.high) End.Low line.if_low
  pub high : ForcesSoMany served (edges paths) (line.low, line.high) End.High line.if_high

pub said_of_line : (served paths : List (List ℕ)) (asks : List Ask) (line : AskLine) → AreAsksBy paths served asks →
    Contains (map (ask_line_of (edges paths)) asks) line → IsSaid served paths line
said_of_line served paths asks line by there =
    let es = edges paths in
    let h = has-from_Contains (map (ask_line_of es) asks) line there in
    let u = slice_get-unmap (ask_line_of es) asks h.0 line h.1 in
    let a = u.0 in
    let places = map (λ (a : Ask). a.edge) asks in
    let among : Contains places a.edge = Contains-from_has places a.edge (h.0, slice_get-map (λ (a : Ask). a.edge) asks h.0 a u.1) in
    let p = has-from_Contains (open_from 0 by.marks) a.edge
    (Contains-permutation places (open_from 0 by.marks) a.edge (IsPermutation-sym (open_from 0 by.marks) places by.are.each) among) in
    let o = open_of_place by.marks p.0 a.edge p.1 in
    let e = edge_of_mark served es by.marks by.marked a.edge o.0 in
    let read : edge_at es a.edge ≡ e.0 = get_or_from_slice_get es a.edge e.0 (0, 0) e.1 in
    let pair : e.0 ≡ (line.low, line.high) = sym read ∙ ap (λ (l : AskLine). (l.low, l.high)) u.2 in
    let numbers = All-contains (IsAsk served es) asks a by.are.counted (Contains-from_has asks a (h.0, u.1)) in
    let edge : edge_at es a.edge ≡ (line.low, line.high) = read ∙ pair in
    record {
      place = a.edge;
      at = e.1 ∙ ap (λ (f : Edge). Some f) pair;
      unforced = subst (λ (f : Edge). IsForced served f.0 f.1 → ⊥) pair (open_unforced served es by.marks by.marked a.edge e.0 e.1 o.0);
      low = subst (λ n. ForcesSoMany served es (line.low, line.high) End.Low n) (ap (λ (l : AskLine). l.if_low) u.2)
          (subst (λ (f : Edge). ForcesSoMany served es f End.Low a.if_low) edge numbers.low);
      high = subst (λ n. ForcesSoMany served es (line.low, line.high) End.High n) (ap (λ (l : AskLine). l.if_high) u.2)
          (subst (λ (f : Edge). ForcesSoMany served es f End.High a.if_high) edge numbers.high);
    }

number_of : (served paths : List (List ℕ)) (line : AskLine) → IsSaid served paths line → (end : End) →
    ForcesSoMany served (edges paths) (line.low, line.high) end (number_if line end)
number_of served paths line s End.Low = s.low
number_of served paths line s End.High = s.high

pub given_ask_law : GivenAskLaw
given_ask_law givens more ratio paths asked line g walks walks' lines lines' whys whys' probes probes' differ two are there of_line says i i' =
    let flags = (selection_behind_law (returns paths givens) paths (map is_none walks) i.kept).0 are.1.keeps are.1.kept in
    let served = returns paths givens ++ paths_of (kept_of paths walks) in
    let by = subst (λ bs. AreAsksBy paths (returns paths givens ++ paths_of (kept_from 1 paths bs)) are.0) (sym flags) are.1.by in
    let s = said_of_line served paths are.0 line by (subst (λ (ls : List AskLine). Contains ls line) are.2 there) in
    let lt = rising paths differ s.place (line.low, line.high) s.at in
    let named = any_there (edges paths) (edge_of g.over g.under) (subst (Contains (edges paths)) (sym of_line)
    (Contains-from_has (edges paths) (line.low, line.high) (s.place, s.at))) in
    let kept = same_keeps givens more paths walks differ two g says line.low line.high lt of_line named i.kept s.unforced (map is_none walks') i'.kept in
    let next = returns paths more ++ paths_of (kept_of paths walks) in
    let end = end_by g.over g.under in
    let P : Edge → Type 0 = λ f. IsForced served f.0 f.1 in
    let Q : Edge → Type 0 = λ f. IsForced next f.0 f.1 in
    let later : All (Marks Q) lines' =
    subst (λ bs. All (Marks (λ f. IsForced (returns paths more ++ paths_of (kept_from 1 paths bs)) f.0 f.1)) lines') kept i'.forced in
    let once = edges_once paths in
    let exact = newly_exact (edges paths) once lines lines' i.edges_listed i'.edges_listed P Q i.forced later in
    let by_end = forced_more givens more paths walks differ two g says line.low line.high lt of_line named i.kept in
    let these : AreForcedBy served (edges paths) (line.low, line.high) end (newly_forced lines lines') = record {
      once = newly_is_once (edges paths) once lines lines' i.edges_listed i'.edges_listed P Q i.forced later;
      exact = λ f. (
        λ c. let h = (exact f).0 c in (h.0, (by_end f).0 h.1),
        λ h. (exact f).1 (h.0, (by_end f).1 h.1),
      );
    } in
    let n = number_of served paths line s end in
    record {
      kept = kept;
      still = still_forced (edges paths) once lines lines' i.edges_listed i'.edges_listed P Q i.forced later
          (λ f forced. (by_end f).1 (λ O O' serves serves' is is'. forced O O' serves serves'));
      these = these;
      many = as_long served (edges paths) (line.low, line.high) end (newly_forced lines lines') n.0 these n.1 ∙ n.2;
    }
