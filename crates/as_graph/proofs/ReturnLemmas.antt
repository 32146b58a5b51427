-- The rows of returns behind those of paths.
use Rattle.std.proofs.Common.{◌≡◌, ℕ, suc, ◌+◌, ◌*◌, ◌<◌, ◌≤◌, ◌^◌, inl, inr, true, false, List, [], ◌∷◌, ◌++◌, length, take, map, filter, get_or, drop, refl, sym, ap, ◌∙◌, subst, arith, All}
use Rattle.std.proofs.Common.{append_assoc, lit≤, append-nil, length-append}
use Rattle.std.specs.List.{sum_by, AllByRecursion}
use Rattle.std.proofs.lemmas.Bool.{cases_Bool}
use Rattle.std.proofs.lemmas.List.{length-map, map-append, take_more, take_all, take-append-drop}
use Rattle.std.proofs.lemmas.List.Elements.{All-append, All-from_recursion, filter-append}
use Rattle.std.proofs.lemmas.List.Sums.{sum_by-append, sum_by-cons}
use Rattle.relationships.specs.declared.given.Given.{Given}
use Rattle.relationships.specs.Graph.{Edge, edges}
use Rattle.relationships.specs.Evidence.{NeighboursDiffer}
use Rattle.relationships.specs.Givens.{names_edge, return_of, returns, NameTwo, NameOnce}
use Rattle.relationships.proofs.FewReturns.{named_few}
use Rattle.relationships.proofs.GivenLemmas.{same_edges, returns_differ}
use Rattle.as_graph.specs.declared.step.Step.{Step}
use Rattle.as_graph.specs.Paths.{triple_count}
use Rattle.as_graph.specs.Steps.{HaveSteps}
use Rattle.as_graph.specs.Inside.{path_by, is_named, returns_among, AddsReturns, IsGraph}
use Rattle.as_graph.proofs.Distinct.{edges_and_paths}
use Rattle.as_graph.proofs.BuildLemmas.{triples_within}
use Rattle.as_graph.proofs.StepLemmas.{paths_by_steps}

HaveSteps-append : (es : List Edge) (ps qs : List (List ℕ)) (rows more : List (List Step)) → HaveSteps es ps rows → HaveSteps es qs more → HaveSteps es (ps ++ qs) (rows ++ more)
HaveSteps-append es [] qs [] more h k = k
HaveSteps-append es [] qs (r ∷ rows) more h k = absurd h
HaveSteps-append es (p ∷ ps) qs [] more h k = absurd h
HaveSteps-append es (p ∷ ps) qs (r ∷ rows) more h k = (h.0, HaveSteps-append es ps qs rows more h.1 k)

length-rows : (es : List Edge) (paths : List (List ℕ)) (rows : List (List Step)) → HaveSteps es paths rows → length rows ≡ length paths
length-rows es [] [] h = refl
length-rows es [] (steps ∷ rows) h = absurd h
length-rows es (path ∷ paths) [] h = absurd h
length-rows es (path ∷ paths) (steps ∷ rows) h = ap suc (length-rows es paths rows h.1)

among-append : (es : List Edge) (gs hs : List Given) → returns_among es (gs ++ hs) ≡ returns_among es gs ++ returns_among es hs
among-append es gs hs = ap (map return_of) (filter-append (is_named es) gs hs) ∙ map-append return_of (filter (is_named es) gs) (filter (is_named es) hs)

with_return : (es : List Edge) (g : Given) (gs : List Given) → is_named es g ≡ true → returns_among es (g ∷ gs) ≡ return_of g ∷ returns_among es gs
with_return es g gs h = rw h refl

without_return : (es : List Edge) (g : Given) (gs : List Given) → is_named es g ≡ false → returns_among es (g ∷ gs) ≡ returns_among es gs
without_return es g gs h = rw h refl

among_few : (es : List Edge) (gs : List Given) → NameOnce gs → length (returns_among es gs) ≤ length es
among_few es gs once = let n = length-map (filter (is_named es) gs) return_of in let le = named_few es gs once in omega (arith, n, le)

-- a return has three numbers and one triple
returns_short : (gs : List Given) → sum_by length (map return_of gs) ≡ 3 * length (map return_of gs)
returns_short [] = refl
returns_short (g ∷ gs) =
    let rest = returns_short gs in
    let m = sum_by-cons length (return_of g) (map return_of gs) in
    let three : length (return_of g) ≡ 3 = refl in
    omega (arith, rest, m, three)

returns_triples : (gs : List Given) → sum_by triple_count (map return_of gs) ≡ length (map return_of gs)
returns_triples [] = refl
returns_triples (g ∷ gs) =
    let rest = returns_triples gs in
    let m = sum_by-cons triple_count (return_of g) (map return_of gs) in
    let one : triple_count (return_of g) ≡ 1 = refl in
    omega (arith, rest, m, one)

-- ---- one return more

pub adds_begin : (es : List Edge) (old : List (List Step)) → AddsReturns es [] old old
adds_begin es old = record { added = []; whole = sym (append-nil old); stepped = tt }

pub adds_more : (es : List Edge) (givens : List Given) (k : ℕ) (d : Given) (old mid new : List (List Step)) → k < length givens →
    AddsReturns es (take k givens) old mid → AddsReturns es (get_or givens k d ∷ []) mid new → AddsReturns es (take (k + 1) givens) old new
adds_more es givens k d old mid new lt h one =
    let next : take (k + 1) givens ≡ take k givens ++ get_or givens k d ∷ [] = take_more givens k d lt in record {
      added = h.added ++ one.added;
      whole = one.whole ∙ ap (λ (l : List (List Step)). l ++ one.added) h.whole ∙ append_assoc old h.added one.added;
      stepped =
          subst (λ ps. HaveSteps es ps (h.added ++ one.added)) (sym (ap (returns_among es) next ∙ among-append es (take k givens) (get_or givens k d ∷ [])))
          (HaveSteps-append es (returns_among es (take k givens)) (returns_among es (get_or givens k d ∷ [])) h.added one.added h.stepped one.stepped);
    }

pub adds_room : (es : List Edge) (givens : List Given) (k : ℕ) (old mid : List (List Step)) → AddsReturns es (take k givens) old mid → NameOnce givens →
    length old + length es < 2 ^ 28 → length mid < 2 ^ 28
adds_room es givens k old mid h once few =
    let n = length-rows es (returns_among es (take k givens)) h.added h.stepped in
    let some = length-append (returns_among es (take k givens)) (returns_among es (drop k givens)) in
    let all = ap length (sym (among-append es (take k givens) (drop k givens)) ∙ ap (returns_among es) (take-append-drop k givens)) in
    let m = among_few es givens once in
    let w = ap length h.whole in
    let a = length-append old h.added in
    omega (arith, n, some, all, m, w, a, few)

-- in a graph there is room for all of them
pub graph_room : (es : List Edge) (rows : List (List Step)) → IsGraph es rows (map (path_by es) rows) → length rows + length es < 2 ^ 28
graph_room es rows g =
    let n = length-map rows (path_by es) in
    let s = ap length g.same in
    let few = g.few in
    let fews = g.few_edges in
    omega (arith, n, s, few, fews)

pub adds_all : (es : List Edge) (givens : List Given) (k : ℕ) (old new : List (List Step)) → length givens ≤ k → AddsReturns es (take k givens) old new → AddsReturns es givens old new
adds_all es givens k old new end h = subst (λ gs. AddsReturns es gs old new) (take_all k givens end) h

-- ---- the graph with them

two_each : (es : List Edge) (givens : List Given) → AllByRecursion (λ path. 2 ≤ length path) (returns_among es givens)
two_each es [] = tt
two_each es (g ∷ givens) =
    elim (cases_Bool (is_named es g)) [
      | inl t ↦ subst (AllByRecursion (λ path. 2 ≤ length path)) (sym (with_return es g givens t)) (lit≤ tt, two_each es givens)
      | inr f ↦ subst (AllByRecursion (λ path. 2 ≤ length path)) (sym (without_return es g givens f)) (two_each es givens)
    ]

module _ (es : List Edge) (rows new : List (List Step)) (paths : List (List ℕ)) (givens : List Given) (g : IsGraph es rows paths) (adds : AddsReturns es givens rows new)
    (short : sum_by length paths ≤ 2 ^ 26) (two : NameTwo givens) (once : NameOnce givens) where
  abbrev pub more : List (List ℕ)
  more = returns paths givens

  same : returns_among es givens ≡ more
  same = ap (λ fs. returns_among fs givens) g.same

  several : All (λ path. 2 ≤ length path) (paths ++ more)
  several =
      All-append (λ path. 2 ≤ length path) paths more g.several
      (subst (All (λ path. 2 ≤ length path)) same (All-from_recursion (λ path. 2 ≤ length path) (returns_among es givens) (two_each es givens)))

  stepped : HaveSteps es (paths ++ more) new
  stepped =
      subst (HaveSteps es (paths ++ more)) (sym adds.whole)
      (HaveSteps-append es paths more rows adds.added g.stepped (subst (λ ps. HaveSteps es ps adds.added) same adds.stepped))

  pub view_more : map (path_by es) new ≡ paths ++ more
  view_more = paths_by_steps es (paths ++ more) new several stepped

  -- no more returns than edges
  few_more : length more ≤ length (edges paths)
  few_more = let n = length-map (filter (names_edge paths) givens) return_of in let le = named_few (edges paths) givens once in omega (arith, n, le)

  pub graph_more : IsGraph es new (map (path_by es) new)
  graph_more =
      let within = edges_and_paths paths g.several in
      subst (IsGraph es new) (sym view_more) (record {
        same = g.same ∙ sym (same_edges paths givens);
        stepped = stepped;
        several = several;
        apart = All-append NeighboursDiffer paths more g.apart (returns_differ givens paths two);
        few = (let a = length-append paths more in omega (arith, few_more, within, short, a));
        short =
            (let n = returns_short (filter (names_edge paths) givens) in
            let a = sum_by-append length paths more in
            omega (arith, few_more, within, short, n, a));
        few_edges = subst (λ fs. length fs < 2 ^ 26) (sym (same_edges paths givens)) g.few_edges;
        few_triples =
            (let n = returns_triples (filter (names_edge paths) givens) in
            let a = sum_by-append triple_count paths more in
            let le = triples_within paths in
            let fews = g.few_edges in
            omega (arith, few_more, fews, short, n, a, le));
      })
