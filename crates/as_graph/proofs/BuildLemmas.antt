-- A graph that is built path by path.
use Rattle.std.proofs.Common.{◌≡◌, ℕ, ◌+◌, ◌≤◌, ◌^◌, List, [], ◌∷◌, ◌++◌, length, take, map, refl, sym, ap, ◌∙◌, subst, arith, All, slice_get, Some}
use Rattle.std.proofs.lemmas.Option.{get_or_from_slice_get, slice_get_within}
use Rattle.std.specs.List.{sum_by}
use Rattle.std.proofs.lemmas.List.{take_all, take_more}
use Rattle.std.proofs.lemmas.List.Elements.{All-take}
use Rattle.std.proofs.lemmas.List.Sums.{sum_by_more_le, sum_by-le-sum_by}
use Rattle.relationships.specs.Evidence.{NeighboursDiffer}
use Rattle.relationships.specs.Graph.{Edge, edges_on, edges}
use Rattle.as_graph.specs.declared.step.Step.{Step}
use Rattle.as_graph.specs.Paths.{triple_count}
use Rattle.as_graph.specs.Steps.{AreSteps, HaveSteps}
use Rattle.tor_numbers.specs.Edges.{with_edges}
use Rattle.as_graph.specs.Inside.{path_by, IsGraph, IsBuilt}
use Rattle.as_graph.proofs.Distinct.{edges-push, edges_within, few_edges}
use Rattle.as_graph.proofs.StepLemmas.{HaveSteps-more, HaveSteps-push, paths_by_steps}

pub IsBuilt-begins : (paths : List (List ℕ)) (es : List Edge) (rows : List (List Step)) → es ≡ [] → rows ≡ [] → IsBuilt paths 0 es rows
IsBuilt-begins paths es rows h k = rw (h, k) (record { there = refl; stepped = tt })

pub IsBuilt-room : (paths : List (List ℕ)) (place : ℕ) (es : List Edge) (rows : List (List Step)) (path : List ℕ) → IsBuilt paths place es rows →
    slice_get paths place ≡ Some path → All (λ path. 2 ≤ length path) paths → sum_by length paths ≤ 2 ^ 26 → length es + length path ≤ 2 ^ 26
IsBuilt-room paths place es rows path h is two short =
    let n = ap length h.there in
    let le = edges_within (take place paths) (All-take (λ path. 2 ≤ length path) place paths two) in
    let more = sum_by_more_le length paths place [] (slice_get_within paths place path is) in
    let same = ap length (get_or_from_slice_get paths place path [] is) in
    omega (arith, n, le, more, same, short)

pub IsBuilt-more : (paths : List (List ℕ)) (place : ℕ) (es : List Edge) (rows : List (List Step)) (path : List ℕ) (new : List Edge) (steps : List Step) → IsBuilt paths place es rows →
    slice_get paths place ≡ Some path → new ≡ with_edges es (edges_on path) → AreSteps new path steps → IsBuilt paths (place + 1) new (rows ++ steps ∷ [])
IsBuilt-more paths place es rows path new steps h at is are =
    let next : take (place + 1) paths ≡ take place paths ++ path ∷ [] =
    take_more paths place [] (slice_get_within paths place path at) ∙ ap (λ p. take place paths ++ p ∷ []) (get_or_from_slice_get paths place path [] at) in
    let kept = subst (λ es. HaveSteps es (take place paths) rows) (sym is) (HaveSteps-more es (edges_on path) (take place paths) rows h.stepped) in
    record {
      there = is ∙ ap (λ es. with_edges es (edges_on path)) h.there ∙ sym (edges-push (take place paths) path) ∙ ap edges (sym next);
      stepped = subst (λ ps. HaveSteps new ps (rows ++ steps ∷ [])) (sym next) (HaveSteps-push new (take place paths) rows path steps kept are);
    }

-- the paths have no more triples than numbers
pub triples_within : (paths : List (List ℕ)) → sum_by triple_count paths ≤ sum_by length paths
triples_within paths = sum_by-le-sum_by triple_count length paths (λ path. omega arith)

-- the paths that the steps give are all the paths
pub IsBuilt-view : (paths : List (List ℕ)) (place : ℕ) (es : List Edge) (rows : List (List Step)) → IsBuilt paths place es rows → length paths ≤ place →
    All (λ path. 2 ≤ length path) paths → map (path_by es) rows ≡ paths
IsBuilt-view paths place es rows h end two =
    paths_by_steps es paths rows two (subst (λ ps. HaveSteps es ps rows) (take_all place paths end) h.stepped)

pub IsBuilt-graph : (paths : List (List ℕ)) (place : ℕ) (es : List Edge) (rows : List (List Step)) → IsBuilt paths place es rows → length paths ≤ place →
    All (λ path. 2 ≤ length path) paths → All NeighboursDiffer paths → length paths ≤ 2 ^ 23 → sum_by length paths ≤ 2 ^ 26 → IsGraph es rows (map (path_by es) rows)
IsBuilt-graph paths place es rows h end two apart few short =
    let all = take_all place paths end in
    subst (IsGraph es rows) (sym (IsBuilt-view paths place es rows h end two)) (record {
      same = h.there ∙ ap edges all;
      stepped = subst (λ ps. HaveSteps es ps rows) all h.stepped;
      several = two;
      apart = apart;
      few = omega (arith, few);
      short = omega (arith, short);
      few_edges = few_edges paths two short;
      few_triples = (let le = triples_within paths in omega (arith, le, short));
    })
