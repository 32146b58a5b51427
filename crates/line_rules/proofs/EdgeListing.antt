-- The edges of paths and their steps, listed line by line.
use Rattle.std.proofs.Common.{◌≡◌, ℕ, ◌+◌, ◌<◌, ◌≤◌, List, [], ◌∷◌, ◌++◌, fold, length, take, sum_by, slice_get, Some, refl, sym, ap, ◌∙◌, subst, arith, length-take}
use Rattle.std.proofs.lemmas.List.{take_all, take-map, length-map}
use Rattle.relationships.specs.Graph.{Edge, edges_on, edges}
use Rattle.tor_arena.specs.Limits.{most_places, max_numbers}
use Rattle.result_text.specs.declared.file.PathLine.{PathLine}
use Rattle.result_text.specs.declared.file.ResultFile.{ResultFile}
use Rattle.line_rules.specs.declared.edges.step.Step.{Step}
use Rattle.result_rules.specs.declared.rule.Rule.TheVariants.{PathsCleaned}
use Rattle.result_rules.specs.File.{its_paths}
use Rattle.line_rules.specs.PathSteps.{AreCodedSteps, HaveCodedSteps}
use Rattle.result_rules.specs.Rules.{IsMet}
use Rattle.tor_numbers.specs.Edges.{with_edge}
use Rattle.line_rules.proofs.FewEdges.{few_edges}
use Rattle.line_rules.proofs.Lines.{line-here, paths_in, paths-more, numbers-more, sound-at}
use Rattle.line_rules.proofs.Listing.{edges-push}
use Rattle.line_rules.proofs.StepLemmas.{HaveSteps-more, HaveSteps-push, length-rows}

-- the edges and the steps of the first paths are there
pub record IsListing (lines : List PathLine) (place : ℕ) (es : List Edge) (rows : List (List Step)) : Type 0 where
  pub there : es ≡ edges (paths_in (take place lines))
  pub stepped : HaveCodedSteps es (paths_in (take place lines)) rows

pub listing-begins : (lines : List PathLine) (es : List Edge) (rows : List (List Step)) → es ≡ [] → rows ≡ [] → IsListing lines 0 es rows
listing-begins lines es rows h k = rw (h, k) (record { there = refl; stepped = tt })

pub listing-few : (lines : List PathLine) (place : ℕ) (es : List Edge) (rows : List (List Step)) → IsListing lines place es rows → place < length lines → length lines ≤ most_places →
    length rows < most_places
listing-few lines place es rows h within few =
    let n = length-rows es (paths_in (take place lines)) rows h.stepped in
    let m : length (paths_in (take place lines)) ≡ length (take place lines) = length-map (take place lines) (λ (p : PathLine). p.path) in
    let t = length-take place lines in
    omega (arith, n, m, t, within, few)

pub listing-room : (file : ResultFile) (place : ℕ) (es : List Edge) (rows : List (List Step)) (line : PathLine) → IsMet file PathsCleaned → IsListing file.paths place es rows →
    slice_get file.paths place ≡ Some line → length es + length line.path ≤ max_numbers
listing-room file place es rows line met h at =
    let l = line-here file place line at in
    let n = ap length h.there in
    let few = few_edges (paths_in (take place file.paths)) in
    let sum = numbers-more file place line l.within l.is in
    let sound = (sound-at file place line met l).numbers in
    let same : sum_by length (take place (its_paths file)) ≡ sum_by length (paths_in (take place file.paths)) =
    ap (λ (ps : List (List ℕ)). sum_by length ps) (take-map (λ (p : PathLine). p.path) place file.paths) in
    omega (arith, n, few, sum, sound, same)

pub listing-more : (file : ResultFile) (place : ℕ) (es new : List Edge) (rows : List (List Step)) (line : PathLine) (steps : List Step) → IsListing file.paths place es rows →
    slice_get file.paths place ≡ Some line → new ≡ fold with_edge es (edges_on line.path) → AreCodedSteps new line.path steps → IsListing file.paths (place + 1) new (rows ++ steps ∷ [])
listing-more file place es new rows line steps h at is are =
    let l = line-here file place line at in
    let before = paths_in (take place file.paths) in
    let next = paths-more file.paths place line l.within l.is in
    let kept = subst (λ es. HaveCodedSteps es before rows) (sym is) (HaveSteps-more es (edges_on line.path) before rows h.stepped) in
    record {
      there = is ∙ ap (λ es. fold with_edge es (edges_on line.path)) h.there ∙ edges-push before line.path ∙ ap edges (sym next);
      stepped = subst (λ ps. HaveCodedSteps new ps (rows ++ steps ∷ [])) (sym next) (HaveSteps-push new before rows line.path steps kept are);
    }

pub listing-ends : (file : ResultFile) (place : ℕ) (es : List Edge) (rows : List (List Step)) → IsListing file.paths place es rows → length file.paths ≤ place →
    (es ≡ edges (its_paths file)) × HaveCodedSteps es (its_paths file) rows
listing-ends file place es rows h all =
    let whole = take_all place file.paths all in
    (h.there ∙ ap (λ ls. edges (paths_in ls)) whole, subst (λ ls. HaveCodedSteps es (paths_in ls) rows) whole h.stepped)
