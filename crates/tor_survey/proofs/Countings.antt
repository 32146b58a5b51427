-- Paths that are counted one after the other.
use Rattle.std.proofs.Common.{◌≡◌, ℕ, ◌+◌, List, [], ◌∷◌, ◌++◌, length, take, max, sym, ap, ◌∙◌, slice_get, Some}
use Rattle.std.proofs.lemmas.Option.{get_or_from_slice_get, slice_get_within}
use Rattle.std.proofs.lemmas.List.{take_more}
use Rattle.relationships.specs.Graph.{Edge, edges_on, edges}
use Rattle.tor_numbers.specs.Edges.{with_edges}
use Rattle.as_graph.proofs.Distinct.{edges-push}
use Rattle.tor_survey.specs.Figures.{ases, longest}
use Rattle.tor_survey.specs.Sets.{with_ases}
use Rattle.tor_survey.proofs.Appearing.{ases-push, longest-push}

-- the ASes and the pairs of the first paths, and how many ASes the longest of these has
pub record AreCounted (paths : List (List ℕ)) (place : ℕ) (numbers : List ℕ) (pairs : List Edge) (most : ℕ) : Type 0 where
  pub of_ases : numbers ≡ ases (take place paths)
  pub of_edges : pairs ≡ edges (take place paths)
  pub of_longest : most ≡ longest (take place paths)

pub counted-more : (paths : List (List ℕ)) (place : ℕ) (numbers new : List ℕ) (pairs more : List Edge) (most longer : ℕ) (path : List ℕ) →
    AreCounted paths place numbers pairs most → slice_get paths place ≡ Some path → new ≡ with_ases numbers path → more ≡ with_edges pairs (edges_on path) →
    longer ≡ max (length path) most → AreCounted paths (place + 1) new more longer
counted-more paths place numbers new pairs more most longer path so_far at added joined grown =
    let next : take (place + 1) paths ≡ take place paths ++ path ∷ [] =
    take_more paths place [] (slice_get_within paths place path at) ∙ ap (λ p. take place paths ++ p ∷ []) (get_or_from_slice_get paths place path [] at) in
    record {
      of_ases = added ∙ ap (λ ns. with_ases ns path) so_far.of_ases ∙ sym (ases-push (take place paths) path) ∙ ap ases (sym next);
      of_edges = joined ∙ ap (λ es. with_edges es (edges_on path)) so_far.of_edges ∙ sym (edges-push (take place paths) path) ∙ ap edges (sym next);
      of_longest = grown ∙ ap (max (length path)) so_far.of_longest ∙ sym (longest-push (take place paths) path) ∙ ap longest (sym next);
    }
