-- Counts for the edges that a table holds, kept paths, and labels.
use Rattle.std.specs.Prelude.{◌≡◌, ℕ, ◌+◌, ◌<◌, List, length, map, filter, slice_index}
use Rattle.relationships.specs.Graph.{Edge}
use Rattle.tor_numbers.specs.Edges.{edge_at}
use Rattle.result_text.specs.declared.file.PathLine.{PathLine}
use Rattle.relationships.specs.Fates.{is_kept}

-- the count of each edge has gone up by this
abbrev pub HaveRisen : List Edge → (Edge → ℕ) → List ℕ → List ℕ → Type 0
HaveRisen es more old new =
    (length new ≡ length old) × ((k : ℕ) → k < length es → slice_index new k ≡ slice_index old k + more (edge_at es k))

-- each edge has a count, which is this
abbrev pub AreCounts : List Edge → (Edge → ℕ) → List ℕ → Type 0
AreCounts es many counts =
    (length counts ≡ length es) × ((k : ℕ) → k < length es → slice_index counts k ≡ many (edge_at es k))

-- the kept paths of the lines
abbrev pub kept_in : List PathLine → List (List ℕ)
kept_in lines = map (λ p. p.path) (filter (λ p. is_kept p.fate) lines)
