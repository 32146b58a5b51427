-- What a result says, as lists that the definitions of relationships speak of.
use Rattle.std.specs.Prelude.{ℕ, ◌+◌, ◌≤◌, ◌^◌, List, [], ◌∷◌, length, map, flat_map, take, Option}
use Rattle.relationships.specs.declared.walk.Walk.{Walk}
use Rattle.relationships.specs.Relationship.{Labelling}
use Rattle.relationships.specs.Graph.{Edge}
use Rattle.relationships.specs.Evidence.{Numbered}
use Rattle.relationships.specs.Checking.{Claim, kept_of, claimed_labels}
use Rattle.relationships.specs.Givens.{returns}
use Rattle.relationships.specs.Fates.{walk_of}
use Rattle.relationships.specs.Marking.{claim_of, orders_of}
use Rattle.result_text.specs.declared.file.EdgeLine.{EdgeLine}
use Rattle.result_text.specs.declared.file.PathLine.{PathLine}
use Rattle.result_text.specs.declared.file.ResultFile.{ResultFile}
use Rattle.result_text.specs.Numbering as numbering
pub use Rattle.result_text.specs.Text.{its_givens}

-- ---- paths

abbrev pub its_paths : ResultFile → List (List ℕ)
its_paths file = map (λ p. p.path) file.paths

-- the walks that refute them; a kept path has none
abbrev pub its_walks : ResultFile → List (Option Walk)
its_walks file = map (λ p. walk_of p.fate) file.paths

-- the returns of those givens whose two are neighbours on the paths
abbrev pub its_returns : ResultFile → List (List ℕ)
its_returns file = returns (its_paths file) (its_givens file)

-- the kept paths among the first k, each with its number
abbrev pub kept_before : ResultFile → ℕ → Numbered
kept_before file k = kept_of (take k (its_paths file)) (take k (its_walks file))

-- the paths of the kept lines among these, each with its number
abbrev pub kept_among : List PathLine → Numbered
kept_among lines = kept_of (map (λ p. p.path) lines) (map (λ p. walk_of p.fate) lines)

-- all kept paths, each with its number
abbrev pub its_kept : ResultFile → Numbered
its_kept file = kept_among file.paths

-- ---- edges

-- what an edge line says of its edge
abbrev pub claim_on : EdgeLine → Claim
claim_on line = claim_of (line.low, line.high) line.label line.mark

abbrev pub its_claims : ResultFile → List Claim
its_claims file = map claim_on file.edges

abbrev pub its_edges : ResultFile → List Edge
its_edges file = map (λ e. (e.low, e.high)) file.edges

abbrev pub its_labels : ResultFile → Labelling
its_labels file = claimed_labels (its_claims file)

-- ---- evidence

-- the order that a walk shows: its last two ASes
abbrev pub last_two : List ℕ → List (ℕ × ℕ)
last_two [] = []
last_two (a ∷ []) = []
last_two (a ∷ b ∷ []) = (a, b) ∷ []
last_two (a ∷ b ∷ c ∷ ases) = last_two (b ∷ c ∷ ases)

-- the orders that the walks show
abbrev pub shown_orders : List Walk → List (ℕ × ℕ)
shown_orders whys = flat_map (λ w. last_two w.ases) whys

abbrev pub its_probes : ResultFile → List (ℕ × ℕ)
its_probes file = orders_of file.probes

-- ---- numbers of lines, from 1. The places are from 0

abbrev pub given_line_number : ResultFile → ℕ → ℕ
given_line_number file k = numbering.given_line file (k + 1)

abbrev pub path_line_number : ResultFile → ℕ → ℕ
path_line_number file k = numbering.path_line file (k + 1)

abbrev pub edge_line_number : ResultFile → ℕ → ℕ
edge_line_number file k = numbering.edge_line file (k + 1)

abbrev pub why_line_number : ResultFile → ℕ → ℕ
why_line_number file k = numbering.why_line file (k + 1)

abbrev pub open_line : ResultFile → ℕ → ℕ
open_line file k = numbering.probe_line file (k + 1)

-- how many lines a file that is judged may have besides the first ten and the last
abbrev pub most_lines : ℕ
most_lines = 2 ^ 40

-- it has no more than that
abbrev pub HasFewLines : ResultFile → Type 0
HasFewLines file = length (its_givens file) + length file.paths + length file.edges + length file.whys + length file.probes ≤ most_lines
