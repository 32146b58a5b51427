-- How many distinct paths there are, and how much is on them.
use Rattle.std.specs.Prelude.{ℕ, ◌==◌, not, List, [], ◌∷◌, length, filter, flat_map, max}
use Rattle.relationships.specs.Graph.{edges}
use Rattle.tor_survey.specs.declared.survey.Figures.{Figures}

-- each number where it first appears, and nowhere else
abbrev pub distinct_ases : List ℕ → List ℕ
distinct_ases [] = []
distinct_ases (n ∷ ns) = n ∷ filter (λ m. not (n == m)) (distinct_ases ns)

-- the ASes on the paths, in order of first appearance
abbrev pub ases : List (List ℕ) → List ℕ
ases paths = distinct_ases (flat_map (λ path. path) paths)

-- how many ASes the longest path has, and 0 without a path
abbrev pub longest : List (List ℕ) → ℕ
longest [] = 0
longest (path ∷ paths) = max (length path) (longest paths)

-- how many paths there are, how many ASes on them, how many pairs of neighbours, and how many ASes on the longest
abbrev pub figures_of : List (List ℕ) → Figures
figures_of paths = record {
  paths = length paths;
  ases = length (ases paths);
  edges = length (edges paths);
  longest = longest paths;
}
