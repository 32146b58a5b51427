-- Which paths the links of a walk may name.
use Rattle.std.specs.Prelude.{◌≡◌, ℕ, ◌+◌, List, [], ◌∷◌, ◌++◌, length, Option, Some, None, if◌then◌else◌}
use Rattle.relationships.specs.Fates.{is_kept}
use Rattle.relationships.specs.Evidence.{Numbered, TripleAt}
use Rattle.result_text.specs.declared.file.PathLine.{PathLine}
use Rattle.result_rules.specs.File.{kept_among}

-- the paths of the kept lines among these, and that of the line behind them, if there is one, each with its number
abbrev pub nameable : List PathLine → Option PathLine → Numbered
nameable lines None = kept_among lines
nameable lines (Some next) = kept_among lines ++ (length lines + 1, next.path) ∷ []

-- the path of the line, if it is kept
abbrev pub path_if_kept : PathLine → Option (List ℕ)
path_if_kept line = if is_kept line.fate then Some line.path else None

-- there is a path, and x, y, z are a triple of it at this place
abbrev pub FitsOn : Option (List ℕ) → ℕ → ℕ → ℕ → ℕ → Type 0
FitsOn named at x y z = (path : List ℕ) × (named ≡ Some path) × TripleAt path at x y z
