-- Path lines that are given by their parts.
use Rattle.std.specs.Prelude.{ℕ, List, [], ◌∷◌, Option, Some, None}
use Rattle.relationships.specs.declared.walk.Walk.{Walk}
use Rattle.relationships.specs.declared.fate.Fate.{Fate}
use Rattle.relationships.specs.declared.fate.Fate.TheVariants as fate
use Rattle.result_text.specs.declared.file.PathLine.{PathLine}

-- the fate of a path with this walk, or none
abbrev pub fate_with : Option Walk → Fate
fate_with None = fate.Kept
fate_with (Some walk) = fate.Lost walk

abbrev pub line_with : ℕ → List ℕ → Fate → PathLine
line_with times path fate = record { times = times; path = path; fate = fate }

-- each path with the times and the fate of the same place
abbrev pub lines_by : List (List ℕ) → List ℕ → List Fate → List PathLine
lines_by [] times fates = []
lines_by (path ∷ paths) [] fates = []
lines_by (path ∷ paths) (n ∷ times) [] = []
lines_by (path ∷ paths) (n ∷ times) (fate ∷ fates) = line_with n path fate ∷ lines_by paths times fates
