-- The text of a telling: lines of fields joined by bars. It begins with the line that the result itself has, that of a lost path without
-- its walk. The form is this project's own (docs/FORMATS.md).
use Rattle.std.specs.Prelude.{ℕ, List, [], ◌∷◌, ◌++◌, codes, slice_get}
use Rattle.std.specs.Fmt.{decimal}
use Rattle.relationships.specs.declared.fate.Fate.{Fate}
use Rattle.relationships.specs.declared.fate.Fate.TheVariants as fate
use Rattle.result_text.specs.declared.file.EdgeLine.{EdgeLine}
use Rattle.result_text.specs.declared.file.PathLine.{PathLine}
use Rattle.result_text.specs.declared.file.ResultFile.{ResultFile}
use Rattle.result_text.specs.declared.line.Line.TheVariants.{Edge}
use Rattle.result_text.specs.declared.line.Version.TheVariants as version
use Rattle.result_text.specs.Text.{line_text, numbers_text}
use Rattle.telling.specs.WalkText.{row, pair_row, if_there, begin_text, names_of, walk_steps, steps_text, why_text}
use Rattle.telling.specs.declared.told.Going.{Going}
use Rattle.telling.specs.declared.told.Going.TheVariants as going
use Rattle.telling.specs.declared.told.Told.{Told}
use Rattle.telling.specs.declared.told.Told.TheVariants as told

-- ---- why lines

-- the why line in a place, from 0, if it is there
abbrev pub why_at : ResultFile → (word before : List ℕ) → ℕ → List ℕ
why_at file word before k = if_there (why_text file word before) (slice_get file.whys k)

-- the paths that it names
abbrev pub names_at : ResultFile → ℕ → List ℕ
names_at file k = if_there (λ walk. names_of (walk_steps walk)) (slice_get file.whys k)

-- why lines, each of which begins with what the one before it has shown
abbrev pub further_text : ResultFile → (before : List ℕ) → List ℕ → List ℕ
further_text file before [] = []
further_text file before (k ∷ places) = why_at file (codes "since") before k ++ further_text file (before ++ names_at file k) places

-- the why lines in these places: the first begins with what is supposed
abbrev pub whys_text : ResultFile → List ℕ → List ℕ
whys_text file [] = []
whys_text file (k ∷ places) = why_at file (codes "if") [] k ++ further_text file (names_at file k) places

-- ---- edges

-- the result's own line of the edge
abbrev pub edge_row : EdgeLine → List ℕ
edge_row line = line_text version.Two (Edge line)

-- either order of the edge is possible
abbrev pub free_row : List ℕ
free_row = row (codes "free" ∷ [])

-- ---- paths

-- the result's own line of the path, without its walk
abbrev pub path_row : List ℕ → PathLine → List ℕ
path_row word line = row (word ∷ decimal line.times ∷ numbers_text line.path ∷ [])

-- what is supposed of a lost path, and the steps of its walk, there and back
abbrev pub refuting_text : ResultFile → Fate → List ℕ
refuting_text file fate.Kept = []
refuting_text file (fate.Lost walk) = begin_text (codes "if") walk.ases ++ steps_text file [] (walk_steps walk)

abbrev pub lost_text : ResultFile → PathLine → List ℕ
lost_text file line = path_row (codes "lost") line ++ refuting_text file line.fate

abbrev pub going_name : Going → List ℕ
going_name going.Up = codes "up"
going_name going.Down = codes "down"
going_name going.Flat = codes "flat"

-- how the step from the one to the other goes
abbrev pub going_row : (from to : ℕ) → Going → List ℕ
going_row from to going = row (codes "step" ∷ decimal from ∷ decimal to ∷ going_name going ∷ [])

-- the steps of a path, each with how it goes
abbrev pub goings_text : List ℕ → List Going → List ℕ
goings_text (a ∷ b ∷ path) (going ∷ goings) = going_row a b going ++ goings_text (b ∷ path) goings
goings_text _ _ = []

abbrev pub kept_text : List Going → PathLine → List ℕ
kept_text goings line = path_row (codes "kept") line ++ goings_text line.path goings

-- ---- the whole

abbrev pub told_text : ResultFile → Told → List ℕ
told_text file (told.Forced line whys) = edge_row line ++ whys_text file whys
told_text file (told.Open line probe walk) =
    edge_row line ++ pair_row (codes "open") probe.over probe.under ++ steps_text file [] (walk_steps walk) ++ free_row
told_text file (told.Peering line) = edge_row line ++ free_row
told_text file (told.Lost path) = if_there (lost_text file) (slice_get file.paths path)
told_text file (told.Kept path goings) = if_there (kept_text goings) (slice_get file.paths path)
