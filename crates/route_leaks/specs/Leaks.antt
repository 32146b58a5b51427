-- Which paths no labelling explains, behind a result. A route leak is an announcement beyond its intended scope (RFC 7908): its path goes
-- up again behind a step down or flat. Which paths do so depends on who sells to whom. A path is called a leak here where the result does
-- not keep it and it can't be right beside what the result keeps, whoever sells to whom.
use Rattle.std.specs.Prelude.{◌≡◌, ◌↔◌, ℕ, ◌+◌, Bool, not, List, [], ◌∷◌, ◌++◌, length, map, filter, fold, count_by, sum_by}
use Rattle.std.specs.Prelude.{bytes_eq, nat_lt, if◌then◌else◌, Option, None, Some, IfSome, IsTrue}
use Rattle.std.specs.List.{AllZip, list_any}
use Rattle.tor_arena.specs.Limits.{max_paths, max_numbers}
use Rattle.relationships.specs.declared.fate.Fate.{Fate}
use Rattle.relationships.specs.declared.walk.Walk.{Walk}
use Rattle.relationships.specs.Relationship.{Orientation}
use Rattle.relationships.specs.Evidence.{paths_of}
use Rattle.relationships.specs.Fates.{walk_of, is_kept}
use Rattle.relationships.specs.Givens.{ServesWith}
use Rattle.relationships.specs.GivenEvidence.{RefutesWith}
use Rattle.path_table.specs.declared.table.AddRefused.{AddRefused}
use Rattle.path_table.specs.declared.table.AddRefused.TheVariants.{TooManyPaths, TooManyNumbers}
use Rattle.path_table.specs.Rows.{Counted, row_paths}
use Rattle.path_table.specs.Chains.{row_at}
use Rattle.result_text.specs.declared.file.ResultFile.{ResultFile}
use Rattle.result_rules.specs.File.{its_paths, its_kept, its_givens}
use Rattle.as_rel.specs.Labelled.{line_of_edge}
use Rattle.route_leaks.specs.declared.found.Leaks.{Leaks}
use Rattle.route_leaks.specs.declared.meeting.Sighting.{Sighting}

-- ---- leaks

-- the orientation explains the path: it agrees with each given of the result whose two are neighbours on the result's paths or on this one,
-- and it serves the kept paths of the result together with this one
abbrev pub Explains : ResultFile → List ℕ → Orientation → Type 0
Explains file path O = ServesWith (its_givens file) (its_paths file ++ path ∷ []) O (paths_of (its_kept file) ++ path ∷ [])

abbrev pub IsExplained : ResultFile → List ℕ → Type 0
IsExplained file path = (O : Orientation) × Explains file path O

-- the path is a leak: no orientation explains it
abbrev pub IsLeak : ResultFile → List ℕ → Type 0
IsLeak file path = IsExplained file path → ⊥

-- ---- why a path is a leak

-- the number by which links of a walk name the path itself, wherever it stands: the one behind those of the result's paths
abbrev pub own_number : ResultFile → ℕ
own_number file = length file.paths + 1

-- the walk refutes by the givens of the result over all its kept paths and this path
abbrev pub RefutesBehind : ResultFile → List ℕ → Walk → Type 0
RefutesBehind file path walk = RefutesWith (its_givens file) (its_kept file ++ (own_number file, path) ∷ []) walk

-- what would become of the path behind all kept paths of the result: it is kept exactly if some orientation explains it, and lost with a
-- walk that refutes
pub record IsFateBehind (file : ResultFile) (path : List ℕ) (fate : Fate) : Type 0 where
  pub exact : IsTrue (is_kept fate) ↔ IsExplained file path
  pub walk : IfSome (walk_of fate) (RefutesBehind file path)

-- one fate for each of these paths, in order
abbrev pub AreFatesBehind : ResultFile → List Counted → List Fate → Type 0
AreFatesBehind file rows fates = AllZip (λ row fate. IsFateBehind file row.path fate) rows fates

-- ---- the paths of dumps

-- the path is one of these
abbrev pub is_one_of : List (List ℕ) → List ℕ → Bool
is_one_of paths path = list_any (λ other. bytes_eq other path) paths

-- the result keeps the path
abbrev pub keeps_path : ResultFile → List ℕ → Bool
keeps_path file path = is_one_of (paths_of (its_kept file)) path

-- the distinct paths of dumps that the result does not keep, each with its times, in order of first appearance
abbrev pub strange_to : ResultFile → List Counted → List Counted
strange_to file seen = filter (λ row. not (keeps_path file row.path)) seen

-- a path goes behind the others, if it is none of them
abbrev pub with_new : List (List ℕ) → List ℕ → List (List ℕ)
with_new paths path = if is_one_of paths path then paths else paths ++ path ∷ []

-- the paths of the result and those of dumps, each once: they have to find room beside each other
abbrev pub joined_with : ResultFile → List Counted → List (List ℕ)
joined_with file seen = fold with_new (its_paths file) (row_paths seen)

-- the limit that paths are beyond: they are more than 2 ^ 23, or else they have more than 2 ^ 26 numbers in sum
abbrev pub limit_passed : List (List ℕ) → Option AddRefused
limit_passed paths =
    if nat_lt max_paths (length paths) then Some TooManyPaths
    else (if nat_lt max_numbers (sum_by length paths) then Some TooManyNumbers else None)

abbrev pub first_passed : Option AddRefused → Option AddRefused → Option AddRefused
first_passed None later = later
first_passed (Some limit) later = Some limit

-- the limit that others pass beside these paths, when they go there one after the other, the first one if they do
abbrev pub limit_beside : List (List ℕ) → List (List ℕ) → Option AddRefused
limit_beside paths [] = None
limit_beside paths (other ∷ others) = first_passed (limit_passed (with_new paths other)) (limit_beside (with_new paths other) others)

-- a path that was met, by its place among rows, with its times
abbrev pub row_met : List (List ℕ) → Sighting → Counted
row_met rows met = record { path = row_at rows met.place; times = met.times }

-- what is found of the distinct paths of dumps: how many of them the result keeps; the others; what would become of each of these; and the
-- lines that the labels of the result's edges say
pub record AreLeaksOf (file : ResultFile) (seen : List Counted) (leaks : Leaks) : Type 0 where
  pub rows : leaks.rows ≡ joined_with file seen
  pub known : leaks.known ≡ count_by (λ row. keeps_path file row.path) seen
  pub strange : map (row_met leaks.rows) leaks.met ≡ strange_to file seen
  pub fates : AreFatesBehind file (strange_to file seen) leaks.fates
  pub labels : leaks.rel ≡ map line_of_edge file.edges
  pub own : leaks.own ≡ own_number file
