-- The paths of a result that meets the rules 2 and 3 are as a table of paths has them.
use Rattle.std.proofs.Common.{◌≡◌, ◌≤◌, ◌||◌, ◌&&◌, ℕ, suc, ◌+◌, Bool, true, false, not, List, [], ◌∷◌, length, map, take, Some, slice_get, bytes_eq}
use Rattle.std.proofs.Common.{refl, sym, ap, ap₂, ◌∙◌, arith, subst}
use Rattle.std.specs.Prelude.{All, Contains, sum_by}
use Rattle.std.specs.List.{list_all, list_any}
use Rattle.std.proofs.Math.Seq.{take-length}
use Rattle.std.proofs.lemmas.Bool.{false_from_ne_true}
use Rattle.std.proofs.lemmas.List.{length-map}
use Rattle.std.proofs.lemmas.List.Elements.{All-nil, All-cons}
use Rattle.std.proofs.lemmas.Option.{slice_get_within}
use Rattle.tor_arena.specs.Limits.{max_numbers}
use Rattle.path_clean.specs.Paths.{is_cleaned}
use Rattle.path_table.specs.Rows.{Counted, row_paths, times_of, none_twice}
use Rattle.path_table.proofs.TableLemmas.{eq_true}
use Rattle.result_text.specs.declared.file.PathLine.{PathLine}
use Rattle.result_text.specs.declared.file.ResultFile.{ResultFile}
use Rattle.result_rules.specs.declared.rule.Rule.TheVariants.{PathsCleaned, PathsDistinct}
use Rattle.result_rules.specs.Rules.{IsMet, IsSound}
use Rattle.result_rules.specs.File.{its_paths}
use Rattle.result_rules.specs.Against.{row_of}

abbrev pub path_of : PathLine → List ℕ
path_of line = line.path

abbrev pub count_of : PathLine → ℕ
count_of line = line.times

-- the path is one of these
abbrev is_among : List ℕ → List (List ℕ) → Bool
is_among path paths = list_any (λ other. bytes_eq other path) paths

found : (path : List ℕ) (lines : List PathLine) → is_among path (map path_of lines) ≡ true → (k : ℕ) × (line : PathLine) × (slice_get lines k ≡ Some line) × (line.path ≡ path)
found path [] h = absurd cc
found path (line ∷ lines) h = by (bytes_eq line.path path) refl h (found path lines)
  where
    by : (b : Bool) → bytes_eq line.path path ≡ b → (b || is_among path (map path_of lines)) ≡ true
        → (is_among path (map path_of lines) ≡ true → (k : ℕ) × (other : PathLine) × (slice_get lines k ≡ Some other) × (other.path ≡ path))
        → (k : ℕ) × (other : PathLine) × (slice_get (line ∷ lines) k ≡ Some other) × (other.path ≡ path)
    by true is h ih = (0, line, refl, eq_true line.path path is)
    by false is h ih = let (k, other, at, same) = ih h in (suc k, other, at, same)

clean_each : (lines : List PathLine) → ((k : ℕ) (line : PathLine) → slice_get lines k ≡ Some line → is_cleaned line.path ≡ true) → list_all is_cleaned (map path_of lines) ≡ true
clean_each [] each = refl
clean_each (line ∷ lines) each = ap₂ (λ a b. a && b) (each 0 line refl) (clean_each lines (λ k. each (suc k)))

seen_each : (lines : List PathLine) → ((k : ℕ) (line : PathLine) → slice_get lines k ≡ Some line → 1 ≤ line.times) → All (λ n. 1 ≤ n) (map count_of lines)
seen_each [] each = All-nil (λ n. 1 ≤ n)
seen_each (line ∷ lines) each = All-cons (λ n. 1 ≤ n) line.times (map count_of lines) (each 0 line refl) (seen_each lines (λ k. each (suc k)))

once_each : (lines : List PathLine) → ((k : ℕ) (line : PathLine) → slice_get lines k ≡ Some line → Contains (take k (map path_of lines)) line.path → ⊥)
    → none_twice (map path_of lines) ≡ true
once_each [] each = refl
once_each (line ∷ lines) each =
    ap₂ (λ a b. not a && b) (false_from_ne_true (is_among line.path (map path_of lines)) (λ h. again (found line.path lines h)))
    (once_each lines (λ k other at c. each (suc k) other at (suc c.0, omega (arith, c.1), c.2)))
  where
    again : (k : ℕ) × (other : PathLine) × (slice_get lines k ≡ Some other) × (other.path ≡ line.path) → ⊥
    again at = each (suc at.0) at.1 at.2 (0, omega arith, sym at.3)

last_of : (line : PathLine) (lines : List PathLine) → (last : PathLine) × (slice_get (line ∷ lines) (length lines) ≡ Some last)
last_of line [] = (line, refl)
last_of line (other ∷ lines) = last_of other lines

numbers_each : (most : ℕ) (lines : List PathLine)
    → ((k : ℕ) (line : PathLine) → slice_get lines k ≡ Some line → sum_by length (take (k + 1) (map path_of lines)) ≤ most) → sum_by length (map path_of lines) ≤ most
numbers_each most [] each = omega arith
numbers_each most (line ∷ lines) each =
    let last = last_of line lines in
    let many : length lines + 1 ≡ length (map path_of (line ∷ lines)) = omega (arith, length-map lines path_of) in
    let all : take (length lines + 1) (map path_of (line ∷ lines)) ≡ map path_of (line ∷ lines) =
    ap (λ n. take n (map path_of (line ∷ lines))) many ∙ take-length (map path_of (line ∷ lines)) in
    subst (λ (ps : List (List ℕ)). sum_by length ps ≤ most) all (each (length lines) last.0 last.1)

-- what the rules 2 and 3 say of all paths together
pub record AreSound (file : ResultFile) : Type 0 where
  pub clean : list_all is_cleaned (its_paths file) ≡ true
  pub once : none_twice (its_paths file) ≡ true
  pub numbers : sum_by length (its_paths file) ≤ max_numbers
  pub seen : All (λ n. 1 ≤ n) (map count_of file.paths)

pub sound_paths : (file : ResultFile) → IsMet file PathsCleaned → IsMet file PathsDistinct → AreSound file
sound_paths file cleaned distinct = record {
  clean = clean_each file.paths (λ k line at. (sound k line at).cleaned);
  once = once_each file.paths (λ k line at. distinct k (slice_get_within file.paths k line at) line at);
  numbers = numbers_each max_numbers file.paths (λ k line at. (sound k line at).numbers);
  seen = seen_each file.paths (λ k line at. (sound k line at).seen);
}
  where
    sound : (k : ℕ) (line : PathLine) → slice_get file.paths k ≡ Some line → IsSound file k line
    sound k line at = cleaned k (slice_get_within file.paths k line at) line at

-- rows with the paths and the times of these lines are those of the lines
pub rows_of_lines : (rows : List Counted) (lines : List PathLine) → row_paths rows ≡ map path_of lines → times_of rows ≡ map count_of lines → rows ≡ map row_of lines
rows_of_lines [] [] paths times = refl
rows_of_lines [] (line ∷ lines) paths times = absurd cc
rows_of_lines (row ∷ rows) [] paths times = absurd cc
rows_of_lines (row ∷ rows) (line ∷ lines) paths times =
    let path : row.path ≡ line.path = cc in
    let count : row.times ≡ line.times = cc in
    let more_paths : row_paths rows ≡ map path_of lines = cc in
    let more_times : times_of rows ≡ map count_of lines = cc in
    let same : row ≡ row_of line = ap₂ (λ (p : List ℕ) (n : ℕ). record { path = p; times = n }) path count in
    ap₂ (λ (r : Counted) (rs : List Counted). r ∷ rs) same (rows_of_lines rows lines more_paths more_times)
