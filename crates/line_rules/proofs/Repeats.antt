-- Paths that stand twice, as the rows of a table and as the lines of a file.
use Rattle.std.proofs.Common.{◌≡◌, ◌∙◌, ◌<◌, ℕ, List, [], length, get_or, take, slice_get, Some, None, Contains, sym, ap, subst, arith}
use Rattle.std.specs.Prelude.{Option}
use Rattle.std.proofs.lemmas.List.{get_or_default, get_or-take, get_or-map, length-map, length-take-le}
use Rattle.std.proofs.lemmas.Option.{unwrap_or-slice_get, slice_get_within, get_or_from_slice_get}
use Rattle.path_table.specs.Chains.{row_at}
use Rattle.path_table.specs.Repeats.{Repeats, IsFirstRepeat}
use Rattle.result_text.specs.declared.file.PathLine.{PathLine}
use Rattle.result_text.specs.declared.file.ResultFile.{ResultFile}
use Rattle.result_rules.specs.File.{its_paths}
use Rattle.result_rules.specs.declared.rule.Rule.TheVariants.{PathsDistinct}
use Rattle.result_rules.specs.Rules.{Asks}
use Rattle.line_rules.specs.Breaches.{FindsBreach}
use Rattle.tor_arena.proofs.Gets.{slice_get-some}

row_at-within : (rows : List (List ℕ)) (k : ℕ) (x : List ℕ) → k < length rows → row_at rows k ≡ get_or rows k x
row_at-within rows k x within = unwrap_or-slice_get rows k [] ∙ get_or_default rows k [] x within

-- a row is among those before a place exactly if one of these is the same
contains-repeats : (rows : List (List ℕ)) (place : ℕ) → place < length rows → Contains (take place rows) (row_at rows place) → Repeats rows place
contains-repeats rows place lt (k, within, is) =
    let long = length-take-le place rows (omega (arith, lt)) in
    let before : k < place = omega (arith, within, long) in
    let inside : k < length rows = omega (arith, before, lt) in
    (k, before, row_at-within rows k (row_at rows place) inside ∙ sym (get_or-take place rows k (row_at rows place) before) ∙ is)

repeats-contains : (rows : List (List ℕ)) (place : ℕ) → place < length rows → Repeats rows place → Contains (take place rows) (row_at rows place)
repeats-contains rows place lt (k, before, is) =
    let long = length-take-le place rows (omega (arith, lt)) in
    let within : k < length (take place rows) = omega (arith, before, long) in
    let inside : k < length rows = omega (arith, before, lt) in
    (k, within, get_or-take place rows k (row_at rows place) before ∙ sym (row_at-within rows k (row_at rows place) inside) ∙ is)

-- the path of a line
path-at : (file : ResultFile) (k : ℕ) (line : PathLine) → slice_get file.paths k ≡ Some line → row_at (its_paths file) k ≡ line.path
path-at file k line at =
    let within = slice_get_within file.paths k line at in
    let long = length-map file.paths (λ (p : PathLine). p.path) in
    row_at-within (its_paths file) k line.path (omega (arith, within, long))
    ∙ get_or-map (λ (p : PathLine). p.path) file.paths k line line.path within ∙ ap (λ (p : PathLine). p.path) (get_or_from_slice_get file.paths k line line at)

new-from : (file : ResultFile) (k : ℕ) → (Repeats (its_paths file) k → ⊥) → Asks file PathsDistinct k
new-from file k none line at there =
    let within = slice_get_within file.paths k line at in
    let long = length-map file.paths (λ (p : PathLine). p.path) in
    none (contains-repeats (its_paths file) k (omega (arith, within, long)) (subst (Contains (take k (its_paths file))) (sym (path-at file k line at)) there))

broken-from : (file : ResultFile) (k : ℕ) → k < length file.paths → Repeats (its_paths file) k → Asks file PathsDistinct k → ⊥
broken-from file k within repeats asks =
    let some = slice_get-some file.paths k within in
    let long = length-map file.paths (λ (p : PathLine). p.path) in
    asks some.0 some.1 (subst (Contains (take k (its_paths file))) (path-at file k some.0 some.1) (repeats-contains (its_paths file) k (omega (arith, within, long)) repeats))

pub finds-repeat : (file : ResultFile) (found : Option ℕ) → IsFirstRepeat (its_paths file) found → FindsBreach file PathsDistinct found
finds-repeat file None none = λ k lt. new-from file k (none k (let long = length-map file.paths (λ (p : PathLine). p.path) in omega (arith, lt, long)))
finds-repeat file (Some k) (within, repeats, before) =
    let long = length-map file.paths (λ (p : PathLine). p.path) in
    let lt : k < length file.paths = omega (arith, within, long) in
    record {
      within = lt;
      breach = broken-from file k lt repeats;
      before = λ j less. new-from file j (before j less);
    }
