-- The lines that a loop has passed, and one more.
use Rattle.std.proofs.Common.{◌≡◌, inl, inr, Some, slice_get, ℕ, ◌+◌, ◌<◌, ◌≤◌, Bool, true, false, cond, not, ◌&&◌, nat_le, List, [], ◌∷◌, ◌++◌, length, get_or, sum_by, take, map, filter, is_none}
use Rattle.std.proofs.Common.{refl, sym, ap, ◌∙◌, subst, arith}
use Rattle.std.specs.List.{list_any}
use Rattle.std.proofs.lemmas.Bool.{false≢true, cases_lt}
use Rattle.std.proofs.lemmas.List.{map-append, take_more, length-map, get_or-map}
use Rattle.std.proofs.lemmas.List.Elements.{filter-append}
use Rattle.std.proofs.lemmas.List.Sums.{length-filter, count_by-le-length, sum_by_more}
use Rattle.std.proofs.lemmas.Option.{slice_get_read, slice_get_within, get_or_from_slice_get, same_Some}
use Rattle.relationships.specs.Evidence.{paths_of, kept_from}
use Rattle.tor_arena.specs.Distinct.{is_distinct}
use Rattle.tor_arena.specs.Limits.{max_numbers}
use Rattle.path_clean.specs.Paths.{is_reserved, is_cleaned}
use Rattle.relationships.specs.declared.fate.Fate.{Fate}
use Rattle.relationships.specs.declared.fate.Fate.TheVariants.{Kept, Lost}
use Rattle.result_text.specs.declared.file.PathLine.{PathLine}
use Rattle.result_text.specs.declared.file.ResultFile.{ResultFile}
use Rattle.relationships.specs.Fates.{walk_of}
use Rattle.result_rules.specs.File.{its_paths, its_kept}
use Rattle.relationships.specs.Fates.{is_kept}
use Rattle.result_rules.specs.declared.rule.Rule.TheVariants.{PathsCleaned}
use Rattle.result_rules.specs.Rules.{IsSound, IsMet}
use Rattle.line_rules.specs.Tables.{kept_in}

-- the paths of the lines
abbrev pub paths_in : List PathLine → List (List ℕ)
paths_in lines = map (λ p. p.path) lines

pub paths-more : (lines : List PathLine) (i : ℕ) (line : PathLine) → i < length lines → line ≡ get_or lines i line → paths_in (take (i + 1) lines) ≡ paths_in (take i lines) ++ line.path ∷ []
paths-more lines i line within is =
    ap paths_in (take_more lines i line within) ∙ map-append (λ (p : PathLine). p.path) (take i lines) (get_or lines i line ∷ []) ∙
    ap (λ (p : PathLine). paths_in (take i lines) ++ p.path ∷ []) (sym is)

-- ---- the kept ones

pub kept-more : (lines : List PathLine) (i : ℕ) (line : PathLine) → i < length lines → line ≡ get_or lines i line → kept_in (take (i + 1) lines) ≡ kept_in (take i lines) ++ kept_in (line ∷ [])
kept-more lines i line within is =
    ap kept_in (take_more lines i line within ∙ ap (λ (p : PathLine). take i lines ++ p ∷ []) (sym is)) ∙
    ap paths_in (filter-append (λ (p : PathLine). is_kept p.fate) (take i lines) (line ∷ [])) ∙
    map-append (λ (p : PathLine). p.path) (filter (λ (p : PathLine). is_kept p.fate) (take i lines)) (filter (λ (p : PathLine). is_kept p.fate) (line ∷ []))

pub kept-few : (lines : List PathLine) → length (kept_in lines) ≤ length lines
kept-few lines =
    let n : length (kept_in lines) ≡ length (filter (λ (p : PathLine). is_kept p.fate) lines) = length-map (filter (λ (p : PathLine). is_kept p.fate) lines) (λ (p : PathLine). p.path) in
    omega (arith, n, length-filter (λ (p : PathLine). is_kept p.fate) lines, count_by-le-length (λ (p : PathLine). is_kept p.fate) lines)

none-kept : (fate : Fate) → is_none (walk_of fate) ≡ is_kept fate
none-kept Kept = refl
none-kept (Lost walk) = refl

kept-from : (n : ℕ) (lines : List PathLine) → paths_of (kept_from n (paths_in lines) (map is_none (map (λ (p : PathLine). walk_of p.fate) lines))) ≡ kept_in lines
kept-from n [] = refl
kept-from n (line ∷ lines) = by (kept-from (n + 1) lines) (is_none (walk_of line.fate)) (is_kept line.fate) (none-kept line.fate)
  where
    by : paths_of (kept_from (n + 1) (paths_in lines) (map is_none (map (λ (p : PathLine). walk_of p.fate) lines))) ≡ kept_in lines → (b c : Bool) → b ≡ c →
        paths_of (kept_from n (line.path ∷ paths_in lines) (b ∷ map is_none (map (λ (p : PathLine). walk_of p.fate) lines))) ≡
        paths_in (cond c (line ∷ filter (λ (p : PathLine). is_kept p.fate) lines) (filter (λ (p : PathLine). is_kept p.fate) lines))
    by rest true true e = ap (λ (l : List (List ℕ)). line.path ∷ l) rest
    by rest true false e = absurd (false≢true (sym e))
    by rest false true e = absurd (false≢true e)
    by rest false false e = rest

-- the kept paths of a file
pub kept-lines : (file : ResultFile) → paths_of (its_kept file) ≡ kept_in file.paths
kept-lines file = kept-from 1 file.paths

-- ---- clean paths

-- what a clean path gives
pub record IsUsable (path : List ℕ) : Type 0 where
  pub distinct : is_distinct path ≡ true
  pub short : length path ≤ max_numbers

distinct-from_clean : (path : List ℕ) → is_cleaned path ≡ true → is_distinct path ≡ true
distinct-from_clean path h = by (nat_le 2 (length path)) (is_distinct path) (not (list_any is_reserved path)) h
  where
    by : (l d r : Bool) → (l && d && r) ≡ true → d ≡ true
    by true true r h = refl
    by true false r h = absurd (false≢true h)
    by false d r h = absurd (false≢true h)

at-its_paths : (file : ResultFile) (i : ℕ) (line : PathLine) → i < length file.paths → line ≡ get_or file.paths i line → get_or (its_paths file) i line.path ≡ line.path
at-its_paths file i line within is = get_or-map (λ (p : PathLine). p.path) file.paths i line line.path within ∙ ap (λ (p : PathLine). p.path) (sym is)

within-paths : (file : ResultFile) (i : ℕ) → i < length file.paths → i < length (its_paths file)
within-paths file i within =
    let long : length (its_paths file) ≡ length file.paths = length-map file.paths (λ (p : PathLine). p.path) in omega (arith, long, within)

-- the paths with one line more, and how many numbers they have
pub take-paths : (file : ResultFile) (i : ℕ) (line : PathLine) → i < length file.paths → line ≡ get_or file.paths i line → take (i + 1) (its_paths file) ≡ take i (its_paths file) ++ line.path ∷ []
take-paths file i line within is =
    take_more (its_paths file) i line.path (within-paths file i within) ∙ ap (λ (p : List ℕ). take i (its_paths file) ++ p ∷ []) (at-its_paths file i line within is)

pub numbers-more : (file : ResultFile) (i : ℕ) (line : PathLine) → i < length file.paths → line ≡ get_or file.paths i line →
    sum_by length (take (i + 1) (its_paths file)) ≡ sum_by length (take i (its_paths file)) + length line.path
numbers-more file i line within is =
    sum_by_more length (its_paths file) i line.path (within-paths file i within) ∙ ap (λ (p : List ℕ). sum_by length (take i (its_paths file)) + length p) (at-its_paths file i line within is)

-- the line that a loop has in hand
pub record IsLine (file : ResultFile) (i : ℕ) (line : PathLine) : Type 0 where
  pub within : i < length file.paths
  pub is : line ≡ get_or file.paths i line

pub line-among : (file : ResultFile) (lines : List PathLine) (i : ℕ) (line : PathLine) → lines ≡ file.paths → i < length lines → line ≡ get_or lines i line → IsLine file i line
line-among file lines i line same within is = record {
  within = subst (λ (ls : List PathLine). i < length ls) same within;
  is = subst (λ (ls : List PathLine). line ≡ get_or ls i line) same is;
}

-- the line that a loop reads by its place
pub line-here : (file : ResultFile) (i : ℕ) (line : PathLine) → slice_get file.paths i ≡ Some line → IsLine file i line
line-here file i line at = record { within = slice_get_within file.paths i line at; is = sym (get_or_from_slice_get file.paths i line line at) }

pub sound-at : (file : ResultFile) (i : ℕ) (line : PathLine) → IsMet file PathsCleaned → IsLine file i line → IsSound file i line
sound-at file i line met l = met i l.within line (slice_get_read file.paths (length file.paths) i line refl l.within l.is)

pub usable-at : (file : ResultFile) (i : ℕ) (line : PathLine) → IsMet file PathsCleaned → IsLine file i line → IsUsable line.path
usable-at file i line met l =
    let sound = sound-at file i line met l in
    let numbers = sound.numbers in
    record {
      distinct = distinct-from_clean line.path sound.cleaned;
      short = omega (arith, numbers, numbers-more file i line l.within l.is);
    }

-- ---- one place more

pub before-more : (P : ℕ → Type 0) (place : ℕ) → ((j : ℕ) → j < place → P j) → P place → (j : ℕ) → j < place + 1 → P j
before-more P place before here j lt =
    elim (cases_lt j place) [
      | inl earlier ↦ before j earlier
      | inr late ↦ let same : place ≡ j = omega (arith, lt, late) in subst P same here
    ]

-- what holds of the line in a place
pub at-place : (Q : PathLine → Type 0) (lines : List PathLine) (place : ℕ) (line : PathLine) → place < length lines → line ≡ get_or lines place line → Q line →
    (other : PathLine) → slice_get lines place ≡ Some other → Q other
at-place Q lines place line within is holds other at =
    subst Q (same_Some line other (sym (slice_get_read lines (length lines) place line refl within is) ∙ at)) holds
