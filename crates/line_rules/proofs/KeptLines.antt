-- The kept paths, line by line.
use Rattle.std.proofs.Common.{◌≡◌, ℕ, ◌+◌, List, [], ◌∷◌, ◌++◌, map, true, false, refl, sym, ap, ◌∙◌, is_none}
use Rattle.std.proofs.lemmas.Bool.{false≢true}
use Rattle.relationships.specs.Evidence.{paths_of, kept_from}
use Rattle.relationships.specs.declared.fate.Fate.{Fate}
use Rattle.relationships.specs.declared.fate.Fate.TheVariants.{Kept, Lost}
use Rattle.result_text.specs.declared.file.PathLine.{PathLine}
use Rattle.relationships.specs.Fates.{is_kept, walk_of}
use Rattle.line_rules.specs.Flipping.{with_kept, kept_lines}

abbrev lines_from : ℕ → List PathLine → List (List ℕ)
lines_from n lines = paths_of (kept_from n (map (λ (p : PathLine). p.path) lines) (map is_none (map (λ (p : PathLine). walk_of p.fate) lines)))

last_line : (n times : ℕ) (path : List ℕ) (fate : Fate) → lines_from n (record { times = times; path = path; fate = fate } ∷ []) ≡ with_kept [] path fate
last_line n times path Kept = refl
last_line n times path (Lost walk) = refl

more_from : (n : ℕ) (lines : List PathLine) (line : PathLine) → lines_from n (lines ++ line ∷ []) ≡ with_kept (lines_from n lines) line.path line.fate
more_from n [] line = last_line n line.times line.path line.fate
more_from n (first ∷ lines) line = behind (more_from (n + 1) lines line) first.times first.path first.fate
  where
    prefix : (path : List ℕ) (paths : List (List ℕ)) (last : List ℕ) (fate : Fate) → path ∷ with_kept paths last fate ≡ with_kept (path ∷ paths) last fate
    prefix path paths last Kept = refl
    prefix path paths last (Lost walk) = refl

    -- what stands before it
    behind : lines_from (n + 1) (lines ++ line ∷ []) ≡ with_kept (lines_from (n + 1) lines) line.path line.fate → (times : ℕ) (path : List ℕ) (fate : Fate)
        → lines_from n (record { times = times; path = path; fate = fate } ∷ (lines ++ line ∷ [])) ≡ with_kept (lines_from n (record { times = times; path = path; fate = fate } ∷ lines))
        line.path line.fate
    behind rest times path Kept = ap (λ (l : List (List ℕ)). path ∷ l) rest ∙ prefix path (lines_from (n + 1) lines) line.path line.fate
    behind rest times path (Lost walk) = rest

pub kept_more : (lines : List PathLine) (line : PathLine) → kept_lines (lines ++ line ∷ []) ≡ with_kept (kept_lines lines) line.path line.fate
kept_more lines line = more_from 1 lines line

-- a path by whether it is kept
pub with_kept-kept : (paths : List (List ℕ)) (path : List ℕ) (fate : Fate) → is_kept fate ≡ true → with_kept paths path fate ≡ paths ++ path ∷ []
with_kept-kept paths path Kept kept = refl
with_kept-kept paths path (Lost walk) kept = absurd (false≢true kept)

pub with_kept-lost : (paths : List (List ℕ)) (path : List ℕ) (fate : Fate) → is_kept fate ≡ false → with_kept paths path fate ≡ paths
with_kept-lost paths path Kept lost = absurd (false≢true (sym lost))
with_kept-lost paths path (Lost walk) lost = refl
