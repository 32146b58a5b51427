-- A result that is put together from its parts.
use Rattle.std.proofs.Common.{◌≡◌, ℕ, List, [], ◌∷◌, map, refl, ap, ap₂}
use Rattle.relationships.specs.Fates.{walk_of}
use Rattle.path_table.specs.Rows.{Counted, row_paths}
use Rattle.result_text.specs.declared.file.PathLine.{PathLine}
use Rattle.result_rules.specs.Against.{row_of}

pub rows_same : (lines : List PathLine) (rows : List Counted) → map (λ (p : PathLine). p.path) lines ≡ row_paths rows →
    map (λ (p : PathLine). p.times) lines ≡ map (λ (row : Counted). row.times) rows → map row_of lines ≡ rows
rows_same [] [] paths times = refl
rows_same [] (row ∷ rows) paths times = absurd cc
rows_same (line ∷ lines) [] paths times = absurd cc
rows_same (line ∷ lines) (row ∷ rows) paths times =
    let path : line.path ≡ row.path = cc in
    let n : line.times ≡ row.times = cc in
    let more_paths : map (λ (p : PathLine). p.path) lines ≡ row_paths rows = cc in
    let more_times : map (λ (p : PathLine). p.times) lines ≡ map (λ (row : Counted). row.times) rows = cc in
    let rest = rows_same lines rows more_paths more_times in
    ap₂ (λ (r : Counted) rs. r ∷ rs) (same_row (row_of line) row path n) rest
  where
    same_row : (a b : Counted) → a.path ≡ b.path → a.times ≡ b.times → a ≡ b
    same_row a b path n = ap₂ (λ (p : List ℕ) (m : ℕ). record { path = p; times = m }) path n

pub walks_same : (lines : List PathLine) → map (λ (p : PathLine). walk_of p.fate) lines ≡ map walk_of (map (λ (p : PathLine). p.fate) lines)
walks_same [] = refl
walks_same (line ∷ lines) = ap (λ l. walk_of line.fate ∷ l) (walks_same lines)
