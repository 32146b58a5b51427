-- The parts of what is found, together.
use Rattle.std.proofs.Common.{◌≡◌, ◌≢◌, ℕ, suc, ◌<◌, ◌≤◌, List, [], ◌∷◌, length, map, take, slice_get, Some, refl, sym, ap, ap₂, ◌∙◌, subst, arith}
use Rattle.std.specs.Prelude.{All}
use Rattle.std.specs.List.{AllPairs, AllZip}
use Rattle.std.proofs.Math.Seq.{take-length}
use Rattle.std.proofs.lemmas.List.{length-map}
use Rattle.std.proofs.lemmas.Option.{slice_get_within}
use Rattle.tor_arena.specs.Limits.{max_paths}
use Rattle.relationships.specs.declared.fate.Fate.{Fate}
use Rattle.relationships.specs.Evidence.{paths_of}
use Rattle.relationships.specs.Checking.{kept_of}
use Rattle.relationships.specs.Fates.{walk_of}
use Rattle.relationships.proofs.Serving.{all_differ_if_distinct}
use Rattle.path_table.specs.Rows.{row_paths}
use Rattle.result_text.specs.declared.file.EdgeLine.{EdgeLine}
use Rattle.result_text.specs.declared.file.PathLine.{PathLine}
use Rattle.result_text.specs.declared.file.ResultFile.{ResultFile}
use Rattle.result_rules.specs.declared.rule.Rule.TheVariants.{EdgesListed, PathsCleaned}
use Rattle.result_rules.specs.Against.{its_rows, row_of}
use Rattle.result_rules.specs.File.{its_kept, its_paths}
use Rattle.result_rules.specs.Rules.{Accepts}
use Rattle.result_rules.proofs.Accepted.{edges_listed, paths_apart}
use Rattle.as_rel.specs.Labelled.{ends_of}
use Rattle.as_rel.proofs.KeptLemmas.{ends_law}
use Rattle.rel_infer.proofs.Assembling.{walks_same}

-- as many of the one as of the other
pub zip_length : {A B : Type 0} (R : A → B → Type 0) (xs : List A) (ys : List B) → AllZip R xs ys → length ys ≡ length xs
zip_length R [] [] h = refl
zip_length R [] (y ∷ ys) h = absurd h
zip_length R (x ∷ xs) [] h = absurd h
zip_length R (x ∷ xs) (y ∷ ys) h = ap suc (zip_length R xs ys h.1)

rows_of_lines : (lines : List PathLine) → row_paths (map row_of lines) ≡ map (λ (p : PathLine). p.path) lines
rows_of_lines [] = refl
rows_of_lines (line ∷ lines) = ap (λ (ps : List (List ℕ)). line.path ∷ ps) (rows_of_lines lines)

pub its_row_paths : (file : ResultFile) → row_paths (its_rows file) ≡ its_paths file
its_row_paths file = rows_of_lines file.paths

pub its_all_paths : (file : ResultFile) → take (length file.paths) (its_paths file) ≡ its_paths file
its_all_paths file =
    let many = length-map file.paths (λ (p : PathLine). p.path) in
    ap (λ n. take n (its_paths file)) (sym many) ∙ take-length (its_paths file)

-- the kept ones of the first paths are those that the result keeps
pub kept_same : (file : ResultFile) (fates : List Fate) → fates ≡ map (λ (p : PathLine). p.fate) file.paths →
    paths_of (kept_of (take (length fates) (its_paths file)) (map walk_of fates)) ≡ paths_of (its_kept file)
kept_same file fates are =
    let many = ap length are ∙ length-map file.paths (λ (p : PathLine). p.fate) in
    ap₂ (λ (ps : List (List ℕ)) ws. paths_of (kept_of ps ws)) (ap (λ n. take n (its_paths file)) many ∙ its_all_paths file) (ap (map walk_of) are ∙ sym (walks_same file.paths))

pub edge_ends : (file : ResultFile) (edges : List EdgeLine) → Accepts file → edges ≡ file.edges →
    All (λ e. e.low < e.high) edges × AllPairs (λ e f. ends_of e ≢ ends_of f) edges
edge_ends file edges accepts are =
    subst (λ (es : List EdgeLine). All (λ e. e.low < e.high) es × AllPairs (λ e f. ends_of e ≢ ends_of f) es) (sym are)
    (ends_law file.edges (its_paths file) (all_differ_if_distinct (its_paths file) (paths_apart file (accepts PathsCleaned))) (edges_listed file (accepts EdgesListed)))

few_from : (lines : List PathLine) → ((k : ℕ) (line : PathLine) → slice_get lines k ≡ Some line → k < max_paths) → length lines ≤ max_paths
few_from [] each = omega arith
few_from (line ∷ lines) each = let (last, at) = last_of line lines in let lt = each (length lines) last at in omega (arith, lt)
  where
    last_of : (line : PathLine) (lines : List PathLine) → (last : PathLine) × (slice_get (line ∷ lines) (length lines) ≡ Some last)
    last_of line [] = (line, refl)
    last_of line (next ∷ lines) = last_of next lines

pub few_paths : (file : ResultFile) → Accepts file → length file.paths ≤ max_paths
few_paths file accepts = few_from file.paths (λ k line at. (accepts PathsCleaned k (slice_get_within file.paths k line at) line at).few)
