-- Which paths of a result are kept, when the next line is looked at, and where they stand in a graph that begins with its paths.
use Rattle.std.proofs.Common.{◌≡◌, ℕ, zero, suc, ◌+◌, ◌<◌, Bool, true, false, cond, List, [], ◌∷◌, ◌++◌, length, map, take, Some, slice_get, refl, sym, ap, ◌∙◌, arith}
use Rattle.std.specs.Prelude.{is_none, All, option_map}
use Rattle.std.proofs.lemmas.List.{map-append, length-take-le}
use Rattle.std.proofs.lemmas.List.Elements.{All-push}
use Rattle.std.proofs.lemmas.Option.{slice_get_within, get_or_from_slice_get}
use Rattle.tor_arena.proofs.Gets.{take_get, slice_get-map, slice_get-take}
use Rattle.relationships.specs.Evidence.{Numbered, kept_from}
use Rattle.relationships.specs.Fates.{is_kept, walk_of}
use Rattle.as_graph.specs.Paths.{path_at}
use Rattle.result_text.specs.declared.file.PathLine.{PathLine}
use Rattle.result_text.specs.declared.file.ResultFile.{ResultFile}
use Rattle.result_rules.specs.File.{kept_among}
use Rattle.tor_clauses.specs.Formulas.{numbered}
use Rattle.rel_infer.specs.Earlier.{BeginsWithPathsOf}

abbrev paths_in : List PathLine → List (List ℕ)
paths_in lines = map (λ (p : PathLine). p.path) lines

abbrev flags_in : List PathLine → List Bool
flags_in lines = map is_none (map (λ (p : PathLine). walk_of p.fate) lines)

-- what one line more adds, where this says whether it is kept
abbrev one_kept : ℕ → PathLine → Bool → Numbered
one_kept n line kept = cond kept ((n, line.path) ∷ []) []

kept_from-line : (n : ℕ) (lines : List PathLine) (line : PathLine) (kept : Bool) → is_kept line.fate ≡ kept
    → kept_from n (paths_in (lines ++ line ∷ [])) (flags_in (lines ++ line ∷ [])) ≡ kept_from n (paths_in lines) (flags_in lines) ++ one_kept (n + length lines) line kept
kept_from-line n [] line true is = let e : n ≡ n + 0 = omega arith in ap (λ k. kept_from n (line.path ∷ []) (k ∷ [])) is ∙ ap (λ (m : ℕ). (m, line.path) ∷ []) e
kept_from-line n [] line false is = ap (λ k. kept_from n (line.path ∷ []) (k ∷ [])) is
kept_from-line n (first ∷ lines) line kept is = by (is_kept first.fate) refl
    (kept_from-line (n + 1) lines line kept is ∙ ap (λ (m : ℕ). kept_from (n + 1) (paths_in lines) (flags_in lines) ++ one_kept m line kept) further)
  where
    further : (n + 1) + length lines ≡ n + suc (length lines)
    further = omega arith

    by : (b : Bool) → is_none (walk_of first.fate) ≡ b
        → kept_from (n + 1) (paths_in (lines ++ line ∷ [])) (flags_in (lines ++ line ∷ [])) ≡ kept_from (n + 1) (paths_in lines) (flags_in lines) ++ one_kept (n + suc (length lines)) line kept
        → kept_from n (paths_in (first ∷ (lines ++ line ∷ []))) (flags_in (first ∷ (lines ++ line ∷ []))) ≡
        kept_from n (paths_in (first ∷ lines)) (flags_in (first ∷ lines)) ++ one_kept (n + suc (length lines)) line kept
    by true e ih =
        ap (λ k. kept_from n (paths_in (first ∷ (lines ++ line ∷ []))) (k ∷ flags_in (lines ++ line ∷ []))) e ∙ ap (λ (A : Numbered). (n, first.path) ∷ A) ih ∙
        sym (ap (λ k. kept_from n (paths_in (first ∷ lines)) (k ∷ flags_in lines) ++ one_kept (n + suc (length lines)) line kept) e)
    by false e ih =
        ap (λ k. kept_from n (paths_in (first ∷ (lines ++ line ∷ []))) (k ∷ flags_in (lines ++ line ∷ []))) e ∙ ih ∙
        sym (ap (λ k. kept_from n (paths_in (first ∷ lines)) (k ∷ flags_in lines) ++ one_kept (n + suc (length lines)) line kept) e)

-- what is so far: these places of the graph are those of the kept among the first k paths
pub record AreKeptBefore (graph : List (List ℕ)) (file : ResultFile) (k : ℕ) (places : List ℕ) : Type 0 where
  pub there : All (λ path. path < length file.paths) places
  pub kept : numbered graph places ≡ kept_among (take k file.paths)

module _ (graph : List (List ℕ)) (file : ResultFile) (k : ℕ) (line : PathLine) (at : slice_get file.paths k ≡ Some line) where
  within : k < length file.paths
  within = slice_get_within file.paths k line at

  before : length (take k file.paths) ≡ k
  before = let lt = within in length-take-le k file.paths (omega (arith, lt))

  more : (kept : Bool) → is_kept line.fate ≡ kept → kept_among (take (k + 1) file.paths) ≡ kept_among (take k file.paths) ++ one_kept (k + 1) line kept
  more kept is =
      let so_many : 1 + length (take k file.paths) ≡ k + 1 = let e = before in omega (arith, e) in
      ap kept_among (take_get file.paths k line at) ∙ kept_from-line 1 (take k file.paths) line kept is ∙
      ap (λ (m : ℕ). kept_among (take k file.paths) ++ one_kept m line kept) so_many

  -- the path of this place is that of the line
  in_graph : BeginsWithPathsOf graph file → path_at graph k ≡ line.path
  in_graph begins =
      let path = slice_get-map (λ (p : PathLine). p.path) file.paths k line at in
      get_or_from_slice_get graph k line.path [] (slice_get-take (length file.paths) graph k line.path (ap (λ (l : List (List ℕ)). slice_get l k) begins ∙ path)).1

  pub kept_next : (places : List ℕ) → BeginsWithPathsOf graph file → is_kept line.fate ≡ true → AreKeptBefore graph file k places → AreKeptBefore graph file (k + 1) (places ++ k ∷ [])
  kept_next places begins is so = record {
    there = All-push (λ path. path < length file.paths) places k so.there within;
    kept =
        map-append (λ (path : ℕ). (path + 1, path_at graph path)) places (k ∷ []) ∙ ap (λ (A : Numbered). A ++ (k + 1, path_at graph k) ∷ []) so.kept ∙
        ap (λ (p : List ℕ). kept_among (take k file.paths) ++ (k + 1, p) ∷ []) (in_graph begins) ∙ sym (more true is);
  }

  pub lost_next : (places : List ℕ) → is_kept line.fate ≡ false → AreKeptBefore graph file k places → AreKeptBefore graph file (k + 1) places
  lost_next places is so = record { there = so.there; kept = so.kept ∙ sym (more false is ∙ ends (kept_among (take k file.paths))) }
    where
      ends : (A : Numbered) → A ++ [] ≡ A
      ends [] = refl
      ends (a ∷ A) = ap (λ (t : Numbered). a ∷ t) (ends A)

-- the line of a place, where its fate is known to be kept or not
pub line_at : (lines : List PathLine) (k : ℕ) (kept : Bool) → option_map is_kept (slice_get (map (λ (p : PathLine). p.fate) lines) k) ≡ Some kept
    → (line : PathLine) × (slice_get lines k ≡ Some line) × (is_kept line.fate ≡ kept)
line_at [] k kept h = absurd cc
line_at (line ∷ lines) zero kept h = (line, refl, cc h)
line_at (line ∷ lines) (suc k) kept h = line_at lines k kept h
