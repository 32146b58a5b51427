-- Paths and counts beside those of dumps.
use Rattle.std.proofs.Common.{◌≡◌, ℕ, zero, suc, ◌+◌, ◌-◌, ◌<◌, ◌≤◌, List, [], ◌∷◌, length, refl, sym, ap, ap₂, ◌∙◌, subst, arith, Some, slice_get, option_map, false, nat_lt, if◌then◌else◌, le-ltb}
use Rattle.std.proofs.Common.{inl, inr}
use Rattle.std.proofs.lemmas.Bool.{cases_lt}
use Rattle.std.proofs.lemmas.Option.{same_Some, slice_get_within}
use Rattle.tor_arena.proofs.Gets.{slice_get-map}
use Rattle.result_text.specs.declared.file.PathLine.{PathLine}
use Rattle.path_table.specs.Rows.{Counted, row_paths}
use Rattle.path_clean.specs.Counts.{CauseCounts}
use Rattle.path_clean.specs.declared.cleaned.Cause.TheVariants.{NoPath}
use Rattle.result_text.specs.declared.file.ResultFile.{ResultFile}
use Rattle.result_text.specs.Numbering.{aside_line}
use Rattle.result_rules.specs.File.{path_line_number}
use Rattle.result_rules.specs.Against.{in_order, row_of, its_rows, line_against, Departs}
use Rattle.line_rules.specs.Differing.{Differs}
use Rattle.result_rules.proofs.Accepted.{none_some}

abbrev made : List ℕ → ℕ → Counted
made a b = record { path = a; times = b }

-- the row in a place, from its path and its times
pub row_parts : (rows : List Counted) (k : ℕ) (path : List ℕ) (times : ℕ) → slice_get (row_paths rows) k ≡ Some path → option_map (λ (row : Counted). row.times) (slice_get rows k) ≡ Some times →
    slice_get rows k ≡ Some (record { path = path; times = times })
row_parts [] k path times p t = absurd (none_some path p)
row_parts (row ∷ rows) zero path times p t = let h = same_Some _ _ p in let h' = same_Some _ _ t in ap (λ (o : Counted). Some o) (same row path times h h')
  where
    same : (row : Counted) (path : List ℕ) (times : ℕ) → row.path ≡ path → row.times ≡ times → row ≡ record { path = path; times = times }
    same row path times p t = ap₂ (λ (a : List ℕ) (b : ℕ). made a b) p t
row_parts (row ∷ rows) (suc k) path times p t = row_parts rows k path times p t

-- lists that have the same in each place of the first, where the second is no longer
pub same_lists : {X : Type 0} (xs ys : List X) → length ys ≤ length xs → ((k : ℕ) → k < length xs → slice_get xs k ≡ slice_get ys k) → xs ≡ ys
same_lists [] [] le h = refl
same_lists [] (y ∷ ys) le h = absurd (omega (arith, le))
same_lists (x ∷ xs) [] le h = absurd (none_some x (sym (h 0 (omega arith))))
same_lists (x ∷ xs) (y ∷ ys) le h = ap₂ (λ z zs. z ∷ zs) (same_Some _ _ (h 0 (omega arith))) (same_lists xs ys (omega (arith, le)) (λ k lt. h (suc k) (omega arith)))

mapped_at : (rows : List Counted) (k : ℕ) → slice_get (row_paths rows) k ≡ option_map (λ (row : Counted). row.path) (slice_get rows k)
mapped_at [] k = refl
mapped_at (row ∷ rows) zero = refl
mapped_at (row ∷ rows) (suc k) = mapped_at rows k

-- what is read of the row in a place
module _ (rows : List Counted) (all : List (List ℕ)) (k id t : ℕ) (row : List ℕ) (is : id ≡ k) (whole : all ≡ row_paths rows)
    (read : slice_get all id ≡ Some row) (seen : option_map (λ (row : Counted). row.times) (slice_get rows id) ≡ Some t) where
  pub row_is : (path : List ℕ) (times : ℕ) → row ≡ path → t ≡ times → slice_get rows k ≡ Some (record { path = path; times = times })
  row_is path times p e =
      let at : slice_get (row_paths rows) k ≡ Some path = ap (λ (l : List (List ℕ)). slice_get l k) (sym whole) ∙ ap (slice_get all) (sym is) ∙ read ∙ ap (λ (l : List ℕ). Some l) p in
      let times_at : option_map (λ (row : Counted). row.times) (slice_get rows k) ≡ Some times = ap (λ i. option_map (λ (row : Counted). row.times) (slice_get rows i)) (sym is) ∙ seen
      ∙ ap (λ (n : ℕ). Some n) e in
      row_parts rows k path times at times_at

  pub times_were : (path : List ℕ) (times : ℕ) → slice_get rows k ≡ Some (record { path = path; times = times }) → t ≡ times
  times_were path times e =
      same_Some _ _ (sym seen ∙ ap (λ i. option_map (λ (row : Counted). row.times) (slice_get rows i)) is ∙ ap (option_map (λ (row : Counted). row.times)) e)

pub path_at : (rows : List Counted) (all : List (List ℕ)) (k id : ℕ) (row : List ℕ) → id ≡ k → all ≡ row_paths rows → slice_get all id ≡ Some row →
    (path : List ℕ) (times : ℕ) → slice_get rows k ≡ Some (record { path = path; times = times }) → row ≡ path
path_at rows all k id row is whole read path times e =
    same_Some _ _ (sym read ∙ ap (slice_get all) is ∙ ap (λ (l : List (List ℕ)). slice_get l k) whole ∙ mapped_at rows k ∙ ap (option_map (λ (row : Counted). row.path)) e)

-- the line in a place, and whether the table has its row there
module _ (file : ResultFile) (rows : List Counted) (k : ℕ) (line : PathLine) (path : List ℕ) (times : ℕ) (at : slice_get file.paths k ≡ Some line) (p : path ≡ line.path)
    (t : times ≡ line.times) (before : (j : ℕ) → j < k → slice_get (its_rows file) j ≡ slice_get rows j) where
  its_row : slice_get (its_rows file) k ≡ Some (made path times)
  its_row = slice_get-map row_of file.paths k line at ∙ ap₂ (λ (a : List ℕ) (b : ℕ). Some (made a b)) (sym p) (sym t)

  pub row_more : slice_get rows k ≡ Some (record { path = path; times = times }) → (j : ℕ) → j < k + 1 → slice_get (its_rows file) j ≡ slice_get rows j
  row_more row j lt = elim (cases_lt j k) [
    | inl less ↦ before j less
    | inr ge ↦ let e : k ≡ j = omega (arith, ge, lt) in subst (λ n. slice_get (its_rows file) n ≡ slice_get rows n) e (its_row ∙ sym row)
  ]

  pub row_differs : (slice_get rows k ≡ Some (record { path = path; times = times }) → ⊥) → (k ≤ length file.paths) × Differs (its_rows file) rows k
  row_differs other =
      let within : k < length file.paths = slice_get_within file.paths k line at in
      (omega (arith, within), record { breach = λ same. other (sym same ∙ its_row); before = before })

-- the counts agree, and the paths differ first in this place
pub path_departs : (file : ResultFile) (rows : List Counted) (counts : CauseCounts) (k line rule : ℕ) → file.asides ≡ counts → Differs (its_rows file) rows k
    → line ≡ path_line_number file k → rule ≡ 11 →
    Departs file rows counts line rule
path_departs file rows counts k line rule same d at named = record {
  named = named;
  place = 7 + k;
  numbered = at ∙ path_line_back;
  breach = λ a. d.breach (subst (λ n. slice_get (its_rows file) n ≡ slice_get rows n) back (a.path (omega arith)));
  before = λ j lt. record { count = λ _. ap (λ c. slice_get (in_order c) j) same; path = λ le. d.before (j - 7) (omega arith) };
}
  where
    back : 7 + k - 7 ≡ k
    back = omega arith

    path_line_back : path_line_number file k ≡ line_against file (7 + k)
    path_line_back =
        let behind : nat_lt (7 + k) 7 ≡ false = le-ltb (7 + k) 7 (omega arith) in
        ap (path_line_number file) (sym back) ∙ ap (λ b. if b then aside_line NoPath + (7 + k) else path_line_number file (7 + k - 7)) (sym behind)
