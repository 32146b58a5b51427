-- The rows of a table, one more at a time.
use Rattle.std.proofs.Common.{◌≡◌, ℕ, zero, suc, ◌+◌, List, [], ◌∷◌, ◌++◌, take, drop, Option, Some, sym, ap, ap₂, ◌∙◌, subst, append_assoc, add-one}
use Rattle.std.specs.Prelude.{option_map}
use Rattle.std.specs.List.{slice_get}
use Rattle.std.proofs.lemmas.Grind.{flat_map-append}
use Rattle.std.proofs.lemmas.List.{append-nil, take-append-drop}
use Rattle.std.proofs.lemmas.Option.{same_Some}
use Rattle.tor_io.specs.Contents.{GainsPrefix}
use Rattle.tor_io.proofs.Passing.{longer}
use Rattle.path_table.specs.Rows.{Counted, row_paths}
use Rattle.tor_output.specs.Listing.{list_line, listing}

-- the row whose path and times these are
row_at : (rows : List Counted) (i : ℕ) (path : List ℕ) (times : ℕ) → slice_get (row_paths rows) i ≡ Some path → option_map (λ row. row.times) (slice_get rows i) ≡ Some times
    → take (suc i) rows ≡ take i rows ++ record { path = path; times = times } ∷ []
row_at [] i path times is counted = absurd cc
row_at (row ∷ rows) zero path times is counted = ap₂ (λ p t. record { path = p; times = t } ∷ []) (same_Some row.path path is) (same_Some row.times times counted)
row_at (row ∷ rows) (suc i) path times is counted = ap (λ (t : List Counted). row ∷ t) (row_at rows i path times is counted)

pub one_line_more : (rows : List Counted) (i : ℕ) (path : List ℕ) (times : ℕ) → slice_get (row_paths rows) i ≡ Some path → option_map (λ row. row.times) (slice_get rows i) ≡ Some times
    → listing (take i rows) ++ list_line (record { path = path; times = times }) ≡ listing (take (i + 1) rows)
one_line_more rows i path times is counted =
    let row : Counted = record { path = path; times = times } in
    sym (ap listing (rw add-one (row_at rows i path times is counted)) ∙ flat_map-append list_line (take i rows) (row ∷ [])
    ∙ ap (λ (t : List ℕ). listing (take i rows) ++ t) (append-nil (list_line row)))

-- the lines so far are a first part of all
pub lines_stop : (rows : List Counted) (i : ℕ) (old new : Option (List ℕ)) (before : List ℕ) → GainsPrefix old new (before ++ listing (take i rows)) → GainsPrefix old new (before ++ listing rows)
lines_stop rows i old new before gain =
    subst (λ t. GainsPrefix old new (before ++ t)) (sym (flat_map-append list_line (take i rows) (drop i rows)) ∙ ap listing (take-append-drop i rows))
    (subst (GainsPrefix old new) (append_assoc before (listing (take i rows)) (listing (drop i rows))) (longer old new (before ++ listing (take i rows)) (listing (drop i rows)) gain))
