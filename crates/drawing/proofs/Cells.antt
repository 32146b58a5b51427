-- The cells of the boxes of a group.
use Rattle.std.proofs.Common.{◌≡◌, ℕ, ◌+◌, ◌-◌, ◌*◌, ◌/◌, ◌%◌, ◌<◌, ◌≤◌, ◌⊎◌, inl, inr, min, refl, ap, arith}
use Rattle.std.proofs.Math.Nat.{div-add-mod, mod-lt}
use Rattle.std.proofs.lemmas.Bool.{cases_order}
use Rattle.drawing.specs.declared.page.Cell.{Cell}
use Rattle.drawing.specs.Page.{rows_of, cell_of, flat_cell}

pub eight : (i : ℕ) → (8 * (i / 8) + i % 8 ≡ i) × (i % 8 < 8)
eight i = (div-add-mod i 8, mod-lt i (omega arith))

-- ---- one cell

-- it stands in a row of as many, of so many rows
pub record IsSeat (rows : ℕ) (c : Cell) : Type 0 where
  pub there : c.place < c.count
  pub within : c.row < rows

pub seat_of : (n i : ℕ) → i < n → IsSeat (rows_of n) (cell_of n i)
seat_of n i lt =
    let a = eight i in
    let a0 = a.0 in
    let a1 = a.1 in
    let b = eight (n + 7) in
    let b0 = b.0 in
    let b1 = b.1 in
    let under : i / 8 < (n + 7) / 8 = omega (arith, a0, b0, b1, lt) in
    record { there = omega (arith, a0, a1, lt); within = omega (arith, under) }

pub flat_seat : (n i : ℕ) → i < n → IsSeat 1 (flat_cell n 0 i)
flat_seat n i lt = record { there = lt; within = omega arith }

-- it has no more boxes in its row than the first one
pub count_few : (n i : ℕ) → (cell_of n i).count ≤ min 8 n
count_few n i = omega arith

-- ---- two cells

-- they are not the same two
abbrev pub Differ : Cell → Cell → Type 0
Differ c d = (c.row < d.row) ⊎ ((d.row < c.row) ⊎ ((c.row ≡ d.row) × ((c.count ≡ d.count) × ((c.place < d.place) ⊎ (d.place < c.place)))))

pub cells_differ : (n i j : ℕ) → i < j → Differ (cell_of n i) (cell_of n j)
cells_differ n i j lt =
    let a = eight i in
    let b = eight j in
    let a0 = a.0 in
    let b0 = b.0 in
    let a1 = a.1 in
    let b1 = b.1 in
    elim (cases_order (i / 8) (j / 8)) [
      | inl same ↦ inr (inr (same, (ap (λ q. min 8 (n - 8 * q)) same, inl (omega (arith, a0, b0, same, lt)))))
      | inr o ↦ elim o [
        | inl less ↦ inl less
        | inr more ↦ absurd (omega (arith, a0, b0, a1, b1, more, lt))
      ]
    ]

pub flats_differ : (n r i j : ℕ) → i < j → Differ (flat_cell n r i) (flat_cell n r j)
flats_differ n r i j lt = inr (inr (refl, (refl, inl lt)))
