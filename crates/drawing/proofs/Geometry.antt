-- Boxes in cells, and the lines that lead to them.
use Rattle.std.proofs.Common.{◌≡◌, ℕ, ◌+◌, ◌-◌, ◌*◌, ◌<◌, ◌≤◌, ◌⊎◌, inl, inr, refl, sym, ap, arith}
use Rattle.drawing.specs.declared.page.Rect.{Rect}
use Rattle.drawing.specs.declared.page.Plan.{Plan}
use Rattle.drawing.specs.declared.page.Cell.{Cell}
use Rattle.drawing.specs.Page.{axis, box_at, centre_box, centre_y, line_up, line_down, line_points, page_width}
use Rattle.drawing.specs.Tidy.{Apart, KeepsOff, Misses, LeadsBetween, LineWithin}
use Rattle.drawing.proofs.Cells.{Differ}

-- the box of a cell is as large as all, and right of the trunk
pub record IsBox (w : ℕ) (b : Rect) : Type 0 where
  pub wide : b.width ≡ 88
  pub high : b.height ≡ 32
  pub left : 144 ≤ b.x
  pub right : b.x + 100 ≤ w

pub box_is : (p : Plan) (y : ℕ) (c : Cell) → c.place < c.count → c.count ≤ p.columns → IsBox (page_width p) (box_at p y c)
box_is p y c lt le = record { wide = refl; high = refl; left = omega arith; right = omega (arith, lt, le) }

pub boxes_apart : (p : Plan) (y : ℕ) (c d : Cell) → Differ c d → Apart (box_at p y c) (box_at p y d)
boxes_apart p y c d (inl lt) = inr (inr (inl (omega (arith, lt))))
boxes_apart p y c d (inr (inl lt)) = inr (inr (inr (omega (arith, lt))))
boxes_apart p y c d (inr (inr (e, (f, inl lt)))) = inl (omega (arith, f, lt))
boxes_apart p y c d (inr (inr (e, (f, inr lt)))) = inr (inl (omega (arith, f, lt)))

-- ---- where two boxes stand: one in a row above the other, or in the same row

-- the second is in another row, with a gap between them, or in the same and to a side
abbrev pub Clear : Rect → Rect → Type 0
Clear b o =
    (b.y + 56 ≤ o.y) ⊎ ((o.y + 56 ≤ b.y) ⊎ ((b.y ≡ o.y) × ((b.x + 104 ≤ o.x) ⊎ (o.x + 104 ≤ b.x))))

pub clear_apart : (w : ℕ) (b o : Rect) → IsBox w b → IsBox w o → Clear b o → Apart b o
clear_apart w b o x z (inl le) = let h = x.high in inr (inr (inl (omega (arith, h, le))))
clear_apart w b o x z (inr (inl le)) = let h = z.high in inr (inr (inr (omega (arith, h, le))))
clear_apart w b o x z (inr (inr (e, inl le))) = let h = x.wide in inl (omega (arith, h, le))
clear_apart w b o x z (inr (inr (e, inr le))) = let h = z.wide in inr (inl (omega (arith, h, le)))

pub cells_clear : (p : Plan) (y : ℕ) (c d : Cell) → Differ c d → Clear (box_at p y c) (box_at p y d)
cells_clear p y c d (inl lt) = inl (omega (arith, lt))
cells_clear p y c d (inr (inl lt)) = inr (inl (omega (arith, lt)))
cells_clear p y c d (inr (inr (e, (f, inl lt)))) = inr (inr (ap (λ r. y + 56 * r) e, inl (omega (arith, f, lt))))
cells_clear p y c d (inr (inr (e, (f, inr lt)))) = inr (inr (ap (λ r. y + 56 * r) e, inr (omega (arith, f, lt))))

pub other_way : (b o : Rect) → Clear b o → Clear o b
other_way b o (inl le) = inr (inl le)
other_way b o (inr (inl le)) = inl le
other_way b o (inr (inr (e, inl le))) = inr (inr (sym e, inr le))
other_way b o (inr (inr (e, inr le))) = inr (inr (sym e, inl le))

-- ---- the lines to a box above the centre, and to one below it

pub up_off : (p : Plan) (b o : Rect) → IsBox (page_width p) b → IsBox (page_width p) o → (o.y + 48 ≤ centre_y p) ⊎ (centre_y p + 48 ≤ o.y) → Clear b o →
    KeepsOff (line_points (line_up p b)) o
up_off p b o x z far clear =
    let l = z.left in
    (level far, (inl (omega (arith, l), omega (arith, l)), (rail clear, (stub clear, tt))))
  where
    level : (o.y + 48 ≤ centre_y p) ⊎ (centre_y p + 48 ≤ o.y) → Misses o (axis p - 60) (centre_y p + 16) 130 (centre_y p + 16)
    level (inl le) = let oh = z.high in inr (inr (inr (omega (arith, oh, le), omega (arith, oh, le))))
    level (inr le) = inr (inr (inl (omega (arith, le), omega (arith, le))))

    rail : Clear b o → Misses o 130 (b.y + 42) (b.x + 44) (b.y + 42)
    rail (inl le) = inr (inr (inl (omega (arith, le), omega (arith, le))))
    rail (inr (inl le)) = let oh = z.high in inr (inr (inr (omega (arith, oh, le), omega (arith, oh, le))))
    rail (inr (inr (e, s))) = let oh = z.high in inr (inr (inr (omega (arith, oh, e), omega (arith, oh, e))))

    stub : Clear b o → Misses o (b.x + 44) (b.y + 42) (b.x + 44) (b.y + 32)
    stub (inl le) = inr (inr (inl (omega (arith, le), omega (arith, le))))
    stub (inr (inl le)) = let oh = z.high in inr (inr (inr (omega (arith, oh, le), omega (arith, oh, le))))
    stub (inr (inr (e, inl le))) = inl (omega (arith, le), omega (arith, le))
    stub (inr (inr (e, inr le))) = let ow = z.wide in inr (inl (omega (arith, ow, le), omega (arith, ow, le)))

pub down_off : (p : Plan) (b o : Rect) → IsBox (page_width p) b → IsBox (page_width p) o → 10 ≤ b.y → (o.y + 48 ≤ centre_y p) ⊎ (centre_y p + 48 ≤ o.y) →
    Clear b o → KeepsOff (line_points (line_down p b)) o
down_off p b o x z low far clear =
    let l = z.left in
    (level far, (inl (omega (arith, l), omega (arith, l)), (rail clear, (stub clear, tt))))
  where
    level : (o.y + 48 ≤ centre_y p) ⊎ (centre_y p + 48 ≤ o.y) → Misses o (axis p - 60) (centre_y p + 16) 130 (centre_y p + 16)
    level (inl le) = let oh = z.high in inr (inr (inr (omega (arith, oh, le), omega (arith, oh, le))))
    level (inr le) = inr (inr (inl (omega (arith, le), omega (arith, le))))

    rail : Clear b o → Misses o 130 (b.y - 10) (b.x + 44) (b.y - 10)
    rail (inl le) = inr (inr (inl (omega (arith, le), omega (arith, le))))
    rail (inr (inl le)) = let oh = z.high in inr (inr (inr (omega (arith, oh, le), omega (arith, oh, le))))
    rail (inr (inr (e, s))) = inr (inr (inl (omega (arith, low, e), omega (arith, low, e))))

    stub : Clear b o → Misses o (b.x + 44) (b.y - 10) (b.x + 44) b.y
    stub (inl le) = inr (inr (inl (omega (arith, le), omega (arith, le))))
    stub (inr (inl le)) = let oh = z.high in inr (inr (inr (omega (arith, oh, le), omega (arith, oh, le))))
    stub (inr (inr (e, inl le))) = inl (omega (arith, le), omega (arith, le))
    stub (inr (inr (e, inr le))) = let ow = z.wide in inr (inl (omega (arith, ow, le), omega (arith, ow, le)))

-- ---- they join the centre with their box

pub up_joins : (p : Plan) (b : Rect) → 3 ≤ p.columns → IsBox (page_width p) b → b.y + 48 ≤ centre_y p → LeadsBetween (line_points (line_up p b)) (centre_box p) b
up_joins p b some x le =
    let l = x.left in
    let w = x.wide in
    let h = x.high in
    record {
      begins = inl (inl refl, (omega arith, omega arith));
      ends = inr (inr (omega (arith, h)), (omega arith, omega (arith, w)));
      outside_one = (
        inl (omega arith, omega (arith, some)),
        (inl (omega (arith, some), omega (arith, some)), (inr (inr (inl (omega (arith, le), omega (arith, le)))), (inr (inr (inl (omega (arith, le), omega (arith, le)))), tt))),
      );
      outside_other = (
        inr (inr (inr (omega (arith, h, le), omega (arith, h, le)))),
        (inl (omega (arith, l), omega (arith, l)), (inr (inr (inr (omega (arith, h), omega (arith, h)))), (inr (inr (inr (omega (arith, h), omega (arith, h)))), tt))),
      );
    }

pub down_joins : (p : Plan) (b : Rect) → 3 ≤ p.columns → IsBox (page_width p) b → centre_y p + 48 ≤ b.y → LeadsBetween (line_points (line_down p b)) (centre_box p) b
down_joins p b some x le =
    let l = x.left in
    let w = x.wide in
    record {
      begins = inl (inl refl, (omega arith, omega arith));
      ends = inr (inl refl, (omega arith, omega (arith, w)));
      outside_one = (
        inl (omega arith, omega (arith, some)),
        (inl (omega (arith, some), omega (arith, some)), (inr (inr (inr (omega (arith, le), omega (arith, le)))), (inr (inr (inr (omega (arith, le), omega (arith, le)))), tt))),
      );
      outside_other = (
        inr (inr (inl (omega (arith, le), omega (arith, le)))),
        (inl (omega (arith, l), omega (arith, l)), (inr (inr (inl (omega arith, omega arith))), (inr (inr (inl (omega arith, omega arith))), tt))),
      );
    }

pub off_centre : (p : Plan) (o : Rect) → IsBox (page_width p) o → (o.y + 48 ≤ centre_y p) ⊎ (centre_y p + 48 ≤ o.y) → Apart (centre_box p) o
off_centre p o z (inl le) = let h = z.high in inr (inr (inr (omega (arith, h, le))))
off_centre p o z (inr le) = inr (inr (inl (omega (arith, le))))

-- ---- on the page

pub up_within : (p : Plan) (b : Rect) (height : ℕ) → IsBox (page_width p) b → b.y + 48 ≤ centre_y p → centre_y p + 48 ≤ height → LineWithin (page_width p) height (line_points (line_up p b))
up_within p b height x le low =
    let r = x.right in
    let s : axis p - 60 ≤ page_width p = omega arith in
    let t : 130 ≤ page_width p = omega arith in
    let e : b.x + 44 ≤ page_width p = omega (arith, r) in
    let a : centre_y p + 16 ≤ height = omega (arith, low) in
    let c : b.y + 42 ≤ height = omega (arith, le, low) in
    let d : b.y + 32 ≤ height = omega (arith, le, low) in
    ((s, t, a, a), ((t, t, a, c), ((t, e, c, c), ((e, e, c, d), tt))))

pub down_within : (p : Plan) (b : Rect) (height : ℕ) → IsBox (page_width p) b → centre_y p + 48 ≤ b.y → b.y + 32 ≤ height → LineWithin (page_width p) height (line_points (line_down p b))
down_within p b height x le low =
    let r = x.right in
    let s : axis p - 60 ≤ page_width p = omega arith in
    let t : 130 ≤ page_width p = omega arith in
    let e : b.x + 44 ≤ page_width p = omega (arith, r) in
    let a : centre_y p + 16 ≤ height = omega (arith, le, low) in
    let c : b.y - 10 ≤ height = omega (arith, low) in
    let d : b.y ≤ height = omega (arith, low) in
    ((s, t, a, a), ((t, t, a, c), ((t, e, c, c), ((e, e, c, d), tt))))
