-- Lines from a box to one of the next generation.
use Rattle.std.proofs.Common.{◌≡◌, ℕ, ◌+◌, ◌-◌, ◌*◌, ◌/◌, ◌<◌, ◌≤◌, inl, inr, refl, arith}
use Rattle.std.proofs.Math.Nat.{div-le_of_le-mul}
use Rattle.drawing.specs.declared.page.Rect.{Rect}
use Rattle.drawing.specs.declared.page.Slant.{Slant}
use Rattle.drawing.specs.declared.page.Plan.{Plan}
use Rattle.drawing.specs.declared.page.Cell.{Cell}
use Rattle.drawing.specs.Page.{band_y, centre_box, centre_y, high_box, page_height, page_width, place_on, slant_of, slant_points}
use Rattle.drawing.specs.Tidy.{Misses, KeepsOff, KeepsOffOthers, LeadsBetween, LineWithin}
use Rattle.drawing.proofs.Geometry.{IsBox, Clear, box_is}
use Rattle.drawing.proofs.Seats.{IsHigh, IsRoomy, Placed, high, box_of, same_or_clear, some_rows}

-- a place on the side of a box is one
on_side : (b : Rect) (n i : ℕ) → i < n → (b.x + 4 ≤ place_on b n i) × (place_on b n i ≤ b.x + 84)
on_side b n i lt =
    let q : (80 * (i + 1)) / (n + 1) ≤ 80 = div-le_of_le-mul (n + 1) (omega (arith, lt)) in
    (omega arith, omega (arith, q))

-- ---- a line by the boxes at its ends

abbrev pub line_with : ℕ → ℕ → ℕ → ℕ → Slant
line_with sx sy ex ey = record { start_x = sx; start_y = sy; end_x = ex; end_y = ey }

pub off_clear : (w : ℕ) (b c o : Rect) (sx ex : ℕ) → IsBox w b → IsBox w c → IsBox w o → (b.x + 4 ≤ sx) × (sx ≤ b.x + 84) → (c.x + 4 ≤ ex) × (ex ≤ c.x + 84) →
    c.y + 104 ≡ b.y → Clear b o → Clear c o → KeepsOff (slant_points (line_with sx b.y ex (c.y + 32))) o
off_clear w b c o sx ex x z u one other up clear clear' = (begin clear, (middle clear clear', (end clear', tt)))
  where
    h : o.height ≡ 32
    h = u.high

    wide : o.width ≡ 88
    wide = u.wide

    begin : Clear b o → Misses o sx b.y sx (b.y - 10)
    begin (inl le) = inr (inr (inl (omega (arith, le), omega (arith, le))))
    begin (inr (inl le)) = inr (inr (inr (omega (arith, h, le), omega (arith, h, le))))
    begin (inr (inr (e, inl le))) = let s = one.1 in inl (omega (arith, le, s), omega (arith, le, s))
    begin (inr (inr (e, inr le))) = let s = one.0 in inr (inl (omega (arith, wide, le, s), omega (arith, wide, le, s)))

    middle : Clear b o → Clear c o → Misses o sx (b.y - 10) ex (c.y + 32 + 10)
    middle (inl le) d = inr (inr (inl (omega (arith, le), omega (arith, up, le))))
    middle (inr (inr (e, s))) d = inr (inr (inl (omega (arith, up, e), omega (arith, up, e))))
    middle (inr (inl le)) (inl le') = absurd (omega (arith, up, le, le'))
    middle (inr (inl le)) (inr (inl le')) = inr (inr (inr (omega (arith, h, up, le'), omega (arith, h, le'))))
    middle (inr (inl le)) (inr (inr (e, s))) = inr (inr (inr (omega (arith, h, up, e), omega (arith, h, e))))

    end : Clear c o → Misses o ex (c.y + 32 + 10) ex (c.y + 32)
    end (inl le) = inr (inr (inl (omega (arith, le), omega (arith, le))))
    end (inr (inl le)) = inr (inr (inr (omega (arith, h, le), omega (arith, h, le))))
    end (inr (inr (e, inl le))) = let s = other.1 in inl (omega (arith, le, s), omega (arith, le, s))
    end (inr (inr (e, inr le))) = let s = other.0 in inr (inl (omega (arith, wide, le, s), omega (arith, wide, le, s)))

-- ---- what is said of a line between two cells

pub record Rises (p : Plan) (f : ℕ → ℕ) (lower upper : Cell) : Type 0 where
  pub off_centre : KeepsOff (slant_points (slant_of p lower upper)) (centre_box p)
  pub joins : LeadsBetween (slant_points (slant_of p lower upper)) (high_box p lower) (high_box p upper)
  pub within : LineWithin (page_width p) (page_height p) (slant_points (slant_of p lower upper))
  pub others : (o : Rect) → Placed p f o → KeepsOffOthers (slant_points (slant_of p lower upper)) (high_box p lower) (high_box p upper) o

pub rises : (p : Plan) (f : ℕ → ℕ) (c d : Cell) → IsRoomy p → 0 < p.further → IsHigh f p.further c → IsHigh f p.further d → c.count ≤ p.columns → d.count ≤ p.columns →
    d.row ≡ c.row + 1 → Rises p f c d
rises p f c d room deep x z few few' up =
    let low = z.low in
    let one = on_side (high_box p c) d.count d.place z.there in
    let other = on_side (high_box p d) c.count c.place x.there in
    let b = box_is p (band_y p c.row + 12) (record c { row = 0 }) x.there few in
    let t = box_is p (band_y p d.row + 12) (record d { row = 0 }) z.there few' in
    let rows = some_rows p in
    let far : (high_box p d).y + 104 ≡ (high_box p c).y = omega (arith, up, low) in
    let below : (high_box p c).y + 16 < centre_y p = omega (arith, rows) in
    let br = b.right in
    let tr = t.right in
    let o0 = one.0 in
    let o1 = one.1 in
    let t0 = other.0 in
    let t1 = other.1 in
    let sx : place_on (high_box p c) d.count d.place ≤ page_width p = omega (arith, br, o1) in
    let ex : place_on (high_box p d) c.count c.place ≤ page_width p = omega (arith, tr, t1) in
    let a : (high_box p c).y ≤ page_height p = omega (arith, below) in
    let g : (high_box p c).y - 10 ≤ page_height p = omega (arith, below) in
    let h : (high_box p d).y + 32 + 10 ≤ page_height p = omega (arith, below, far) in
    let i : (high_box p d).y + 32 ≤ page_height p = omega (arith, below, far) in
    record {
      off_centre = (
        inr (inr (inl (omega (arith, below), omega (arith, below)))),
        (inr (inr (inl (omega (arith, below), omega (arith, below, far)))), (inr (inr (inl (omega (arith, below, far), omega (arith, below, far)))), tt)),
      );
      joins = record {
        begins = inr (inl refl, (omega (arith, o0), omega (arith, o1)));
        ends = inr (inr refl, (omega (arith, t0), omega (arith, t1)));
        outside_one = (
          inr (inr (inl (omega arith, omega arith))),
          (inr (inr (inl (omega arith, omega (arith, far)))), (inr (inr (inl (omega (arith, far), omega (arith, far)))), tt)),
        );
        outside_other = (
          inr (inr (inr (omega (arith, far), omega (arith, far)))),
          (inr (inr (inr (omega (arith, far), omega arith))), (inr (inr (inr (omega arith, omega arith))), tt)),
        );
      };
      within = ((sx, sx, a, g), ((sx, ex, g, h), ((ex, ex, h, i), tt)));
      others = λ o on. elim (same_or_clear p f (high_box p c) o (high c deep x few refl) on) [
        | inl same ↦ inl same
        | inr clear ↦ elim (same_or_clear p f (high_box p d) o (high d deep z few' refl) on) [
          | inl same ↦ inr (inl same)
          | inr clear' ↦ inr (inr (off_clear (page_width p) (high_box p c) (high_box p d) o (place_on (high_box p c) d.count d.place) (place_on (high_box p d) c.count c.place)
              b t (box_of p f o room on) one other far clear clear'))
        ]
      ];
    }
