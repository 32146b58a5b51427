-- Where the boxes of a page stand, group by group.
use Rattle.std.proofs.Common.{◌≡◌, ℕ, ◌+◌, ◌-◌, ◌*◌, ◌<◌, ◌≤◌, ◌⊎◌, inl, inr, min, refl, sym, ap, ◌∙◌, subst, arith, lt-ltb, le-ltb}
use Rattle.std.proofs.lemmas.Bool.{cases_order}
use Rattle.drawing.specs.declared.page.Rect.{Rect}
use Rattle.drawing.specs.declared.page.Plan.{Plan}
use Rattle.drawing.specs.declared.page.Cell.{Cell}
use Rattle.drawing.specs.declared.page.Spot.{Spot}
use Rattle.drawing.specs.Page.{band_y, box_at, cell_above, cell_of, centre_box, centre_y, customers_y, flat_cell, high_box, line_up, line_down, line_points}
use Rattle.drawing.specs.Page.{page_height, page_width, peers_y, rows_above, rows_of, spot_above, spot_below, spot_beside, spot_of}
use Rattle.drawing.specs.Tidy.{Apart, KeepsOffOthers, LeadsBetween, Within, LineWithin}
use Rattle.drawing.proofs.Cells.{Differ, cells_differ, count_few, flats_differ, seat_of}
use Rattle.drawing.proofs.Geometry.{IsBox, box_is, Clear, cells_clear, other_way, up_off, down_off, up_joins, down_joins, off_centre, up_within, down_within}

pub cases_lt : (a b : ℕ) → (a < b) ⊎ (b ≤ a)
cases_lt a b = elim (cases_order a b) [ inl e ↦ inr (omega (arith, e)) | inr o ↦ elim o [ inl l ↦ inl l | inr g ↦ inr (omega (arith, g)) ] ]

-- the plan has room for its rows
pub record IsRoomy (p : Plan) : Type 0 where
  pub some : 3 ≤ p.columns
  pub flat : 0 < p.further → p.above ≤ p.columns
  pub deep : p.further ≡ 0 → min 8 p.above ≤ p.columns
  pub beside : min 8 p.beside ≤ p.columns
  pub below : min 8 p.below ≤ p.columns

-- there are further generations, or none
generations_or_not : (p : Plan) → (0 < p.further) ⊎ (p.further ≡ 0)
generations_or_not p = elim (cases_lt 0 p.further) [ inl lt ↦ inl lt | inr le ↦ inr (omega (arith, le)) ]

-- ---- the rows of the providers

flat_rows : (p : Plan) → 0 < p.further → rows_above p ≡ 1
flat_rows p lt = rw (lt-ltb 0 p.further lt) refl

deep_rows : (p : Plan) → p.further ≡ 0 → rows_above p ≡ rows_of p.above
deep_rows p e = rw e refl

flat_above : (p : Plan) (i : ℕ) → 0 < p.further → cell_above p i ≡ flat_cell p.above 0 i
flat_above p i lt = rw (lt-ltb 0 p.further lt) refl

deep_above : (p : Plan) (i : ℕ) → p.further ≡ 0 → cell_above p i ≡ cell_of p.above i
deep_above p i e = rw e refl

pub some_rows : (p : Plan) → 1 ≤ rows_above p
some_rows p = elim (generations_or_not p) [
  | inl lt ↦ let e = flat_rows p lt in omega (arith, e)
  | inr z ↦ let e = deep_rows p z in omega (arith, e)
]

pub row_above : (p : Plan) (i : ℕ) → i < p.above → (cell_above p i).row < rows_above p
row_above p i lt = elim (generations_or_not p) [
  | inl f ↦ let e = flat_rows p f in let c = ap (λ x. x.row) (flat_above p i f) in omega (arith, e, c)
  | inr z ↦ let e = deep_rows p z in let c = ap (λ x. x.row) (deep_above p i z) in let s = (seat_of p.above i lt).within in omega (arith, e, c, s)
]

differ_above : (p : Plan) (i j : ℕ) → i < j → Differ (cell_above p i) (cell_above p j)
differ_above p i j lt = elim (generations_or_not p) [
  | inl f ↦ subst (λ c. Differ c (cell_above p j)) (sym (flat_above p i f)) (subst (λ d. Differ (flat_cell p.above 0 i) d) (sym (flat_above p j f)) (flats_differ p.above 0 i j lt))
  | inr z ↦ subst (λ c. Differ c (cell_above p j)) (sym (deep_above p i z)) (subst (λ d. Differ (cell_of p.above i) d) (sym (deep_above p j z)) (cells_differ p.above i j lt))
]

-- ---- any box of a page on which generation r has f r boxes

pub record IsHigh (f : ℕ → ℕ) (to : ℕ) (c : Cell) : Type 0 where
  pub there : c.place < c.count
  pub count : c.count ≡ f c.row
  pub low : c.row ≤ to

pub data Placed (p : Plan) (f : ℕ → ℕ) (b : Rect) : Type 0 where
  high : (c : Cell) → 0 < p.further → IsHigh f p.further c → c.count ≤ p.columns → b ≡ high_box p c → Placed p f b
  above : (i : ℕ) → p.further ≡ 0 → i < p.above → b ≡ box_at p (band_y p 0 + 12) (cell_of p.above i) → Placed p f b
  beside : (i : ℕ) → i < p.beside → b ≡ box_at p (peers_y p + 20) (cell_of p.beside i) → Placed p f b
  below : (i : ℕ) → i < p.below → b ≡ box_at p (customers_y p + 20) (cell_of p.below i) → Placed p f b

pub box_of : (p : Plan) (f : ℕ → ℕ) (b : Rect) → IsRoomy p → Placed p f b → IsBox (page_width p) b
box_of p f b room (high c deep x few e) = subst (IsBox (page_width p)) (sym e) (box_is p (band_y p c.row + 12) (record c { row = 0 }) x.there few)
box_of p f b room (above i z lt e) =
    let few = count_few p.above i in
    let r = room.deep z in
    subst (IsBox (page_width p)) (sym e) (box_is p (band_y p 0 + 12) (cell_of p.above i) (seat_of p.above i lt).there (omega (arith, few, r)))
box_of p f b room (beside i lt e) =
    let few = count_few p.beside i in
    let r = room.beside in
    subst (IsBox (page_width p)) (sym e) (box_is p (peers_y p + 20) (cell_of p.beside i) (seat_of p.beside i lt).there (omega (arith, few, r)))
box_of p f b room (below i lt e) =
    let few = count_few p.below i in
    let r = room.below in
    subst (IsBox (page_width p)) (sym e) (box_is p (customers_y p + 20) (cell_of p.below i) (seat_of p.below i lt).there (omega (arith, few, r)))

-- it stands above the centre or below
pub far_off : (p : Plan) (f : ℕ → ℕ) (b : Rect) → Placed p f b → (b.y + 48 ≤ centre_y p) ⊎ (centre_y p + 48 ≤ b.y)
far_off p f b (high c deep x few e) =
    let one = some_rows p in
    let y = ap (λ o. o.y) e in
    inl (omega (arith, one, y))
far_off p f b (above i z lt e) =
    let rows = deep_rows p z in
    let s = (seat_of p.above i lt).within in
    let y = ap (λ o. o.y) e in
    inl (omega (arith, rows, s, y))
far_off p f b (beside i lt e) = let y = ap (λ o. o.y) e in inr (omega (arith, y))
far_off p f b (below i lt e) = let y = ap (λ o. o.y) e in inr (omega (arith, y))

-- and on the page
pub on_page : (p : Plan) (f : ℕ → ℕ) (b : Rect) → Placed p f b → (76 ≤ b.y) × (b.y + 42 ≤ page_height p)
on_page p f b (high c deep x few e) =
    let one = some_rows p in
    let y = ap (λ o. o.y) e in (omega (arith, y), omega (arith, one, y))
on_page p f b (above i z lt e) =
    let rows = deep_rows p z in
    let s = (seat_of p.above i lt).within in
    let y = ap (λ o. o.y) e in (omega (arith, y), omega (arith, rows, s, y))
on_page p f b (beside i lt e) =
    let s = (seat_of p.beside i lt).within in
    let y = ap (λ o. o.y) e in (omega (arith, y), omega (arith, s, y))
on_page p f b (below i lt e) =
    let s = (seat_of p.below i lt).within in
    let y = ap (λ o. o.y) e in (omega (arith, y), omega (arith, s, y))

-- ---- two boxes: the same, or clear of each other

carry : {b o x y : Rect} → b ≡ x → o ≡ y → (y ≡ x) ⊎ Clear x y → (o ≡ b) ⊎ Clear b o
carry e g (inl same) = inl (g ∙ same ∙ sym e)
carry {b} {o} {x} {y} e g (inr clear) = inr (subst (λ u. Clear u o) (sym e) (subst (λ v. Clear x v) (sym g) clear))

in_group : (p : Plan) (y n i j : ℕ) → (box_at p y (cell_of n j) ≡ box_at p y (cell_of n i)) ⊎ Clear (box_at p y (cell_of n i)) (box_at p y (cell_of n j))
in_group p y n i j = elim (cases_order i j) [
  | inl e ↦ inl (ap (λ k. box_at p y (cell_of n k)) (sym e))
  | inr o ↦ elim o [
    | inl lt ↦ inr (cells_clear p y (cell_of n i) (cell_of n j) (cells_differ n i j lt))
    | inr gt ↦ inr (other_way (box_at p y (cell_of n j)) (box_at p y (cell_of n i)) (cells_clear p y (cell_of n j) (cell_of n i) (cells_differ n j i gt)))
  ]
]

same_high : (p : Plan) (n j r m l s : ℕ) → n ≡ m → j ≡ l → r ≡ s → high_box p (record { count = m; place = l; row = s }) ≡ high_box p (record { count = n; place = j; row = r })
same_high p n j r m l s e f g =
    ap (λ k. high_box p (record { count = k; place = l; row = s })) (sym e) ∙ ap (λ k. high_box p (record { count = n; place = k; row = s })) (sym f)
    ∙ ap (λ k. high_box p (record { count = n; place = j; row = k })) (sym g)

pub high_pair : (p : Plan) (f : ℕ → ℕ) (c d : Cell) → IsHigh f p.further c → IsHigh f p.further d → (high_box p d ≡ high_box p c) ⊎ Clear (high_box p c) (high_box p d)
high_pair p f c d x z = elim (cases_order c.row d.row) [
  | inl e ↦ level e (x.count ∙ ap f e ∙ sym z.count) (cases_order c.place d.place)
  | inr o ↦ elim o [
    | inl lt ↦ let l = z.low in inr (inr (inl (omega (arith, lt, l))))
    | inr gt ↦ let l = x.low in inr (inl (omega (arith, gt, l)))
  ]
]
  where
    level : c.row ≡ d.row → c.count ≡ d.count → (c.place ≡ d.place) ⊎ ((c.place < d.place) ⊎ (d.place < c.place)) →
        (high_box p d ≡ high_box p c) ⊎ Clear (high_box p c) (high_box p d)
    level e n (inl same) = inl (same_high p c.count c.place c.row d.count d.place d.row n same e)
    level e n (inr (inl lt)) = inr (inr (inr (ap (λ r. (76 + 104 * (p.further - r) + 12) + 56 * 0) e, inl (omega (arith, n, lt)))))
    level e n (inr (inr gt)) = inr (inr (inr (ap (λ r. (76 + 104 * (p.further - r) + 12) + 56 * 0) e, inr (omega (arith, n, gt)))))

pub same_or_clear : (p : Plan) (f : ℕ → ℕ) (b o : Rect) → Placed p f b → Placed p f o → (o ≡ b) ⊎ Clear b o
same_or_clear p f b o (high c deep x few e) (high d deep' z few' g) = carry e g (high_pair p f c d x z)
same_or_clear p f b o (high c deep x few e) (above i z lt g) = absurd (omega (arith, deep, z))
same_or_clear p f b o (high c deep x few e) (beside i lt g) =
    let one = some_rows p in let y = ap (λ o. o.y) e in let u = ap (λ o. o.y) g in inr (inl (omega (arith, one, y, u)))
same_or_clear p f b o (high c deep x few e) (below i lt g) =
    let one = some_rows p in let y = ap (λ o. o.y) e in let u = ap (λ o. o.y) g in inr (inl (omega (arith, one, y, u)))
same_or_clear p f b o (above i z lt e) (high c deep x few g) = absurd (omega (arith, deep, z))
same_or_clear p f b o (above i z lt e) (above j z' lt' g) = carry e g (in_group p (band_y p 0 + 12) p.above i j)
same_or_clear p f b o (above i z lt e) (beside j lt' g) =
    let rows = deep_rows p z in let s = (seat_of p.above i lt).within in let y = ap (λ o. o.y) e in let u = ap (λ o. o.y) g in inr (inl (omega (arith, rows, s, y, u)))
same_or_clear p f b o (above i z lt e) (below j lt' g) =
    let rows = deep_rows p z in let s = (seat_of p.above i lt).within in let y = ap (λ o. o.y) e in let u = ap (λ o. o.y) g in inr (inl (omega (arith, rows, s, y, u)))
same_or_clear p f b o (beside i lt e) (high c deep x few g) =
    let one = some_rows p in let y = ap (λ o. o.y) e in let u = ap (λ o. o.y) g in inr (inr (inl (omega (arith, one, y, u))))
same_or_clear p f b o (beside i lt e) (above j z lt' g) =
    let rows = deep_rows p z in let s = (seat_of p.above j lt').within in let y = ap (λ o. o.y) e in let u = ap (λ o. o.y) g in inr (inr (inl (omega (arith, rows, s, y, u))))
same_or_clear p f b o (beside i lt e) (beside j lt' g) = carry e g (in_group p (peers_y p + 20) p.beside i j)
same_or_clear p f b o (beside i lt e) (below j lt' g) =
    let s = (seat_of p.beside i lt).within in let y = ap (λ o. o.y) e in let u = ap (λ o. o.y) g in inr (inl (omega (arith, s, y, u)))
same_or_clear p f b o (below i lt e) (high c deep x few g) =
    let one = some_rows p in let y = ap (λ o. o.y) e in let u = ap (λ o. o.y) g in inr (inr (inl (omega (arith, one, y, u))))
same_or_clear p f b o (below i lt e) (above j z lt' g) =
    let rows = deep_rows p z in let s = (seat_of p.above j lt').within in let y = ap (λ o. o.y) e in let u = ap (λ o. o.y) g in inr (inr (inl (omega (arith, rows, s, y, u))))
same_or_clear p f b o (below i lt e) (beside j lt' g) =
    let s = (seat_of p.beside j lt').within in let y = ap (λ o. o.y) e in let u = ap (λ o. o.y) g in inr (inr (inl (omega (arith, s, y, u))))
same_or_clear p f b o (below i lt e) (below j lt' g) = carry e g (in_group p (customers_y p + 20) p.below i j)

-- ---- the spots of a plan

abbrev pub all_boxes : Plan → ℕ
all_boxes p = p.above + p.beside + p.below

-- which group box k belongs to
pub data Seat (p : Plan) (k : ℕ) : Type 0 where
  first : k < p.above → spot_of p k ≡ spot_above p k → Seat p k
  second : (i : ℕ) → k ≡ p.above + i → i < p.beside → spot_of p k ≡ spot_beside p i → Seat p k
  third : (i : ℕ) → k ≡ p.above + p.beside + i → i < p.below → spot_of p k ≡ spot_below p i → Seat p k

pub seated : (p : Plan) (k : ℕ) → k < all_boxes p → Seat p k
seated p k lt =
    elim (cases_lt k p.above) [
      | inl few ↦ first few (rw (lt-ltb k p.above few) refl)
      | inr many ↦ elim (cases_lt k (p.above + p.beside)) [
        | inl few ↦ second (k - p.above) (omega (arith, many)) (omega (arith, many, few)) (rw (le-ltb k p.above many, lt-ltb k (p.above + p.beside) few) refl)
        | inr more ↦ third (k - (p.above + p.beside)) (omega (arith, more)) (omega (arith, lt, more)) (rw (le-ltb k p.above many, le-ltb k (p.above + p.beside) more) refl)
      ]
    ]

placed_above : (p : Plan) (f : ℕ → ℕ) (i : ℕ) → IsRoomy p → f 0 ≡ p.above → i < p.above → Placed p f (spot_above p i).at
placed_above p f i room same lt = elim (generations_or_not p) [
  | inl deep ↦ high (flat_cell p.above 0 i) deep (record { there = lt; count = sym same; low = omega arith }) (room.flat deep)
      (ap (λ c. box_at p (band_y p 0 + 12) c) (flat_above p i deep))
  | inr z ↦ above i z lt (ap (λ c. box_at p (band_y p 0 + 12) c) (deep_above p i z))
]

pub placed : (p : Plan) (f : ℕ → ℕ) (k : ℕ) → IsRoomy p → f 0 ≡ p.above → Seat p k → Placed p f (spot_of p k).at
placed p f k room same (first lt e) = subst (λ s. Placed p f s.at) (sym e) (placed_above p f k room same lt)
placed p f k room same (second i n lt e) = beside i lt (ap (λ s. s.at) e)
placed p f k room same (third i n lt e) = below i lt (ap (λ s. s.at) e)

-- what is said of one spot
pub record IsFine (p : Plan) (f : ℕ → ℕ) (s : Spot) : Type 0 where
  pub box : Within (page_width p) (page_height p) s.at
  pub line : LineWithin (page_width p) (page_height p) (line_points s.line)
  pub apart : Apart (centre_box p) s.at
  pub joins : LeadsBetween (line_points s.line) (centre_box p) s.at
  pub others : (o : Rect) → Placed p f o → KeepsOffOthers (line_points s.line) (centre_box p) s.at o

low_centre : (p : Plan) → centre_y p + 48 ≤ page_height p
low_centre p = omega arith

fine_up : (p : Plan) (f : ℕ → ℕ) (s : Spot) → IsRoomy p → Placed p f s.at → s.line ≡ line_up p s.at → s.at.y + 48 ≤ centre_y p → IsFine p f s
fine_up p f s room x e le =
    let b = box_of p f s.at room x in
    let page = on_page p f s.at x in
    let r = b.right in
    let w = b.wide in
    let h = b.high in
    let low = page.1 in
    record {
      box = (omega (arith, r, w), omega (arith, h, low));
      line = subst (λ l. LineWithin (page_width p) (page_height p) (line_points l)) (sym e) (up_within p s.at (page_height p) b le (low_centre p));
      apart = off_centre p s.at b (inl le);
      joins = subst (λ l. LeadsBetween (line_points l) (centre_box p) s.at) (sym e) (up_joins p s.at room.some b le);
      others = λ o z. subst (λ l. KeepsOffOthers (line_points l) (centre_box p) s.at o) (sym e) (elim (same_or_clear p f s.at o x z) [
        | inl same ↦ inr (inl same)
        | inr clear ↦ inr (inr (up_off p s.at o b (box_of p f o room z) (far_off p f o z) clear))
      ]);
    }

fine_down : (p : Plan) (f : ℕ → ℕ) (s : Spot) → IsRoomy p → Placed p f s.at → s.line ≡ line_down p s.at → centre_y p + 48 ≤ s.at.y → IsFine p f s
fine_down p f s room x e le =
    let b = box_of p f s.at room x in
    let page = on_page p f s.at x in
    let r = b.right in
    let w = b.wide in
    let h = b.high in
    let low = page.1 in
    let top = page.0 in
    record {
      box = (omega (arith, r, w), omega (arith, h, low));
      line = subst (λ l. LineWithin (page_width p) (page_height p) (line_points l)) (sym e) (down_within p s.at (page_height p) b le (omega (arith, low)));
      apart = off_centre p s.at b (inr le);
      joins = subst (λ l. LeadsBetween (line_points l) (centre_box p) s.at) (sym e) (down_joins p s.at room.some b le);
      others = λ o z. subst (λ l. KeepsOffOthers (line_points l) (centre_box p) s.at o) (sym e) (elim (same_or_clear p f s.at o x z) [
        | inl same ↦ inr (inl same)
        | inr clear ↦ inr (inr (down_off p s.at o b (box_of p f o room z) (omega (arith, top)) (far_off p f o z) clear))
      ]);
    }

pub fine : (p : Plan) (f : ℕ → ℕ) (k : ℕ) → IsRoomy p → f 0 ≡ p.above → Seat p k → IsFine p f (spot_of p k)
fine p f k room same (first lt e) =
    let row = row_above p k lt in
    subst (IsFine p f) (sym e) (fine_up p f (spot_above p k) room (placed_above p f k room same lt) refl (omega (arith, row)))
fine p f k room same (second i n lt e) = subst (IsFine p f) (sym e) (fine_down p f (spot_beside p i) room (beside i lt refl) refl (omega arith))
fine p f k room same (third i n lt e) = subst (IsFine p f) (sym e) (fine_down p f (spot_below p i) room (below i lt refl) refl (omega arith))

-- two of them are clear of each other
move : (p : Plan) (k j : ℕ) (s t : Spot) → spot_of p k ≡ s → spot_of p j ≡ t → Clear s.at t.at → Clear (spot_of p k).at (spot_of p j).at
move p k j s t e g clear = subst (λ u. Clear u.at (spot_of p j).at) (sym e) (subst (λ v. Clear s.at v.at) (sym g) clear)

pub two_clear : (p : Plan) (k j : ℕ) → k < j → Seat p k → Seat p j → Clear (spot_of p k).at (spot_of p j).at
two_clear p k j lt (first few e) (first few' g) = move p k j (spot_above p k) (spot_above p j) e g (cells_clear p (band_y p 0 + 12) (cell_above p k) (cell_above p j) (differ_above p k j lt))
two_clear p k j lt (first few e) (second i n few' g) = let row = row_above p k few in move p k j (spot_above p k) (spot_beside p i) e g (inl (omega (arith, row)))
two_clear p k j lt (first few e) (third i n few' g) = let row = row_above p k few in move p k j (spot_above p k) (spot_below p i) e g (inl (omega (arith, row)))
two_clear p k j lt (second h m few e) (first few' g) = absurd (omega (arith, lt, m, few'))
two_clear p k j lt (second h m few e) (second i n few' g) =
    move p k j (spot_beside p h) (spot_beside p i) e g (cells_clear p (peers_y p + 20) (cell_of p.beside h) (cell_of p.beside i) (cells_differ p.beside h i (omega (arith, lt, m, n))))
two_clear p k j lt (second h m few e) (third i n few' g) =
    let s = (seat_of p.beside h few).within in move p k j (spot_beside p h) (spot_below p i) e g (inl (omega (arith, s)))
two_clear p k j lt (third h m few e) (first few' g) = absurd (omega (arith, lt, m, few'))
two_clear p k j lt (third h m few e) (second i n few' g) = absurd (omega (arith, lt, m, n, few'))
two_clear p k j lt (third h m few e) (third i n few' g) =
    move p k j (spot_below p h) (spot_below p i) e g (cells_clear p (customers_y p + 20) (cell_of p.below h) (cell_of p.below i) (cells_differ p.below h i (omega (arith, lt, m, n))))

-- one of them and a box of a further generation
pub clear_of_high : (p : Plan) (k : ℕ) (c : Cell) → 1 ≤ c.row → c.row ≤ p.further → Seat p k → Clear (spot_of p k).at (high_box p c)
clear_of_high p k c up le (first few e) = subst (λ u. Clear u.at (high_box p c)) (sym e) (inr (inl (omega (arith, up, le))))
clear_of_high p k c up le (second i n few e) = let one = some_rows p in subst (λ u. Clear u.at (high_box p c)) (sym e) (inr (inl (omega (arith, up, le, one))))
clear_of_high p k c up le (third i n few e) = let one = some_rows p in subst (λ u. Clear u.at (high_box p c)) (sym e) (inr (inl (omega (arith, up, le, one))))
