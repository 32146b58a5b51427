-- Where boxes, bands and lines stand on the page, in pixels: x grows to the right and y downwards. From the top there are a heading, a band
-- for each further generation, the band of the providers, the box of the AS that is asked for, the band of its peers and that of its
-- customers. In a band boxes stand in rows about one axis. The lines to the neighbours leave the AS at its left, and run in one trunk left of
-- all boxes and in a rail beside each row.
use Rattle.std.specs.Prelude.{ℕ, ◌+◌, ◌-◌, ◌*◌, ◌/◌, ◌%◌, ◌<◌, ◌≤◌, Bool, List, [], ◌∷◌, min, max, nat_lt, if◌then◌else◌}
use Rattle.drawing.specs.declared.group.Group.{Group}
use Rattle.drawing.specs.declared.page.Rect.{Rect}
use Rattle.drawing.specs.declared.page.PageLine.{PageLine}
use Rattle.drawing.specs.declared.page.Slant.{Slant}
use Rattle.drawing.specs.declared.page.Spot.{Spot}
use Rattle.drawing.specs.declared.page.Plan.{Plan}
use Rattle.drawing.specs.declared.page.Cell.{Cell}

-- ---- rows

-- how many rows n boxes fill, eight in a row; a band has one at least
abbrev pub rows_of : ℕ → ℕ
rows_of n = max 1 ((n + 7) / 8)

-- the cell of box i of n
abbrev pub cell_of : ℕ → ℕ → Cell
cell_of n i = record { count = min 8 (n - 8 * (i / 8)); place = i % 8; row = i / 8 }

-- the same where a row has all n, with this number
abbrev pub flat_cell : ℕ → ℕ → ℕ → Cell
flat_cell n row i = record { count = n; place = i; row = row }

-- the providers stand in one row if there are generations above them
abbrev pub is_one_row : Plan → Bool
is_one_row p = nat_lt 0 p.further

abbrev pub rows_above : Plan → ℕ
rows_above p = if is_one_row p then 1 else rows_of p.above

abbrev pub cell_above : Plan → ℕ → Cell
cell_above p i = if is_one_row p then flat_cell p.above 0 i else cell_of p.above i

-- ---- heights. A row takes 56 with the gap to the next one, of which a box has 32

abbrev pub band_height : ℕ → ℕ
band_height rows = 56 * rows + 8

-- the band that is so many generations above the providers
abbrev pub band_y : Plan → ℕ → ℕ
band_y p up = 76 + 104 * (p.further - up)

abbrev pub centre_y : Plan → ℕ
centre_y p = band_y p 0 + band_height (rows_above p) + 24

abbrev pub peers_y : Plan → ℕ
peers_y p = centre_y p + 56

abbrev pub customers_y : Plan → ℕ
customers_y p = peers_y p + band_height (rows_of p.beside) + 40

abbrev pub page_height : Plan → ℕ
page_height p = customers_y p + band_height (rows_of p.below) + 16

abbrev pub page_width : Plan → ℕ
page_width p = 148 + 104 * p.columns

-- ---- boxes and bands

abbrev pub band_at : Plan → ℕ → ℕ → Rect
band_at p y rows = record { x = 8; y = y; width = page_width p - 16; height = band_height rows }

-- the middle of all rows
abbrev pub axis : Plan → ℕ
axis p = 136 + 52 * p.columns

-- the box of the AS that is asked for
abbrev pub centre_box : Plan → Rect
centre_box p = record { x = axis p - 60; y = centre_y p; width = 120; height = 32 }

-- the box in a cell, if the first row of its group begins at y
abbrev pub box_at : Plan → ℕ → Cell → Rect
box_at p y c = record { x = 144 + 52 * (p.columns - c.count) + 104 * c.place; y = y + 56 * c.row; width = 88; height = 32 }

-- the box in a cell of a further generation, whose row says how far above the providers it is
abbrev pub high_box : Plan → Cell → Rect
high_box p c = box_at p (band_y p c.row + 12) (record c { row = 0 })

-- ---- lines

-- from the centre to the lower side of a box above it, or to the upper side of one below
abbrev pub line_up : Plan → Rect → PageLine
line_up p b = record {
  start_x = axis p - 60;
  start_y = centre_y p + 16;
  trunk_x = 130;
  rail_y = b.y + 42;
  end_x = b.x + 44;
  end_y = b.y + 32;
}

abbrev pub line_down : Plan → Rect → PageLine
line_down p b = record {
  start_x = axis p - 60;
  start_y = centre_y p + 16;
  trunk_x = 130;
  rail_y = b.y - 10;
  end_x = b.x + 44;
  end_y = b.y;
}

-- its points
abbrev pub line_points : PageLine → List (ℕ × ℕ)
line_points l =
    (l.start_x, l.start_y) ∷ (l.trunk_x, l.start_y) ∷ (l.trunk_x, l.rail_y) ∷ (l.end_x, l.rail_y) ∷ (l.end_x, l.end_y) ∷ []

-- a place on a side of a box for each of n, from left to right
abbrev pub place_on : Rect → ℕ → ℕ → ℕ
place_on b n i = b.x + 4 + (80 * (i + 1)) / (n + 1)

-- from the upper side of the box in one cell to the lower side of that in a cell of the next generation, with places of its own on both
abbrev pub slant_of : Plan → Cell → Cell → Slant
slant_of p lower upper = record {
  start_x = place_on (high_box p lower) upper.count upper.place;
  start_y = (high_box p lower).y;
  end_x = place_on (high_box p upper) lower.count lower.place;
  end_y = (high_box p upper).y + 32;
}

abbrev pub slant_points : Slant → List (ℕ × ℕ)
slant_points l = (l.start_x, l.start_y) ∷ (l.start_x, l.start_y - 10) ∷ (l.end_x, l.end_y + 10) ∷ (l.end_x, l.end_y) ∷ []

-- ---- spots: box i of those above, beside or below

abbrev pub spot_above : Plan → ℕ → Spot
spot_above p i = let b = box_at p (band_y p 0 + 12) (cell_above p i) in record { group = Group.Providers; at = b; line = line_up p b }

abbrev pub spot_beside : Plan → ℕ → Spot
spot_beside p i = let b = box_at p (peers_y p + 20) (cell_of p.beside i) in record { group = Group.Peers; at = b; line = line_down p b }

abbrev pub spot_below : Plan → ℕ → Spot
spot_below p i = let b = box_at p (customers_y p + 20) (cell_of p.below i) in record { group = Group.Customers; at = b; line = line_down p b }

-- the spot of box k, where those above go first, then those beside, then those below
abbrev pub spot_of : Plan → ℕ → Spot
spot_of p k =
    if nat_lt k p.above then spot_above p k else (
    if nat_lt k (p.above + p.beside) then spot_beside p (k - p.above) else
    spot_below p (k - (p.above + p.beside)))

-- ---- bounds

-- so few boxes that no number of the page leaves its type, and so many columns that each row has room
pub record IsSmall (p : Plan) : Type 0 where
  pub further : p.further ≤ 8
  pub above : p.above ≤ 2001
  pub beside : p.beside ≤ 2001
  pub below : p.below ≤ 2001
  pub some : 3 ≤ p.columns
  pub columns : p.columns ≤ 2001
  pub row_above : (if is_one_row p then p.above else min 8 p.above) ≤ p.columns
  pub row_beside : min 8 p.beside ≤ p.columns
  pub row_below : min 8 p.below ≤ p.columns

-- the cell is one of the generations above the centre
pub record IsCell (p : Plan) (c : Cell) : Type 0 where
  pub there : c.place < c.count
  pub few : c.count ≤ p.columns
  pub low : c.row ≤ p.further
