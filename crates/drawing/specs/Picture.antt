-- The picture of one AS with its neighbours, as data.
use Rattle.std.specs.Prelude.{◌≡◌, ℕ, ◌+◌, ◌-◌, List, [], ◌∷◌, ◌++◌, length, map, All, min, max, nat_lt, if◌then◌else◌}
use Rattle.std.specs.List.{enumerate_from}
use Rattle.result_text.specs.declared.file.EdgeLine.{EdgeLine}
use Rattle.drawing.specs.declared.group.Group.{Group}
use Rattle.drawing.specs.declared.group.Neighbour.{Neighbour}
use Rattle.drawing.specs.declared.group.Tally.{Tally}
use Rattle.drawing.specs.declared.group.NeighbourCounts.{NeighbourCounts}
use Rattle.drawing.specs.declared.page.Plan.{Plan}
use Rattle.drawing.specs.declared.tower.Perch.{Perch}
use Rattle.drawing.specs.declared.tower.Tie.{Tie}
use Rattle.drawing.specs.declared.drawing.BoxEntry.{BoxEntry}
use Rattle.drawing.specs.declared.drawing.Item.{Item}
use Rattle.drawing.specs.declared.drawing.Post.{Post}
use Rattle.drawing.specs.declared.drawing.RisingLine.{RisingLine}
use Rattle.drawing.specs.declared.drawing.Drawing.{Drawing}
use Rattle.drawing.specs.declared.drawing.Band.{Band}
use Rattle.drawing.specs.declared.drawing.BandPart.TheVariants as part
use Rattle.drawing.specs.Neighbours.{SortedNeighbours, counts_of, tally, near_numbers}
use Rattle.drawing.specs.Entries.{box_entries}
use Rattle.drawing.specs.Generations.{AreGenerations, perches, rising_ties, sizes, widest}
use Rattle.drawing.specs.Page.{rows_of, rows_above, spot_of, centre_box, page_width, page_height, band_at, band_y, peers_y, customers_y}
use Rattle.drawing.specs.Page.{high_box, slant_of, IsCell}

-- ---- boxes and lines

abbrev pub item_of : Plan → ℕ × BoxEntry → Item
item_of p (k, e) =
    let s = spot_of p k in
    record { entry = e; group = s.group; at = s.at; line = s.line }

abbrev pub items_of : Plan → List BoxEntry → List Item
items_of p entries = map (item_of p) (enumerate_from 0 entries)

-- a box of a further generation, and a line to one
abbrev pub post_of : Plan → Perch → Post
post_of p q = record { entry = q.entry; at = high_box p q.cell }

abbrev pub link_of : Plan → Tie → RisingLine
link_of p t = record { lower = high_box p t.lower; upper = high_box p t.upper; line = slant_of p t.lower t.upper; mark = t.mark }

-- ---- bands

-- a further generation of so many ASes, which stands behind so many of them
abbrev pub high_band : Plan → ℕ × ℕ → Band
high_band p (i, n) =
    record { at = band_at p (band_y p (i + 1)) 1; group = Group.Providers; all = n; part = part.StepsUp (i + 2) }

-- those near the AS
abbrev pub near_band : Plan → ℕ → ℕ → Group → Tally → Band
near_band p y rows g t = record { at = band_at p y rows; group = g; all = t.all; part = part.Forced t.forced }

abbrev pub bands_of : Plan → NeighbourCounts → List ℕ → List Band
bands_of p c many =
    map (high_band p) (enumerate_from 0 many) ++ (
    near_band p (band_y p 0) (rows_above p) Group.Providers c.providers
    ∷ near_band p (peers_y p) (rows_of p.beside) Group.Peers c.peers
    ∷ near_band p (customers_y p) (rows_of p.below) Group.Customers c.customers ∷ [])

-- ---- the whole

-- these boxes and lines stand in cells of the page
pub record HasCells (p : Plan) (boxes : List Perch) (lines : List Tie) : Type 0 where
  pub boxes_are : All (λ q. IsCell p q.cell) boxes
  pub lower_are : All (λ t. IsCell p t.lower) lines
  pub upper_are : All (λ t. IsCell p t.upper) lines

-- as many columns as the widest row has boxes, and three at least
abbrev pub columns_of : ℕ → ℕ → ℕ → ℕ → ℕ → ℕ
columns_of above beside below further wide =
    max 3 (max (if nat_lt 0 further then above else min 8 above) (max (min 8 beside) (max (min 8 below) wide)))

-- with so many further generations, of which the widest has so many boxes
abbrev pub plan_of : List BoxEntry → List BoxEntry → List BoxEntry → ℕ → ℕ → Plan
plan_of above beside below further wide = record {
  columns = columns_of (length above) (length beside) (length below) further wide;
  above = length above;
  beside = length beside;
  below = length below;
  further = further;
}

-- the picture with these boxes and lines
abbrev pub drawing_with : ℕ → NeighbourCounts → Plan → List BoxEntry → List ℕ → List Perch → List Tie → Drawing
drawing_with a counts p entries many boxes lines = record {
  asked = a;
  counts = counts;
  width = page_width p;
  height = page_height p;
  centre = centre_box p;
  bands = bands_of p counts many;
  items = items_of p entries;
  posts = map (post_of p) boxes;
  links = map (link_of p) lines;
}

-- the picture of AS a with these neighbours, and so many further generations of these sizes with these boxes and lines above it
abbrev pub drawing_from : ℕ → ℕ → List Neighbour → List Neighbour → List Neighbour → ℕ → ℕ → List ℕ → List Perch → List Tie → Drawing
drawing_from a most providers peers customers further wide many boxes lines =
    let above = box_entries most providers in
    let beside = box_entries most peers in
    let below = box_entries most customers in
    let counts : NeighbourCounts = record { providers = tally providers; peers = tally peers; customers = tally customers } in
    drawing_with a counts (plan_of above beside below further wide) (above ++ (beside ++ below)) many boxes lines

-- the same with these generations above its providers
abbrev pub drawing_by : List EdgeLine → ℕ → ℕ → List Neighbour → List Neighbour → List Neighbour → List (List Neighbour) → Drawing
drawing_by edges a most providers peers customers further =
    drawing_from a most providers peers customers
    (length further) (widest most further) (sizes further) (perches most further) (rising_ties edges most providers further)

-- d is the picture of AS a with these neighbours, and with generations after the edges up to the depth
pub record IsDrawn (edges : List EdgeLine) (a most depth : ℕ) (providers peers customers : List Neighbour) (d : Drawing) : Type 0 where
  pub further : List (List Neighbour)
  pub are : AreGenerations edges most providers (near_numbers a providers peers customers) further
  pub deep : length further ≡ depth - 1
  pub is : d ≡ drawing_by edges a most providers peers customers further

-- d is the picture of AS a after the edges, with so many neighbours of each group and so many ASes of each generation at most, and with
-- generations of providers up to the depth; its counts are those of the edges
pub record IsDrawingOf (edges : List EdgeLine) (a most depth : ℕ) (d : Drawing) : Type 0 where
  pub providers : List Neighbour
  pub peers : List Neighbour
  pub customers : List Neighbour
  pub providers_are : SortedNeighbours a Group.Providers edges providers
  pub peers_are : SortedNeighbours a Group.Peers edges peers
  pub customers_are : SortedNeighbours a Group.Customers edges customers
  pub is : IsDrawn edges a most depth providers peers customers d
  pub counted : d.counts ≡ counts_of a edges
