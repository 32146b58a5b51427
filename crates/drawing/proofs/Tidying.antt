-- A picture is tidy.
use Rattle.std.proofs.Common.{◌≡◌, ℕ, zero, suc, ◌+◌, ◌-◌, ◌*◌, ◌<◌, ◌≤◌, List, [], ◌∷◌, ◌++◌, length, get_or, map, inl, inr, refl, sym, ap, subst, arith, All, length-append, lt-ltb}
use Rattle.std.specs.List.{AllPairs, Any, enumerate_from}
use Rattle.std.proofs.lemmas.List.Elements.{All-append, All-cons, All-nil, All-map}
use Rattle.std.proofs.lemmas.List.Kept.{AllPairs-cons}
use Rattle.result_text.specs.declared.file.EdgeLine.{EdgeLine}
use Rattle.drawing.specs.declared.group.Group.{Group}
use Rattle.drawing.specs.declared.group.Neighbour.{Neighbour}
use Rattle.drawing.specs.declared.group.NeighbourCounts.{NeighbourCounts}
use Rattle.drawing.specs.declared.page.Plan.{Plan}
use Rattle.drawing.specs.declared.page.Rect.{Rect}
use Rattle.drawing.specs.declared.page.Cell.{Cell}
use Rattle.drawing.specs.declared.tower.Perch.{Perch}
use Rattle.drawing.specs.declared.tower.Tie.{Tie}
use Rattle.drawing.specs.declared.drawing.Band.{Band}
use Rattle.drawing.specs.declared.drawing.BoxEntry.{BoxEntry}
use Rattle.drawing.specs.declared.drawing.Item.{Item}
use Rattle.drawing.specs.Entries.{box_entries}
use Rattle.drawing.specs.Page.{band_y, centre_box, customers_y, high_box, page_height, page_width, peers_y, rows_above, rows_of, slant_of, slant_points, spot_of, line_points}
use Rattle.drawing.specs.Picture.{HasCells, bands_of, high_band, item_of, items_of, near_band, post_of, link_of, columns_of, plan_of, drawing_with, drawing_by}
use Rattle.drawing.specs.Generations.{perches, rising_ties, sizes, widest}
use Rattle.drawing.specs.Tidy.{IsTidy, Within, LiesIn, LineWithin, Apart, FarApart, LeadsBetween, KeepsOffOthers, boxes_of}
use Rattle.drawing.proofs.Cells.{seat_of}
use Rattle.drawing.proofs.Geometry.{IsBox, Clear, clear_apart, off_centre}
use Rattle.drawing.proofs.Rising.{Rises, rises}
use Rattle.drawing.proofs.Seats.{IsRoomy, IsHigh, IsFine, Placed, high, Seat, first, second, third, all_boxes, box_of, clear_of_high, far_off, fine, placed, seated, some_rows, two_clear}
use Rattle.drawing.proofs.Seats.{on_page, row_above}
use Rattle.std.proofs.lemmas.Bool.{cases_order}
use Rattle.drawing.proofs.Numbered.{numbered_at, numbered_each, numbered_pairs, length-numbered, pairs_append, pairs_map}
use Rattle.drawing.proofs.Perching.{CellsDiffer, IsPerch, IsRise, counts, counts_first, counts_few, all_high, all_differ, all_rise, none_deep, sizes_many}

-- ---- one of a list

any_here : {X : Type 0} (P : X → Type 0) (x : X) (xs : List X) → P x → Any P (x ∷ xs)
any_here P x xs h = (0, x, omega arith, refl, h)

any_cons : {X : Type 0} (P : X → Type 0) (x : X) (xs : List X) → Any P xs → Any P (x ∷ xs)
any_cons P x xs (k, y, lt, e, h) = (suc k, y, omega (arith, lt), e, h)

any_behind : {X : Type 0} (P : X → Type 0) (xs ys : List X) → Any P ys → Any P (xs ++ ys)
any_behind P [] ys there = there
any_behind P (x ∷ xs) ys there = any_cons P x (xs ++ ys) (any_behind P xs ys there)

any_before : {X : Type 0} (P : X → Type 0) (xs ys : List X) → Any P xs → Any P (xs ++ ys)
any_before P [] ys (k, y, lt, e, h) = absurd (omega (arith, lt))
any_before P (x ∷ xs) ys (zero, y, lt, e, h) = (0, y, omega arith, e, h)
any_before P (x ∷ xs) ys (suc k, y, lt, e, h) = any_cons P x (xs ++ ys) (any_before P xs ys (k, y, omega (arith, lt), e, h))

-- a box lies in a band
abbrev wide_band : ℕ → ℕ → ℕ → Rect
wide_band w y h = record { x = 8; y = y; width = w - 16; height = h }

lies : (w : ℕ) (b : Rect) (y h : ℕ) → IsBox w b → y ≤ b.y → b.y + 32 ≤ y + h → LiesIn b (wide_band w y h)
lies w b y h x le le' =
    let l = x.left in let r = x.right in let wide = x.wide in let high = x.high in (omega (arith, l), omega (arith, r, wide), le, omega (arith, high, le'))

-- three of a list
three : {X : Type 0} (P : X → Type 0) (x y z : X) → P x → P y → P z → All P (x ∷ y ∷ z ∷ [])
three P x y z a b c = All-cons P x (y ∷ z ∷ []) a (All-cons P y (z ∷ []) b (All-cons P z [] c (All-nil P)))

three_pairs : {X : Type 0} (R : X → X → Type 0) (x y z : X) → R x y → R x z → R y z → AllPairs R (x ∷ y ∷ z ∷ [])
three_pairs R x y z a b c =
    AllPairs-cons R x (y ∷ z ∷ []) (All-cons (R x) y (z ∷ []) a (All-cons (R x) z [] b (All-nil (R x))))
    (AllPairs-cons R y (z ∷ []) (All-cons (R y) z [] c (All-nil (R y))) (AllPairs-cons R z [] (All-nil (R z)) (λ i j d less lt. absurd (omega (arith, lt)))))

-- the band lies on the page
abbrev Fits : Plan → Band → Type 0
Fits p b = Within (page_width p) (page_height p) b.at

-- ---- what stands above the providers

pub record IsAbove (p : Plan) (f : ℕ → ℕ) (boxes : List Perch) (lines : List Tie) : Type 0 where
  pub room : IsRoomy p
  pub first : f 0 ≡ p.above
  pub few : (r : ℕ) → r ≤ p.further → 0 < p.further → f r ≤ p.columns
  pub high : All (λ q. IsPerch f p.further q.cell) boxes
  pub differ : AllPairs (λ q u. CellsDiffer q.cell u.cell) boxes
  pub rise : All (IsRise f p.further) lines

module _ (p : Plan) (f : ℕ → ℕ) (boxes : List Perch) (lines : List Tie) (above : IsAbove p f boxes lines) where
  deep_of : (c : Cell) → IsPerch f p.further c → 0 < p.further
  deep_of c x = let low = x.high.low in let up = x.up in omega (arith, low, up)

  count_few : (c : Cell) → IsHigh f p.further c → 0 < p.further → c.count ≤ p.columns
  count_few c x deep = let few = above.few c.row x.low deep in let e = x.count in omega (arith, few, e)

  perch_placed : (c : Cell) → IsPerch f p.further c → Placed p f (high_box p c)
  perch_placed c x = let deep = deep_of c x in high c deep x.high (count_few c x.high deep) refl

  fine_at : (k : ℕ) → k < all_boxes p → IsFine p f (spot_of p k)
  fine_at k lt = fine p f k above.room above.first (seated p k lt)

  placed_at : (k : ℕ) → k < all_boxes p → Placed p f (spot_of p k).at
  placed_at k lt = placed p f k above.room above.first (seated p k lt)

  -- ---- all boxes

  -- what holds of the centre and of all boxes of groups and generations
  each_box : (es : List BoxEntry) (P : Rect → Type 0) → length es ≡ all_boxes p → P (centre_box p) → ((o : Rect) → Placed p f o → P o) →
      All P (centre_box p ∷ (map (λ i. i.at) (items_of p es) ++ map (λ q. q.at) (map (post_of p) boxes)))
  each_box es P same centre holds =
      All-cons P (centre_box p) (map (λ i. i.at) (items_of p es) ++ map (λ q. q.at) (map (post_of p) boxes)) centre
      (All-append P (map (λ i. i.at) (items_of p es)) (map (λ q. q.at) (map (post_of p) boxes))
      (All-map P (λ i. i.at) (items_of p es) (numbered_each (item_of p) es (λ i. i.entry) (λ i. P i.at)
      (λ k e lt. holds (spot_of p k).at (placed_at k (subst (λ n. k < n) same lt)))))
      (All-map P (λ q. q.at) (map (post_of p) boxes) (All-map (λ q. P q.at) (post_of p) boxes
      (λ k d lt. holds (high_box p (get_or boxes k d).cell) (perch_placed (get_or boxes k d).cell (above.high k d lt))))))

  -- what is said of one item follows from what is said of its spot
  each_item : (es : List BoxEntry) (P : Item → Type 0) → length es ≡ all_boxes p →
      ((k : ℕ) (e : BoxEntry) → k < all_boxes p → P (item_of p (k, e))) → All P (items_of p es)
  each_item es P same holds = numbered_each (item_of p) es (λ i. i.entry) P (λ k e lt. holds k e (subst (λ n. k < n) same lt))

  apart_of : (b o : Rect) → Placed p f b → Placed p f o → Clear b o → Apart b o
  apart_of b o x z clear = clear_apart (page_width p) b o (box_of p f b above.room x) (box_of p f o above.room z) clear

  -- no two boxes have a point in common
  items_apart : (es : List BoxEntry) → length es ≡ all_boxes p → AllPairs Apart (map (λ i. i.at) (items_of p es))
  items_apart es same =
      pairs_map Apart (λ i. i.at) (items_of p es)
      (numbered_pairs (item_of p) es (λ i. i.entry) (λ i j. Apart i.at j.at) (λ k j e g less lt.
      let few : j < all_boxes p = subst (λ n. j < n) same lt in
      let fewer : k < all_boxes p = omega (arith, less, few) in
      apart_of (spot_of p k).at (spot_of p j).at (placed_at k fewer) (placed_at j few) (two_clear p k j less (seated p k fewer) (seated p j few))))

  cells_clear_of : (c d : Cell) → IsPerch f p.further c → IsPerch f p.further d → CellsDiffer c d → Clear (high_box p c) (high_box p d)
  cells_clear_of c d x z (inl lt) = let low = z.high.low in inr (inl (omega (arith, lt, low)))
  cells_clear_of c d x z (inr (inl gt)) = let low = x.high.low in inl (omega (arith, gt, low))
  cells_clear_of c d x z (inr (inr (e, (n, inl lt)))) = inr (inr (ap (λ r. (76 + 104 * (p.further - r) + 12) + 56 * 0) e, inl (omega (arith, n, lt))))
  cells_clear_of c d x z (inr (inr (e, (n, inr gt)))) = inr (inr (ap (λ r. (76 + 104 * (p.further - r) + 12) + 56 * 0) e, inr (omega (arith, n, gt))))

  posts_apart : AllPairs Apart (map (λ q. q.at) (map (post_of p) boxes))
  posts_apart =
      pairs_map Apart (λ q. q.at) (map (post_of p) boxes) (pairs_map (λ q u. Apart q.at u.at) (post_of p) boxes (λ i j d less lt.
      let c = (get_or boxes i d).cell in
      let e = (get_or boxes j d).cell in
      let x = above.high i d (omega (arith, less, lt)) in
      let z = above.high j d lt in
      apart_of (high_box p c) (high_box p e) (perch_placed c x) (perch_placed e z) (cells_clear_of c e x z (above.differ i j d less lt))))

  items_off_posts : (es : List BoxEntry) → length es ≡ all_boxes p →
      All (λ b. All (Apart b) (map (λ q. q.at) (map (post_of p) boxes))) (map (λ i. i.at) (items_of p es))
  items_off_posts es same =
      All-map (λ b. All (Apart b) (map (λ q. q.at) (map (post_of p) boxes))) (λ i. i.at) (items_of p es)
      (each_item es (λ i. All (Apart i.at) (map (λ q. q.at) (map (post_of p) boxes))) same (λ k e lt.
      All-map (Apart (spot_of p k).at) (λ q. q.at) (map (post_of p) boxes) (All-map (λ q. Apart (spot_of p k).at q.at) (post_of p) boxes
      (λ j d few.
      let c = (get_or boxes j d).cell in
      let x = above.high j d few in
      apart_of (spot_of p k).at (high_box p c) (placed_at k lt) (perch_placed c x) (clear_of_high p k c x.up x.high.low (seated p k lt))))))

  centre_off : (es : List BoxEntry) → length es ≡ all_boxes p →
      All (Apart (centre_box p)) (map (λ i. i.at) (items_of p es) ++ map (λ q. q.at) (map (post_of p) boxes))
  centre_off es same =
      All-append (Apart (centre_box p)) (map (λ i. i.at) (items_of p es)) (map (λ q. q.at) (map (post_of p) boxes))
      (All-map (Apart (centre_box p)) (λ i. i.at) (items_of p es) (each_item es (λ i. Apart (centre_box p) i.at) same (λ k e lt. (fine_at k lt).apart)))
      (All-map (Apart (centre_box p)) (λ q. q.at) (map (post_of p) boxes) (All-map (λ q. Apart (centre_box p) q.at) (post_of p) boxes
      (λ j d few.
      let b = high_box p (get_or boxes j d).cell in
      let x = perch_placed (get_or boxes j d).cell (above.high j d few) in
      off_centre p b (box_of p f b above.room x) (far_off p f b x))))

  boxes_apart : (es : List BoxEntry) → length es ≡ all_boxes p →
      AllPairs Apart (centre_box p ∷ (map (λ i. i.at) (items_of p es) ++ map (λ q. q.at) (map (post_of p) boxes)))
  boxes_apart es same =
      AllPairs-cons Apart (centre_box p) (map (λ i. i.at) (items_of p es) ++ map (λ q. q.at) (map (post_of p) boxes)) (centre_off es same)
      (pairs_append Apart (map (λ i. i.at) (items_of p es)) (map (λ q. q.at) (map (post_of p) boxes)) (items_apart es same) posts_apart (items_off_posts es same))

  -- ---- lines between further boxes

  rises_at : (t : Tie) → IsRise f p.further t → Rises p f t.lower t.upper
  rises_at t x =
      let deep = none_deep x in
      rises p f t.lower t.upper above.room deep x.lower x.upper (count_few t.lower x.lower deep) (count_few t.upper x.upper deep) x.up

  -- ---- bands

  bands_fit : (c : NeighbourCounts) (many : List ℕ) → length many ≡ p.further → All (Fits p) (bands_of p c many)
  bands_fit c many same =
      let one = some_rows p in
      All-append (Fits p) (map (high_band p) (enumerate_from 0 many)) _
      (numbered_each (high_band p) many (λ b. b.all) (Fits p) (λ k n lt. (omega arith, omega (arith, one, lt, same))))
      (three (Fits p) (near_band p (band_y p 0) (rows_above p) Group.Providers c.providers) (near_band p (peers_y p) (rows_of p.beside) Group.Peers c.peers)
      (near_band p (customers_y p) (rows_of p.below) Group.Customers c.customers) (omega arith, omega arith) (omega arith, omega arith) (omega arith, omega arith))

  bands_far : (c : NeighbourCounts) (many : List ℕ) → length many ≡ p.further → AllPairs FarApart (bands_of p c many)
  bands_far c many same =
      let one = some_rows p in
      let first = near_band p (band_y p 0) (rows_above p) Group.Providers c.providers in
      let second = near_band p (peers_y p) (rows_of p.beside) Group.Peers c.peers in
      let third = near_band p (customers_y p) (rows_of p.below) Group.Customers c.customers in
      pairs_append FarApart (map (high_band p) (enumerate_from 0 many)) (first ∷ second ∷ third ∷ [])
      (numbered_pairs (high_band p) many (λ b. b.all) FarApart (λ k j n m less lt. inr (omega (arith, less, lt, same))))
      (three_pairs FarApart first second third (inl (omega (arith, one))) (inl (omega (arith, one))) (inl (omega arith)))
      (numbered_each (high_band p) many (λ b. b.all) (λ b. All (FarApart b) (first ∷ second ∷ third ∷ [])) (λ k n lt.
      three (FarApart (high_band p (k, n))) first second third (inl (omega (arith, lt, same))) (inl (omega (arith, lt, same, one))) (inl (omega (arith, lt, same, one)))))

  post_band : (c : NeighbourCounts) (many : List ℕ) → length many ≡ p.further → (cell : Cell) → IsPerch f p.further cell →
      Any (λ b. (b.group ≡ Group.Providers) × LiesIn (high_box p cell) b.at) (bands_of p c many)
  post_band c many same cell x =
      let k = cell.row - 1 in
      let up = x.up in
      let low = x.high.low in
      let lt : k < length many = omega (arith, same, up, low) in
      let n = get_or many k 0 in
      let long = length-numbered (high_band p) many in
      let is : (k + 1) ≡ cell.row = omega (arith, up) in
      any_before (λ b. (b.group ≡ Group.Providers) × LiesIn (high_box p cell) b.at) (map (high_band p) (enumerate_from 0 many)) _ (
        k,
        high_band p (k, n),
        omega (arith, long, lt),
        numbered_at (high_band p) many k 0 (high_band p (k, n)) lt,
        (refl, lies (page_width p) (high_box p cell) (band_y p (k + 1)) 64 (box_of p f (high_box p cell) above.room (perch_placed cell x)) (omega (arith, is)) (omega (arith, is))),
      )

  item_band : (c : NeighbourCounts) (many : List ℕ) (k : ℕ) → k < all_boxes p → Any (λ b. (b.group ≡ (spot_of p k).group) × LiesIn (spot_of p k).at b.at) (bands_of p c many)
  item_band c many k lt = any_behind In (map (high_band p) (enumerate_from 0 many)) (one ∷ two ∷ last_one ∷ []) (by (seated p k lt))
    where
      In : Band → Type 0
      In b = (b.group ≡ (spot_of p k).group) × LiesIn (spot_of p k).at b.at

      one : Band
      one = near_band p (band_y p 0) (rows_above p) Group.Providers c.providers

      two : Band
      two = near_band p (peers_y p) (rows_of p.beside) Group.Peers c.peers

      last_one : Band
      last_one = near_band p (customers_y p) (rows_of p.below) Group.Customers c.customers

      box : IsBox (page_width p) (spot_of p k).at
      box = box_of p f (spot_of p k).at above.room (placed_at k lt)

      by : Seat p k → Any In (one ∷ two ∷ last_one ∷ [])
      by (first few e) =
          let y = ap (λ s. s.at.y) e in
          let row = row_above p k few in
          any_here In one (two ∷ last_one ∷ []) (
            sym (ap (λ s. s.group) e),
            lies (page_width p) (spot_of p k).at (band_y p 0) (56 * rows_above p + 8) box (omega (arith, y)) (omega (arith, y, row)),
          )
      by (second i n few e) =
          let y = ap (λ s. s.at.y) e in
          let row = (seat_of p.beside i few).within in
          any_cons In one (two ∷ last_one ∷ []) (any_here In two (last_one ∷ []) (
            sym (ap (λ s. s.group) e),
            lies (page_width p) (spot_of p k).at (peers_y p) (56 * rows_of p.beside + 8) box (omega (arith, y)) (omega (arith, y, row)),
          ))
      by (third i n few e) =
          let y = ap (λ s. s.at.y) e in
          let row = (seat_of p.below i few).within in
          any_cons In one (two ∷ last_one ∷ []) (any_cons In two (last_one ∷ []) (any_here In last_one [] (
            sym (ap (λ s. s.group) e),
            lies (page_width p) (spot_of p k).at (customers_y p) (56 * rows_of p.below + 8) box (omega (arith, y)) (omega (arith, y, row)),
          )))

  -- ---- the whole

  pub tidy_with : (a : ℕ) (c : NeighbourCounts) (es : List BoxEntry) (many : List ℕ) → length es ≡ all_boxes p → length many ≡ p.further →
      IsTidy (drawing_with a c p es many boxes lines)
  tidy_with a c es many same deep =
      let all = boxes_of (drawing_with a c p es many boxes lines) in
      record {
        bands_within = bands_fit c many deep;
        centre_within = (omega arith, omega arith);
        boxes_within = each_item es (λ i. Within (page_width p) (page_height p) i.at) same (λ k e lt. (fine_at k lt).box);
        posts_within = All-map (λ q. Within (page_width p) (page_height p) q.at) (post_of p) boxes (λ k d lt.
            let cell = (get_or boxes k d).cell in
            let x = perch_placed cell (above.high k d lt) in
            let b = box_of p f (high_box p cell) above.room x in
            let page = on_page p f (high_box p cell) x in
            let r = b.right in
            let low = page.1 in
            (omega (arith, r), omega (arith, low)));
        lines_within = each_item es (λ i. LineWithin (page_width p) (page_height p) (line_points i.line)) same (λ k e lt. (fine_at k lt).line);
        links_within = All-map (λ l. LineWithin (page_width p) (page_height p) (slant_points l.line)) (link_of p) lines (λ k d lt.
            (rises_at (get_or lines k d) (above.rise k d lt)).within);
        bands_apart = bands_far c many deep;
        in_bands = each_item es (λ i. Any (λ b. (b.group ≡ i.group) × LiesIn i.at b.at) (bands_of p c many)) same (λ k e lt. item_band c many k lt);
        posts_in_bands = All-map (λ q. Any (λ b. (b.group ≡ Group.Providers) × LiesIn q.at b.at) (bands_of p c many)) (post_of p) boxes (λ k d lt.
            post_band c many deep (get_or boxes k d).cell (above.high k d lt));
        apart = boxes_apart es same;
        joining = each_item es (λ i. LeadsBetween (line_points i.line) (centre_box p) i.at) same (λ k e lt. (fine_at k lt).joins);
        links_joining = All-map (λ l. LeadsBetween (slant_points l.line) l.lower l.upper) (link_of p) lines (λ k d lt.
            (rises_at (get_or lines k d) (above.rise k d lt)).joins);
        keeping_off = each_item es (λ i. All (KeepsOffOthers (line_points i.line) (centre_box p) i.at) all) same (λ k e lt.
            each_box es (KeepsOffOthers (line_points (spot_of p k).line) (centre_box p) (spot_of p k).at) same (inl refl) ((fine_at k lt).others));
        links_keeping_off = All-map (λ l. All (KeepsOffOthers (slant_points l.line) l.lower l.upper) all) (link_of p) lines (λ k d lt.
            let t = get_or lines k d in
            let x = rises_at t (above.rise k d lt) in
            each_box es (KeepsOffOthers (slant_points (slant_of p t.lower t.upper)) (high_box p t.lower) (high_box p t.upper)) same (inr (inr x.off_centre)) x.others);
      }

  -- the boxes and lines stand in cells of the page
  pub cells_with : HasCells p boxes lines
  cells_with = record {
    boxes_are = λ k d lt.
        let x = above.high k d lt in
        record { there = x.high.there; few = count_few _ x.high (deep_of _ x); low = x.high.low };
    lower_are = λ k d lt. let x = above.rise k d lt in record { there = x.lower.there; few = count_few _ x.lower (none_deep x); low = x.lower.low };
    upper_are = λ k d lt. let x = above.rise k d lt in record { there = x.upper.there; few = count_few _ x.upper (none_deep x); low = x.upper.low };
  }

-- ---- the picture of an AS

three_parts : (xs ys zs : List BoxEntry) → length (xs ++ (ys ++ zs)) ≡ length xs + length ys + length zs
three_parts xs ys zs = let a = length-append xs (ys ++ zs) in let b = length-append ys zs in omega (arith, a, b)

abbrev pub plan_with : ℕ → List Neighbour → List Neighbour → List Neighbour → List (List Neighbour) → Plan
plan_with most ps qs cs gs = plan_of (box_entries most ps) (box_entries most qs) (box_entries most cs) (length gs) (widest most gs)

room_of : (above beside below further wide : ℕ) → IsRoomy (record {
  columns = columns_of above beside below further wide;
  above = above;
  beside = beside;
  below = below;
  further = further;
})
room_of above beside below further wide = record {
  some = omega arith;
  flat = λ lt. rw (lt-ltb 0 further lt) (omega arith);
  deep = λ e. rw e (omega arith);
  beside = omega arith;
  below = omega arith;
}

wide_enough : (above beside below further wide : ℕ) → wide ≤ columns_of above beside below further wide
wide_enough above beside below further wide = omega arith

above_of : (edges : List EdgeLine) (most : ℕ) (ps qs cs : List Neighbour) (gs : List (List Neighbour)) →
    IsAbove (plan_with most ps qs cs gs) (counts most ps gs) (perches most gs) (rising_ties edges most ps gs)
above_of edges most ps qs cs gs =
    let x = length (box_entries most ps) in
    let y = length (box_entries most qs) in
    let z = length (box_entries most cs) in
    let room = room_of x y z (length gs) (widest most gs) in
    let wide = wide_enough x y z (length gs) (widest most gs) in
    record {
      room = room;
      first = counts_first most ps gs;
      few = λ r le deep. elim (cases_order r 0) [
        | inl e ↦ subst (λ k. counts most ps gs k ≤ columns_of x y z (length gs) (widest most gs)) (sym e)
            (subst (λ n. n ≤ columns_of x y z (length gs) (widest most gs)) (sym (counts_first most ps gs)) (room.flat deep))
        | inr o ↦ elim o [
          | inl lt ↦ absurd (omega (arith, lt))
          | inr gt ↦ let few = counts_few most ps gs r (omega (arith, gt)) le in omega (arith, few, wide)
        ]
      ];
      high = all_high most ps gs;
      differ = all_differ most ps gs;
      rise = all_rise edges most ps gs;
    }

pub cells_are : (edges : List EdgeLine) (most : ℕ) (ps qs cs : List Neighbour) (gs : List (List Neighbour)) →
    HasCells (plan_with most ps qs cs gs) (perches most gs) (rising_ties edges most ps gs)
cells_are edges most ps qs cs gs =
    cells_with (plan_with most ps qs cs gs) (counts most ps gs) (perches most gs) (rising_ties edges most ps gs) (above_of edges most ps qs cs gs)

pub drawing_tidy : (edges : List EdgeLine) (a most : ℕ) (ps qs cs : List Neighbour) (gs : List (List Neighbour)) → IsTidy (drawing_by edges a most ps qs cs gs)
drawing_tidy edges a most ps qs cs gs =
    tidy_with (plan_with most ps qs cs gs) (counts most ps gs) (perches most gs) (rising_ties edges most ps gs) (above_of edges most ps qs cs gs)
    a _ (box_entries most ps ++ (box_entries most qs ++ box_entries most cs)) (sizes gs) (three_parts (box_entries most ps) (box_entries most qs) (box_entries most cs)) (sizes_many gs)
