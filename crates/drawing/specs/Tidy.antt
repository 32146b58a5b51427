-- What makes a picture readable: boxes that keep apart, and lines that keep off the boxes that they do not join.
use Rattle.std.specs.Prelude.{◌≡◌, ℕ, ◌+◌, ◌<◌, ◌≤◌, ◌⊎◌, List, [], ◌∷◌, ◌++◌, map, All}
use Rattle.std.specs.List.{AllPairs, Any}
use Rattle.drawing.specs.declared.group.Group.{Group}
use Rattle.drawing.specs.declared.page.Rect.{Rect}
use Rattle.drawing.specs.declared.drawing.Band.{Band}
use Rattle.drawing.specs.declared.drawing.Drawing.{Drawing}
use Rattle.drawing.specs.Page.{line_points, slant_points}

-- the box or the band lies on a page of this width and height
abbrev pub Within : ℕ → ℕ → Rect → Type 0
Within width height b = (b.x + b.width ≤ width) × (b.y + b.height ≤ height)

-- one lies in the other
abbrev pub LiesIn : Rect → Rect → Type 0
LiesIn b c = (c.x ≤ b.x) × (b.x + b.width ≤ c.x + c.width) × (c.y ≤ b.y) × (b.y + b.height ≤ c.y + c.height)

-- 40 pixels lie between the bands
abbrev pub FarApart : Band → Band → Type 0
FarApart b c = (b.at.y + b.at.height + 40 ≤ c.at.y) ⊎ (c.at.y + c.at.height + 40 ≤ b.at.y)

-- the boxes have no point in common
abbrev pub Apart : Rect → Rect → Type 0
Apart b c = (b.x + b.width < c.x) ⊎ ((c.x + c.width < b.x) ⊎ ((b.y + b.height < c.y) ⊎ (c.y + c.height < b.y)))

-- ---- a straight part of a line, from (x, y) to (u, v)

-- it has no point in common with the box
abbrev pub Misses : Rect → ℕ → ℕ → ℕ → ℕ → Type 0
Misses b x y u v =
    ((x < b.x) × (u < b.x)) ⊎ (((b.x + b.width < x) × (b.x + b.width < u)) ⊎ (
    ((y < b.y) × (v < b.y)) ⊎ ((b.y + b.height < y) × (b.y + b.height < v))))

-- it has no point inside the box, though maybe on its border
abbrev pub StaysOutside : Rect → ℕ → ℕ → ℕ → ℕ → Type 0
StaysOutside b x y u v =
    ((x ≤ b.x) × (u ≤ b.x)) ⊎ (((b.x + b.width ≤ x) × (b.x + b.width ≤ u)) ⊎ (
    ((y ≤ b.y) × (v ≤ b.y)) ⊎ ((b.y + b.height ≤ y) × (b.y + b.height ≤ v))))

-- each part of the line through these points does
abbrev pub AllParts : (ℕ → ℕ → ℕ → ℕ → Type 0) → List (ℕ × ℕ) → Type 0
AllParts P [] = Unit {0}
AllParts P (p ∷ []) = Unit {0}
AllParts P (p ∷ q ∷ ps) = P p.0 p.1 q.0 q.1 × AllParts P (q ∷ ps)

-- ---- lines and boxes

-- the line keeps off the box
abbrev pub KeepsOff : List (ℕ × ℕ) → Rect → Type 0
KeepsOff l b = AllParts (Misses b) l

-- the point stands on the border of the box
abbrev pub OnBorder : Rect → ℕ × ℕ → Type 0
OnBorder b (x, y) =
    (((x ≡ b.x) ⊎ (x ≡ b.x + b.width)) × ((b.y ≤ y) × (y ≤ b.y + b.height)))
    ⊎ (((y ≡ b.y) ⊎ (y ≡ b.y + b.height)) × ((b.x ≤ x) × (x ≤ b.x + b.width)))

-- where a line begins and ends
abbrev pub first_point : List (ℕ × ℕ) → ℕ × ℕ
first_point [] = (0, 0)
first_point (p ∷ ps) = p

abbrev pub last_point : List (ℕ × ℕ) → ℕ × ℕ
last_point [] = (0, 0)
last_point (p ∷ []) = p
last_point (p ∷ q ∷ ps) = last_point (q ∷ ps)

-- the line leads from the border of one box to that of the other, and through neither of them
pub record LeadsBetween (l : List (ℕ × ℕ)) (b c : Rect) : Type 0 where
  pub begins : OnBorder b (first_point l)
  pub ends : OnBorder c (last_point l)
  pub outside_one : AllParts (StaysOutside b) l
  pub outside_other : AllParts (StaysOutside c) l

-- each part of it lies on a page of this width and height
abbrev pub LineWithin : ℕ → ℕ → List (ℕ × ℕ) → Type 0
LineWithin width height l = AllParts (λ x y u v. (x ≤ width) × (u ≤ width) × (y ≤ height) × (v ≤ height)) l

-- the line keeps off the box, unless it is one of these two
abbrev pub KeepsOffOthers : List (ℕ × ℕ) → Rect → Rect → Rect → Type 0
KeepsOffOthers l b c o = (o ≡ b) ⊎ ((o ≡ c) ⊎ KeepsOff l o)

abbrev pub boxes_of : Drawing → List Rect
boxes_of d = d.centre ∷ (map (λ i. i.at) d.items ++ map (λ q. q.at) d.posts)

pub record IsTidy (d : Drawing) : Type 0 where
  -- all bands, boxes and lines lie on the page
  pub bands_within : All (λ b. Within d.width d.height b.at) d.bands
  pub centre_within : Within d.width d.height d.centre
  pub boxes_within : All (λ i. Within d.width d.height i.at) d.items
  pub posts_within : All (λ q. Within d.width d.height q.at) d.posts
  pub lines_within : All (λ i. LineWithin d.width d.height (line_points i.line)) d.items
  pub links_within : All (λ l. LineWithin d.width d.height (slant_points l.line)) d.links
  -- there is room between any two bands, and each neighbour stands in that of its group
  pub bands_apart : AllPairs FarApart d.bands
  pub in_bands : All (λ i. Any (λ b. (b.group ≡ i.group) × LiesIn i.at b.at) d.bands) d.items
  pub posts_in_bands : All (λ q. Any (λ b. (b.group ≡ Group.Providers) × LiesIn q.at b.at) d.bands) d.posts
  -- no two boxes have a point in common
  pub apart : AllPairs Apart (boxes_of d)
  -- each line joins its two boxes, of which the centre is one for a neighbour, and keeps off all others
  pub joining : All (λ i. LeadsBetween (line_points i.line) d.centre i.at) d.items
  pub links_joining : All (λ l. LeadsBetween (slant_points l.line) l.lower l.upper) d.links
  pub keeping_off : All (λ i. All (KeepsOffOthers (line_points i.line) d.centre i.at) (boxes_of d)) d.items
  pub links_keeping_off : All (λ l. All (KeepsOffOthers (slant_points l.line) l.lower l.upper) (boxes_of d)) d.links
