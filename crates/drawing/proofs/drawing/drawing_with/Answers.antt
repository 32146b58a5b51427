use Rattle.std.proofs.Common.{◌≡◌, ℕ, List, ◌∙◌, ap}
use Rattle.drawing.specs.declared.group.NeighbourCounts.{NeighbourCounts}
use Rattle.drawing.specs.declared.page.Rect.{Rect}
use Rattle.drawing.specs.declared.drawing.Band.{Band}
use Rattle.drawing.specs.declared.drawing.Drawing.{Drawing}
use Rattle.drawing.specs.declared.drawing.Item.{Item}
use Rattle.drawing.specs.declared.drawing.RisingLine.{RisingLine}
use Rattle.drawing.specs.declared.drawing.Post.{Post}
use Rattle.drawing.specs.Picture.{bands_of}
use Rattle.drawing.proofs.drawing.drawing_with.Goals as goal

abbrev made : ℕ → NeighbourCounts → ℕ → ℕ → Rect → List Band → List Item → List Post → List RisingLine → Drawing
made a counts width height centre bands items posts links = record {
  asked = a;
  counts = counts;
  width = width;
  height = height;
  centre = centre;
  bands = bands;
  items = items;
  posts = posts;
  links = links;
}

same_made : (a : ℕ) (counts : NeighbourCounts) (w w' h h' : ℕ) (r r' : Rect) (bs bs' : List Band) (is is' : List Item) (ps ps' : List Post) (ls ls' : List RisingLine) →
    w ≡ w' → h ≡ h' → r ≡ r' → bs ≡ bs' → is ≡ is' → ps ≡ ps' → ls ≡ ls' → made a counts w h r bs is ps ls ≡ made a counts w' h' r' bs' is' ps' ls'
same_made a counts w w' h h' r r' bs bs' is is' ps ps' ls ls' width height centre bands items posts links =
    ap (λ x. made a counts x h r bs is ps ls) width ∙ ap (λ x. made a counts w' x r bs is ps ls) height ∙ ap (λ x. made a counts w' h' x bs is ps ls) centre
    ∙ ap (λ x. made a counts w' h' r' x is ps ls) bands ∙ ap (λ x. made a counts w' h' r' bs' x ps ls) items
    ∙ ap (λ x. made a counts w' h' r' bs' is' x ls) posts ∙ ap (λ x. made a counts w' h' r' bs' is' ps' x) links

pub returns-in-Ok-height_of-clause-is : goal.returns-in-Ok-height_of-clause-is
returns-in-Ok-height_of-clause-is c =
    same_made c.args.asked c.args.counts _ _ _ _ _ _ _ _ _ _ _ _ _ _ c.page_width.ensures.is c.page_height.ensures.is c.centre_box.ensures
    (c.in_ok-bands.ensures ∙ ap (bands_of c.args.plan.now c.args.counts) c.deref.ensures.value) c.in-Ok.ensures
    c.in-Ok-height_of.ensures.posts c.in-Ok-height_of.ensures.links
