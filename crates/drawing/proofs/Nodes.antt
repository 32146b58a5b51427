-- What holds of all nodes of a picture.
use Rattle.std.proofs.Common.{ℕ, ◌<◌, List, [], ◌∷◌, length, get_or, sym, subst, arith, All}
use Rattle.std.specs.Prelude.{flat_map, Option}
use Rattle.std.specs.List.{Any}
use Rattle.std.proofs.lemmas.List.{get_or_default}
use Rattle.std.proofs.lemmas.List.Concat.{flat_map-cons}
use Rattle.std.proofs.lemmas.List.Elements.{All-append, All-cons, All-nil, All-tail}
use Rattle.drawing.specs.declared.drawing.Drawing.{Drawing}
use Rattle.drawing.specs.Xml.{Node}
use Rattle.drawing.specs.Svg.{band_nodes, centre_node, head_nodes, item_nodes, link_nodes, nodes_of, post_nodes}

all_flat : {X : Type 0} (P : Node → Type 0) (f : X → List Node) (xs : List X) → All (λ x. All P (f x)) xs → All P (flat_map f xs)
all_flat P f [] all = All-nil P
all_flat P f (x ∷ xs) all =
    subst (All P) (sym (flat_map-cons f x xs)) (All-append P (f x) (flat_map f xs) (all 0 x (omega arith)) (all_flat P f xs (All-tail (λ y. All P (f y)) x xs all)))

pub one_there : {X : Type 0} (P : X → Type 0) (xs : List X) (k : ℕ) (d : X) → k < length xs → P (get_or xs k d) → Any P xs
one_there P xs k d lt h = (k, get_or xs k d, lt, get_or_default xs k (get_or xs k d) d lt, h)

-- it holds of those of each part
pub record OfParts (P : Node → Type 0) (link : Option (List ℕ)) (d : Drawing) : Type 0 where
  pub head : All P (head_nodes d)
  pub bands : All (λ b. All P (band_nodes b)) d.bands
  pub centre : P (centre_node link d)
  pub items : All (λ i. All P (item_nodes link i)) d.items
  pub links : All (λ l. All P (link_nodes l)) d.links
  pub posts : All (λ q. All P (post_nodes link q)) d.posts

pub of_all : (P : Node → Type 0) (link : Option (List ℕ)) (d : Drawing) → OfParts P link d → All P (nodes_of link d)
of_all P link d parts =
    All-append P (head_nodes d) _ parts.head (All-append P (flat_map band_nodes d.bands) _ (all_flat P band_nodes d.bands parts.bands)
    (All-cons P (centre_node link d) _ parts.centre (All-append P (flat_map (item_nodes link) d.items) _ (all_flat P (item_nodes link) d.items parts.items)
    (All-append P (flat_map link_nodes d.links) (flat_map (post_nodes link) d.posts) (all_flat P link_nodes d.links parts.links)
    (all_flat P (post_nodes link) d.posts parts.posts)))))
