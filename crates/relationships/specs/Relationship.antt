-- Which of two neighbours is the provider, and which paths are valley-free (Gao 2001).
-- An AS is its number, and a path is the list of its ASes.
use Rattle.std.specs.Prelude.{◌≡◌, ℕ, ◌⊎◌, Bool, true, false, ◌&&◌, ◌||◌, List, [], ◌∷◌, ◌++◌, replicate, nat_lt, if◌then◌else◌, All}
use Rattle.relationships.specs.declared.label.End.{End}
use Rattle.relationships.specs.declared.label.Label.{Label}

-- the provider of each edge, which is named by its lower number and then its higher.
-- What it says of two ASes that are no neighbours is never read
abbrev pub Orientation : Type 0
Orientation = ℕ → ℕ → End

-- the label of each edge, named in the same way
abbrev pub Labelling : Type 0
Labelling = ℕ → ℕ → Label

-- an orientation is a labelling without peers
abbrev pub label_of : End → Label
label_of End.Low = Label.Low
label_of End.High = Label.High

abbrev pub labels_of : Orientation → Labelling
labels_of O low high = label_of (O low high)

-- the other end of an edge
abbrev pub opposite : End → End
opposite End.Low = End.High
opposite End.High = End.Low

abbrev pub is_low : Label → Bool
is_low Label.Low = true
is_low Label.High = false
is_low Label.Peer = false

abbrev pub is_high : Label → Bool
is_high Label.Low = false
is_high Label.High = true
is_high Label.Peer = false

-- a over b: a is the provider of b
unfoldable pub is_over : Labelling → ℕ → ℕ → Bool
is_over L a b = (nat_lt a b && is_low (L a b)) || (nat_lt b a && is_high (L b a))

-- how a step goes
pub data Slope : Type 0 where
  Up Down Flat : Slope

-- from a to b: up to a provider, down to a customer, or flat
unfoldable pub slope : Labelling → ℕ → ℕ → Slope
slope L a b = if is_over L b a then Up else (if is_over L a b then Down else Flat)

-- the steps of a path that begins at a
abbrev pub slopes_from : Labelling → ℕ → List ℕ → List Slope
slopes_from L a [] = []
slopes_from L a (b ∷ path) = slope L a b ∷ slopes_from L b path

-- the steps of a path
abbrev pub slopes : Labelling → List ℕ → List Slope
slopes L [] = []
slopes L (a ∷ path) = slopes_from L a path

-- ups and then downs, with at most one flat step between them
abbrev pub ValleyFree : Labelling → List ℕ → Type 0
ValleyFree L path =
    (ups downs : ℕ) ×
    ((slopes L path ≡ replicate ups Up ++ replicate downs Down) ⊎
    (slopes L path ≡ replicate ups Up ++ (Flat ∷ replicate downs Down)))

-- each path is valley-free under the orientation
abbrev pub Serves : Orientation → List (List ℕ) → Type 0
Serves O paths = All (ValleyFree (labels_of O)) paths
