-- What is put up above an AS, generation by generation.
use Rattle.std.specs.Prelude.{◌≡◌, ℕ, ◌+◌, List, [], ◌∷◌, ◌++◌, length, max, filter_map}
use Rattle.result_text.specs.declared.file.EdgeLine.{EdgeLine}
use Rattle.drawing.specs.declared.group.Neighbour.{Neighbour}
use Rattle.drawing.specs.declared.standings.Standing.{Standing}
use Rattle.drawing.specs.declared.tower.Tower.{Tower}
use Rattle.drawing.specs.Generations.{AreGenerations, all_numbers, box_count, topmost, standing_of, standings_at}
use Rattle.drawing.specs.Generations.{perches, perches_at, rising_ties, sizes, tie_of, widest}
use Rattle.drawing.specs.Shifted.{HasNumbers}

-- these generations stand in the tower, above the providers `first`, of an AS with these numbers near
pub record IsTower (edges : List EdgeLine) (most : ℕ) (first : List Neighbour) (near : List ℕ) (gs : List (List Neighbour)) (t : Tower)
    : Type 0 where
  pub generations : AreGenerations edges most first near gs
  pub nearer : HasNumbers t.nearer (all_numbers near gs)
  pub topmost_are : (n : ℕ) → standing_of n t.topmost ≡ standing_of n (topmost most first gs)
  pub rank_is : t.rank ≡ length gs
  pub widest_is : t.widest ≡ widest most gs
  pub sizes_are : t.sizes.items ≡ sizes gs
  pub perches_are : t.perches.items ≡ perches most gs
  pub ties_are : t.ties.items ≡ rising_ties edges most first gs

-- a generation of which these are drawn was put on top, but for those themselves
pub record IsTowerRaised (edges : List EdgeLine) (most : ℕ) (g : List Neighbour) (drawn : List Standing) (old new : Tower) : Type 0 where
  pub nearer : new.nearer ≡ old.nearer
  pub rank_is : new.rank ≡ old.rank + 1
  pub widest_is : new.widest ≡ max old.widest (box_count most g)
  pub sizes_are : new.sizes.items ≡ old.sizes.items ++ length g ∷ []
  pub perches_are : new.perches.items ≡ old.perches.items ++ perches_at most (old.rank + 1) g
  pub ties_are : new.ties.items ≡ old.ties.items ++ filter_map (tie_of old.topmost drawn) edges

-- a generation was put on top
pub record IsStacked (edges : List EdgeLine) (most : ℕ) (g : List Neighbour) (old new : Tower) : Type 0 where
  pub put : IsTowerRaised edges most g new.topmost old new
  pub topmost_are : (n : ℕ) → standing_of n new.topmost ≡ standing_of n (standings_at most (old.rank + 1) g)
