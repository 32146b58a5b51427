-- What an arena is seen as.
use Rattle.std.specs.Prelude.{ℕ, List, slice_set}

-- the items in order, and for how many more of them there is room
pub record Contents (T : Type 0) : Type 0 where
  pub items : List T
  pub spare : ℕ

-- the same with another item at a place
abbrev pub with_item : {T : Type 0} → Contents T → ℕ → T → Contents T
with_item c k item = record c { items = slice_set c.items k item }
