-- What an arena ends as, where a `&mut` to one of its items is returned.
use Rattle.std.specs.Prelude.{ℕ}
use Rattle.std.specs.Borrow.{Lends, MutBor, Fml, RattleType}
use Rattle.tor_arena.specs.Contents.{Contents, with_item}
use Rattle.tor_arena.specs.declared.index.Index.{Ghosts}
use Rattle.std.specs.declared.cmp.PartialEq as partial_eq
use Rattle.tor_arena.specs.contracts.arena.Arena.{the_row}

module _ (I T : RattleType) (g : Ghosts I.Denot) (eq : partial_eq.Ghosts I.Denot) where
  -- once the borrow r ends, the item at place k is the last value written through r, and all else is as before
  abbrev pub lends_item : MutBor (Contents T.Denot) → ℕ → MutBor T.Denot → Fml
  lends_item a k r = Lends (the_row I T g eq) T a r (with_item a.now k)
