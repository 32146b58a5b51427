-- The entries of a RIB that are read one by one.
use Rattle.std.specs.Prelude.{◌≡◌, ℕ, ◌+◌, List, [], ◌∷◌, Option, Some, None, Result, Ok, Err}
use Rattle.path_attrs.specs.declared.fault.RibFault.{RibFault}
use Rattle.path_attrs.specs.Fields.{◌>>=◌}
use Rattle.rib_bodies.specs.declared.rib.Entry.{Entry}

-- how many entries are still to be read, and what reading them gives
pub record Reading : Type 0 where
  pub left : ℕ
  pub entries : Result (List Entry) RibFault

-- what reading gives, with an entry before it
abbrev pub with_first : Entry → Result (List Entry) RibFault → Result (List Entry) RibFault
with_first entry read = read >>= λ others. Ok (entry ∷ others)

-- the next entry and what is left behind it, the end, or the first fault
abbrev pub IsNext : Result (Option Entry) RibFault → (old new : Reading) → Type 0
IsNext (Ok (Some entry)) old new = (old.left ≡ new.left + 1) × (old.entries ≡ with_first entry new.entries)
IsNext (Ok None) old new = old.entries ≡ Ok []
IsNext (Err fault) old new = old.entries ≡ Err fault
