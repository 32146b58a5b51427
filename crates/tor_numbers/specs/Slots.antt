-- Numbers in slots, each found from the slot that its hash names.
use Rattle.std.specs.Prelude.{◌≡◌, ◌≢◌, ℕ, zero, suc, ◌-◌, ◌*◌, ◌/◌, ◌^◌, ◌<◌, ◌≤◌, ◌⊎◌, Bool, true, false, List, [], ◌∷◌, ◌++◌, Some}
use Rattle.std.specs.Prelude.{length, take, slice_get, Contains, bit_and, bit_xor}
use Rattle.tor_arena.specs.Growth.{next_slot}
use Rattle.tor_numbers.specs.declared.slot_search.SearchEnd.{SearchEnd}
use Rattle.tor_numbers.specs.declared.slot_search.SearchEnd.TheVariants.{Held, Free, Full}

-- the two halves of a product of 128 bits, joined
unfoldable pub hashed : ℕ → ℕ
hashed n = bit_xor (bit_and (n * 0x9e37_79b9_7f4a_7c15) (2 ^ 64 - 1)) (n * 0x9e37_79b9_7f4a_7c15 / 2 ^ 64)

-- the slot, of so many, at which the search for a number begins; what goes into it differs from table to table
abbrev pub start_at : (seed number count : ℕ) → ℕ
start_at seed number count = bit_and (hashed (bit_xor number seed)) (count - 1)

-- the number stands in the slot or one of the next, before any that is free, and among so many
abbrev pub HeldFrom : (slots : List ℕ) (number slot many : ℕ) → Type 0
HeldFrom slots number slot zero = ⊥
HeldFrom slots number slot (suc n) =
    (slice_get slots slot ≡ Some number) ⊎ ((slice_get slots slot ≢ Some 0) × HeldFrom slots number (next_slot (length slots) slot) n)

-- no slot is made free
abbrev pub StaysUsed : (old new : List ℕ) → Type 0
StaysUsed old new = (slot : ℕ) → slice_get new slot ≡ Some 0 → slice_get old slot ≡ Some 0

-- the search for the number comes from the start to the slot, so that the number is found where it is put there
abbrev pub SearchLeadsTo : (slots : List ℕ) (start number slot : ℕ) → Type 0
SearchLeadsTo slots start number slot = (new : List ℕ) → length new ≡ length slots → StaysUsed slots new →
    slice_get new slot ≡ Some number → HeldFrom new number start (length slots)

abbrev pub IsSearchEnd : (slots : List ℕ) (start number : ℕ) → SearchEnd → Type 0
IsSearchEnd slots start number (Held slot) = (slice_get slots slot ≡ Some number) × SearchLeadsTo slots start number slot
IsSearchEnd slots start number (Free slot) =
    (slice_get slots slot ≡ Some 0) × SearchLeadsTo slots start number slot × (HeldFrom slots number start (length slots) → ⊥)
IsSearchEnd slots start number Full = HeldFrom slots number start (length slots) → ⊥

-- these numbers stand in the slots in which they stood
abbrev pub Keeps : (numbers old new : List ℕ) → Type 0
Keeps numbers old new = (slot number : ℕ) → slice_get old slot ≡ Some number → Contains numbers number → slice_get new slot ≡ Some number

-- the slots hold these numbers alone, each in one of them; and each is found as long as it and those before it keep their slots, so that
-- the last slot to be taken can be made free again
pub record IsHeld (seed : ℕ) (slots numbers : List ℕ) : Type 0 where
  pub only : (slot number : ℕ) → slice_get slots slot ≡ Some number → 0 < number → Contains numbers number
  pub each : (count number : ℕ) → Contains (take count numbers) number → (new : List ℕ) → length new ≡ length slots →
      Keeps (take count numbers) slots new → HeldFrom new number (start_at seed number (length slots)) (length slots)
  pub once : (slot other number : ℕ) → slice_get slots slot ≡ Some number → slice_get slots other ≡ Some number → 0 < number → slot ≡ other
  pub least : (number : ℕ) → Contains numbers number → 2 ≤ number

-- the number is put into a slot, or was in one, and then nothing changes
abbrev pub IsHolding : (seed number : ℕ) (old new : List ℕ) → Bool → Type 0
IsHolding seed number old new true = (numbers : List ℕ) → IsHeld seed old numbers →
    (Contains numbers number → ⊥) × IsHeld seed new (numbers ++ number ∷ [])
IsHolding seed number old new false = (new ≡ old) × ((numbers : List ℕ) → IsHeld seed old numbers → Contains numbers number)

-- the number, which comes last, is taken out of its slot, and the slot is free
abbrev pub Leaves : (seed number : ℕ) (old new : List ℕ) → Type 0
Leaves seed number old new =
    (numbers : List ℕ) → IsHeld seed old (numbers ++ number ∷ []) → (Contains numbers number → ⊥) → IsHeld seed new numbers

-- no number stands twice
abbrev pub IsApart : List ℕ → Type 0
IsApart numbers = (k number : ℕ) → slice_get numbers k ≡ Some number → Contains (take k numbers) number → ⊥

-- distinct numbers and their slots
pub record IsSet (seed : ℕ) (slots numbers : List ℕ) : Type 0 where
  pub held : IsHeld seed slots numbers
  pub apart : IsApart numbers

-- the number goes last and is new; or nothing changes, and it is there
abbrev pub IsInserted : (number : ℕ) (old new : List ℕ) → Bool → Type 0
IsInserted number old new true = (Contains old number → ⊥) × (new ≡ old ++ number ∷ [])
IsInserted number old new false = Contains old number × (new ≡ old)
