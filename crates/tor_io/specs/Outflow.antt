-- Texts that are put one behind the other on their way to a sink. The first write that fails is noted, and nothing is put behind it.
use Rattle.std.specs.Prelude.{◌≡◌, ℕ, ◌≤◌, List, ◌++◌, Option, Some, None, Result, IsErr, OnOk, OnErr}
use Rattle.std.specs.Io.KnownBytes.{append_known}
use Rattle.tor_io.specs.Contents.{GainsPrefix, PassesOn}
use Rattle.tor_io.specs.Counts.{HasCause, Rose}

-- what a sink took, where that is known; its count of faults; and what waits for it, if no write has failed
pub record State : Type 0 where
  pub held : Option (List ℕ)
  pub faults : ℕ
  pub waiting : Option (List ℕ)

abbrev pub state : Option (List ℕ) → ℕ → Option (List ℕ) → State
state held faults waiting = record { held = held; faults = faults; waiting = waiting }

-- no write failed: the sink took the first part of what waited and the text, and the rest waits
pub record GoesOn (old new : State) (text waiting : List ℕ) : Type 0 where
  pub passed : PassesOn old.held new.held waiting text
  pub quiet : new.faults ≡ old.faults

-- a write failed: the sink took a prefix of what waited and the text
pub record Stops (old new : State) (text : List ℕ) : Type 0 where
  pub prefix : GainsPrefix old.held new.held text
  pub later : old.faults ≤ new.faults
  pub rose : Rose old.faults new.faults

-- A text was put behind what waits, or a write failed. Where one had failed before, nothing changed.
abbrev pub IsPut : State → State → List ℕ → Type 0
IsPut old new text = elim old.waiting [
  | None ↦ new ≡ old
  | Some before ↦ elim new.waiting [ None ↦ Stops old new (before ++ text) | Some after ↦ GoesOn old new (before ++ text) after ]
]

pub record Puts (old new : State) (text : List ℕ) : Type 0 where
  pub done : IsPut old new text

-- What waited is written: all of it, or a prefix where that fails. Where a write had failed before, nothing is.
abbrev pub Finishes : {T E : Type 0} → State → Option (List ℕ) → ℕ → Result T E → Type 0
Finishes old held faults result = elim old.waiting [
  | None ↦ IsErr result × (held ≡ old.held) × (faults ≡ old.faults)
  | Some waiting ↦
      OnOk result (held ≡ append_known old.held waiting)
      × OnErr result (GainsPrefix old.held held waiting) × HasCause old.faults faults result
]
