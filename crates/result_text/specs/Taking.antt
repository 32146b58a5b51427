-- Octets that come in pieces: what is read of those that have come.
use Rattle.std.specs.Prelude.{◌≡◌, ℕ, zero, suc, ◌+◌, Bool, true, false, List, [], ◌∷◌, ◌++◌, Option}
use Rattle.std.specs.Prelude.{Some, Result, Ok, Err, ◌⊎◌, ◌==◌, if◌then◌else◌}
use Rattle.text_fields.specs.Reading.{◌>>=◌}
use Rattle.result_text.specs.declared.draft.Draft.{Draft}
use Rattle.result_text.specs.declared.taking.Parser.{Parser}
use Rattle.result_text.specs.declared.error.LineError.{LineError}
use Rattle.result_text.specs.declared.error.LineError.TheVariants as errors
use Rattle.result_text.specs.Order.{empty_draft, next_at}
use Rattle.result_text.specs.Grammar.{IsBadLine}

-- no octet is a line feed
abbrev pub feedless : List ℕ → Bool
feedless [] = true
feedless (b ∷ octets) = if b == 10 then false else feedless octets

-- nothing, or a line feed is the last
abbrev pub AreWhole : List ℕ → Type 0
AreWhole octets = (octets ≡ []) ⊎ ((before : List ℕ) × (octets ≡ before ++ 10 ∷ []))

-- the draft of the first n lines, and the octets behind these
unfoldable pub lines_at : ℕ → List ℕ → Option (Draft × List ℕ)
lines_at zero octets = Some (empty_draft, octets)
lines_at (suc n) octets = lines_at n octets >>= λ x. next_at x.0 x.1

-- the line of this number begins the rest of the octets, and the lines before it are in the draft
abbrev pub IsAt : ℕ → Draft → List ℕ → List ℕ → Type 0
IsAt line draft octets rest = (read : ℕ) × (line ≡ read + 1) × (lines_at read octets ≡ Some (draft, rest))

-- their bad line has this number, whatever follows
abbrev pub StaysBad : ℕ → List ℕ → Type 0
StaysBad line octets = (more : List ℕ) → IsBadLine line (octets ++ more)

-- so many lines of the octets have been read into the draft, or the bad one among them is known
abbrev pub HasCome : {X : Type 0} → ℕ → Draft → List ℕ → Result X LineError → Type 0
HasCome line draft octets (Ok _) = IsAt line draft octets []
HasCome line draft octets (Err errors.Bad) = StaysBad line octets
HasCome line draft octets (Err errors.NoMemory) = Unit {0}

abbrev pub HasTakenIf : Bool → Parser → List ℕ → Type 0
HasTakenIf true parser octets = StaysBad parser.line octets
HasTakenIf false parser octets = IsAt parser.line parser.draft octets parser.start × (feedless parser.start ≡ true)

-- these octets have come, in whatever pieces
abbrev pub HasTaken : Parser → List ℕ → Type 0
HasTaken parser octets = HasTakenIf parser.bad parser octets

-- whatever had come before, these octets have come behind it
abbrev pub Takes : Parser → Parser → List ℕ → Type 0
Takes old new octets = (before : List ℕ) → HasTaken old before → HasTaken new (before ++ octets)
