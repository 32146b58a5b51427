-- Fields that are read from left to right, up to the first fault.
use Rattle.std.specs.Prelude.{◌≡◌, ℕ, List, length, take, drop, Result, Ok, Err, Bool, true, false, nat_lt, if◌then◌else◌}
use Rattle.byteorder.specs.Endian.{big_number}

-- what was read is handed on, and a fault ends the reading
infixl 10 ◌>>=◌
abbrev pub ◌>>=◌ : {A B E : Type 0} → Result A E → (A → Result B E) → Result B E
(Ok x) >>= f = f x
(Err fault) >>= f = Err fault

-- the next n octets, and those behind them; the fault where fewer are left
abbrev pub octets : {E : Type 0} → E → ℕ → List ℕ → Result (List ℕ × List ℕ) E
octets fault n bytes = if nat_lt (length bytes) n then Err fault else Ok (take n bytes, drop n bytes)

-- the number in the next n octets, the highest first, and the octets behind them; the fault where fewer are left
abbrev pub number : {E : Type 0} → E → ℕ → List ℕ → Result (ℕ × List ℕ) E
number fault n bytes = if nat_lt (length bytes) n then Err fault else Ok (big_number n bytes, drop n bytes)

-- the fault, unless the test holds
abbrev pub fault_unless : {E : Type 0} → E → Bool → Result (Unit {0}) E
fault_unless fault true = Ok tt
fault_unless fault false = Err fault

-- what was read, or in place of its fault this one
abbrev pub or_fault : {A E F : Type 0} → F → Result A E → Result A F
or_fault fault (Ok x) = Ok x
or_fault fault (Err e) = Err fault

-- what a function returned, seen by view, is what reading gives
abbrev pub Gives : {X Y E : Type 0} → (X → Y) → Result X E → Result Y E → Type 0
Gives view (Ok x) read = read ≡ Ok (view x)
Gives view (Err fault) read = read ≡ Err fault
