-- Reading from left to right: a value, and the octets behind it.
use Rattle.std.specs.Prelude.{ℕ, ◌+◌, ◌-◌, ◌*◌, ◌^◌, Bool, ◌&&◌, List, [], ◌∷◌, Option, Some, None, nat_lt, nat_le, ◌==◌, if◌then◌else◌}

infixl 10 ◌>>=◌
abbrev pub ◌>>=◌ : {A B : Type 0} → Option A → (A → Option B) → Option B
(Some x) >>= f = f x
None >>= f = None

-- the octets behind a word
abbrev pub word_at : List ℕ → List ℕ → Option (List ℕ)
word_at [] bytes = Some bytes
word_at (c ∷ cs) [] = None
word_at (c ∷ cs) (b ∷ bytes) = if b == c then word_at cs bytes else None

-- one reader behind a word, and another where the word isn't there
abbrev pub on_word : {X : Type 0} → List ℕ → (List ℕ → Option X) → (List ℕ → Option X) → List ℕ → Option X
on_word word read other bytes = elim (word_at word bytes) [ Some rest ↦ read rest | None ↦ other bytes ]

-- ---- numbers

abbrev pub is_digit : ℕ → Bool
is_digit b = nat_le 48 b && nat_le b 57

-- one more digit, if the number stays below 2 ^ 64
abbrev pub with_digit : ℕ → ℕ → Option ℕ
with_digit n digit = if nat_lt (n * 10 + digit) (2 ^ 64) then Some (n * 10 + digit) else None

-- the digit that the octets begin with
unfoldable pub digit_at : List ℕ → Option (ℕ × List ℕ)
digit_at [] = None
digit_at (b ∷ bytes) = if is_digit b then Some (b - 48, bytes) else None

-- a number that goes on behind the digits of n
unfoldable pub digits_at : ℕ → List ℕ → Option (ℕ × List ℕ)
digits_at n [] = Some (n, [])
digits_at n (b ∷ bytes) = if is_digit b then (with_digit n (b - 48) >>= λ m. digits_at m bytes) else Some (n, b ∷ bytes)

-- behind a 0 at the start no further digit is read
unfoldable pub u64_at : List ℕ → Option (ℕ × List ℕ)
u64_at bytes = do
  first ← digit_at bytes
  if first.0 == 0 then Some (0, first.1) else digits_at first.0 first.1

abbrev pub below : ℕ → ℕ × List ℕ → Option (ℕ × List ℕ)
below limit x = if nat_lt x.0 limit then Some x else None

unfoldable pub u32_at : List ℕ → Option (ℕ × List ℕ)
u32_at bytes = u64_at bytes >>= below (2 ^ 32)

-- a value, and behind it this octet
abbrev pub before : {X : Type 0} → ℕ → (List ℕ → Option (X × List ℕ)) → List ℕ → Option (X × List ℕ)
before c read bytes = do
  x ← read bytes
  rest ← word_at (c ∷ []) x.1
  Some (x.0, rest)

-- one after the other
abbrev pub both : {X Y : Type 0} → (List ℕ → Option (X × List ℕ)) → (List ℕ → Option (Y × List ℕ)) → List ℕ → Option ((X × Y) × List ℕ)
both read_x read_y bytes = do
  x ← read_x bytes
  y ← read_y x.1
  Some ((x.0, y.0), y.1)

abbrev pub mapped : {X Y : Type 0} → (X → Y) → (List ℕ → Option (X × List ℕ)) → List ℕ → Option (Y × List ℕ)
mapped f read bytes = do
  x ← read bytes
  Some (f x.0, x.1)
