-- Draws of a linear congruential generator of 64 bits, that of Knuth's MMIX (The Art of Computer Programming 2, 3.3.4).
use Rattle.std.specs.Prelude.{ℕ, ◌+◌, ◌*◌, ◌/◌, ◌%◌, ◌^◌}

-- the state of the generator behind another
abbrev pub next : ℕ → ℕ
next s = (s * 6364136223846793005 + 1442695040888963407) % 2 ^ 64

-- what is made by draws: from the state before them, what it is and the state behind them
abbrev pub Drawn : Type 0 → Type 0
Drawn A = ℕ → A × ℕ

-- made without a draw
abbrev pub just : {A : Type 0} → A → Drawn A
just x s = (x, s)

-- what was made goes into what is made next, and the draws go on
abbrev pub draw_on : {A B : Type 0} → (A → Drawn B) → A × ℕ → B × ℕ
draw_on f made = f made.0 made.1

infixl 10 ◌>>=◌
abbrev pub ◌>>=◌ : {A B : Type 0} → Drawn A → (A → Drawn B) → Drawn B
(made >>= f) s = draw_on f (made s)

-- a number below the bound, by the high bits of the next state
abbrev pub draw : ℕ → Drawn ℕ
draw bound s = (next s / 2 ^ 33 % bound, next s)
