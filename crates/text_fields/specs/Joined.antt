-- Numbers joined by an octet.
use Rattle.std.specs.Prelude.{ℕ, ◌==◌, if◌then◌else◌, List, [], ◌∷◌, ◌++◌, map, decimal}
use Rattle.std.specs.List.{join_with_byte}

-- a number of a list by its place: behind the octet if it isn't the first
abbrev pub member_text : ℕ → ℕ → ℕ → List ℕ
member_text byte place n = if place == 0 then decimal n else byte ∷ decimal n

-- a number, an octet, numbers joined by another, and a last octet
abbrev pub row_text : ℕ → ℕ → ℕ → List ℕ → ℕ → List ℕ
row_text n bar byte numbers last = decimal n ++ (bar ∷ join_with_byte byte (map decimal numbers)) ++ last ∷ []
