-- Rows that were worked by hand.
use Rattle.std.proofs.Common.{◌≡◌, ℕ, List, [], ◌∷◌, refl}
use Rattle.top_givens.specs.TopGivens.{given_over, top_givens, top_givens_behind}

-- 10 on three paths, in edge order; of 20 and 30 nothing is known
abbrev three : List (List ℕ)
three = (10 ∷ 20 ∷ []) ∷ (30 ∷ 10 ∷ 40 ∷ []) ∷ (20 ∷ 30 ∷ []) ∷ []

on_three_paths : top_givens (10 ∷ []) [] three ≡ given_over 10 20 ∷ given_over 10 30 ∷ given_over 10 40 ∷ []
on_three_paths = refl

-- one that is named twice counts once, in whatever order
named_twice : top_givens (10 ∷ 99 ∷ 10 ∷ []) [] three ≡ top_givens (99 ∷ 10 ∷ []) [] three
named_twice = refl

-- two of the top side by side
side_by_side : top_givens (10 ∷ 30 ∷ []) [] three ≡ given_over 10 20 ∷ given_over 10 40 ∷ given_over 30 20 ∷ []
side_by_side = refl

-- one that is on no path
on_none : top_givens (99 ∷ []) [] three ≡ []
on_none = refl

-- another AS between two of the top: each is over it
between : top_givens (10 ∷ 30 ∷ []) [] ((10 ∷ 20 ∷ 30 ∷ []) ∷ []) ≡ given_over 10 20 ∷ given_over 30 20 ∷ []
between = refl

-- a line names the two, in the one order or the other
named : top_givens (10 ∷ []) ((20, 10) ∷ []) three ≡ given_over 10 30 ∷ given_over 10 40 ∷ []
named = refl

-- on top of 30 40 the edge of 10 and 20 is bound, whatever a peering of the two said on Monday
on_top : top_givens_behind (10 ∷ []) [] ((30 ∷ 40 ∷ []) ∷ []) ((30 ∷ 40 ∷ []) ∷ (10 ∷ 20 ∷ []) ∷ []) ≡ given_over 10 20 ∷ []
on_top = refl

-- on top of paths where it was open it stays so
stays_open : top_givens_behind (10 ∷ []) [] ((20 ∷ 10 ∷ []) ∷ []) ((20 ∷ 10 ∷ []) ∷ (30 ∷ 10 ∷ 20 ∷ []) ∷ []) ≡ given_over 10 30 ∷ []
stays_open = refl

-- nor is an edge bound that the earlier result was given
given_before : top_givens_behind (10 ∷ []) (given_over 30 10 ∷ []) [] three ≡ given_over 10 20 ∷ given_over 10 40 ∷ []
given_before = refl
