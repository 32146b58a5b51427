-- Rows that were worked by hand: what is known in a run.
use Rattle.std.proofs.Common.{◌≡◌, ℕ, List, [], ◌∷◌, Some, None, refl}
use Rattle.as_rel.specs.declared.givens.KnownLines.{KnownLines}
use Rattle.top_givens.specs.TopGivens.{given_over}
use Rattle.tor_output.specs.Knowing.{known_of}

-- 10 on three paths
abbrev three : List (List ℕ)
three = (10 ∷ 20 ∷ []) ∷ (30 ∷ 10 ∷ 40 ∷ []) ∷ (20 ∷ 30 ∷ []) ∷ []

-- a file of one transit, and one of a peering
abbrev transit : ℕ → ℕ → KnownLines
transit over under = record { givens = given_over over under ∷ []; peers = [] }

abbrev peering : ℕ → ℕ → KnownLines
peering a b = record { givens = []; peers = (a, b) ∷ [] }

alone : known_of (Some (10 ∷ [])) None three ≡ Some (given_over 10 20 ∷ given_over 10 30 ∷ given_over 10 40 ∷ [])
alone = refl

-- a list that binds nothing is a list
on_no_path : known_of (Some (99 ∷ [])) None three ≡ Some []
on_no_path = refl

file_agrees : known_of (Some (10 ∷ [])) (Some (transit 10 30)) three ≡ Some (given_over 10 30 ∷ given_over 10 20 ∷ given_over 10 40 ∷ [])
file_agrees = refl

file_wins : known_of (Some (10 ∷ [])) (Some (transit 30 10)) three ≡ Some (given_over 30 10 ∷ given_over 10 20 ∷ given_over 10 40 ∷ [])
file_wins = refl

file_says_peers : known_of (Some (10 ∷ [])) (Some (peering 10 30)) three ≡ Some (given_over 10 20 ∷ given_over 10 40 ∷ [])
file_says_peers = refl

-- a peering of Monday's file is not in Monday's result: in one run over both days nothing is known
both_days : known_of (Some (10 ∷ [])) (Some (peering 10 20)) ((30 ∷ 40 ∷ []) ∷ (10 ∷ 20 ∷ []) ∷ []) ≡ Some []
both_days = refl
