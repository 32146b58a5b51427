-- Worked rows: what is counted, places, and the lines inside cycles.
use Rattle.std.proofs.Common.{◌≡◌, ℕ, List, [], ◌∷◌, map, refl}
use Rattle.std.specs.List.{count_by}
use Rattle.as_rel.specs.declared.line.RelKind.TheVariants.{Transit, Peering}
use Rattle.as_rel.specs.declared.line.RelLine.{RelLine}
use Rattle.as_rel.specs.Serial.{rel_line}
use Rattle.as_ranks.specs.declared.rank.Rank.{Rank}
use Rattle.as_ranks.specs.Ranks.{is_provider_line, is_peer_line, is_customer_line, place_among}
use Rattle.as_ranks.specs.Cycles.{inside_of}

-- a diamond with a peering at its end
abbrev diamond : List RelLine
diamond = rel_line 10 20 Transit ∷ rel_line 10 30 Transit ∷ rel_line 20 40 Transit ∷ rel_line 30 40 Transit ∷ rel_line 40 50 Peering ∷ []

diamond-end : map (λ p. count_by p diamond) (is_provider_line 40 ∷ is_peer_line 40 ∷ is_customer_line 40 ∷ []) ≡ 2 ∷ 1 ∷ 0 ∷ []
diamond-end = refl

diamond-top : map (λ p. count_by p diamond) (is_provider_line 10 ∷ is_peer_line 10 ∷ is_customer_line 10 ∷ []) ≡ 0 ∷ 0 ∷ 2 ∷ []
diamond-top = refl

only-peer : map (λ p. count_by p diamond) (is_provider_line 50 ∷ is_peer_line 50 ∷ is_customer_line 50 ∷ []) ≡ 0 ∷ 1 ∷ 0 ∷ []
only-peer = refl

-- equal cones have equal places, and the next place is one more than the ASes before it
abbrev with-cone : (number cone : ℕ) → Rank
with-cone number cone = record { place = 0; number = number; cone = cone; providers = 0; peers = 0; customers = 0 }

abbrev five : List Rank
five = with-cone 10 4 ∷ with-cone 20 2 ∷ with-cone 30 2 ∷ with-cone 40 1 ∷ with-cone 50 1 ∷ []

places : map (place_among five) five ≡ 1 ∷ 2 ∷ 2 ∷ 4 ∷ 4 ∷ []
places = refl

-- a cycle of three, with a customer below, and one of four beside it with a peering inside. No cycle has two: lines name two ASes once
abbrev two-cycles : List RelLine
two-cycles =
    rel_line 3 1 Transit ∷ rel_line 8 9 Transit ∷ rel_line 1 2 Transit ∷ rel_line 2 3 Transit ∷ rel_line 9 11 Transit ∷ rel_line 9 5 Transit
    ∷ rel_line 4 2 Transit ∷ rel_line 1 4 Peering ∷ rel_line 3 4 Transit ∷ rel_line 11 8 Transit ∷ []

inside-four : inside_of two-cycles (1 ∷ 2 ∷ 3 ∷ 4 ∷ []) ≡
    rel_line 3 1 Transit ∷ rel_line 1 2 Transit ∷ rel_line 2 3 Transit ∷ rel_line 4 2 Transit ∷ rel_line 3 4 Transit ∷ []
inside-four = refl

inside-three : inside_of two-cycles (8 ∷ 9 ∷ 11 ∷ []) ≡ rel_line 8 9 Transit ∷ rel_line 9 11 Transit ∷ rel_line 11 8 Transit ∷ []
inside-three = refl
