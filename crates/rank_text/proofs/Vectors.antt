-- Worked texts, by computation.
use Rattle.std.proofs.Common.{◌≡◌, ◌∷◌, [], List, codes, refl}
use Rattle.std.specs.Fmt.{digits}
use Rattle.as_rel.specs.declared.line.RelKind.TheVariants.{Transit, Peering}
use Rattle.as_rel.specs.declared.line.RelLine.{RelLine}
use Rattle.as_rel.specs.Serial.{rel_line}
use Rattle.as_ranks.specs.declared.rank.Rank.{Rank}
use Rattle.as_ranks.specs.Cones.{Cone}
use Rattle.rank_text.specs.RankText.{ranks_text, cones_text, cycles_text}

-- a provider with a customer, which has a peer
abbrev three : List RelLine
three = rel_line 10 20 Transit ∷ rel_line 20 30 Peering ∷ []

abbrev three_ranks : List Rank
three_ranks =
    record { place = 1; number = 10; cone = 2; providers = 0; peers = 0; customers = 1 }
    ∷ record { place = 2; number = 20; cone = 1; providers = 1; peers = 1; customers = 0 }
    ∷ record { place = 2; number = 30; cone = 1; providers = 0; peers = 1; customers = 0 } ∷ []

ranks_of_three : ranks_text three three_ranks ≡ codes "rank|1|10|2|0|0|1\nrank|2|20|1|1|1|0\nrank|2|30|1|0|1|0\nranks|3|1|1\n"
unfolding digits
ranks_of_three = refl

abbrev three_cones : List Cone
three_cones =
    record { of = 10; members = 10 ∷ 20 ∷ [] } ∷ record { of = 20; members = 20 ∷ [] } ∷ record { of = 30; members = 30 ∷ [] } ∷ []

cones_of_three : cones_text three_cones ≡ codes "10 10 20\n20 20\n30 30\n"
unfolding digits
cones_of_three = refl

-- a cycle of three, and a customer and a peering that aren't inside
abbrev round : List RelLine
round = rel_line 3 1 Transit ∷ rel_line 1 2 Transit ∷ rel_line 2 9 Transit ∷ rel_line 1 9 Peering ∷ rel_line 2 3 Transit ∷ []

cycle_of_three : cycles_text round ((1 ∷ 2 ∷ 3 ∷ []) ∷ []) ≡ codes "cycle|3|1 2 3\ninside|3|1\ninside|1|2\ninside|2|3\ncycles|1|3|3\n"
unfolding digits
cycle_of_three = refl

none : cycles_text [] [] ≡ codes "cycles|0|0|0\n"
unfolding digits
none = refl
