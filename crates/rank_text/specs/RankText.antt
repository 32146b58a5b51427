-- What is written of the ASes of known relationships: a line for each rank, for each customer cone, or for each cycle and each transit
-- inside it.
use Rattle.std.specs.Prelude.{◌≡◌, ℕ, Bool, not, List, [], ◌∷◌, ◌++◌, length, map, flat_map, count_by, sum_by}
use Rattle.std.specs.Prelude.{codes, decimal}
use Rattle.text_fields.specs.Joined.{row_text}
use Rattle.as_rel.specs.declared.line.RelLine.{RelLine}
use Rattle.as_rel.specs.Givens.{is_transit}
use Rattle.as_ranks.specs.declared.rank.Rank.{Rank}
use Rattle.as_ranks.specs.Ranks.{AreRanks}
use Rattle.as_ranks.specs.Cones.{Cone, AreCones}
use Rattle.as_ranks.specs.Cycles.{AreProviderCycles, inside_of}

-- ---- lines

-- a number behind a bar
abbrev pub barred : ℕ → List ℕ
barred number = 124 ∷ decimal number

-- a line of a word, and of numbers, each behind a bar
abbrev pub number_line : List ℕ → List ℕ → List ℕ
number_line word numbers = word ++ (flat_map barred numbers ++ 10 ∷ [])

-- ---- ranks

abbrev pub rank_line : Rank → List ℕ
rank_line r = number_line (codes "rank") (r.place ∷ r.number ∷ r.cone ∷ r.providers ∷ r.peers ∷ r.customers ∷ [])

abbrev pub is_transit_line : RelLine → Bool
is_transit_line l = is_transit l.kind

abbrev pub is_peering_line : RelLine → Bool
is_peering_line l = not (is_transit l.kind)

-- how many ASes, transits and peerings there are
abbrev pub ranks_total : List RelLine → List Rank → List ℕ
ranks_total rel ranks = number_line (codes "ranks") (length ranks ∷ count_by is_transit_line rel ∷ count_by is_peering_line rel ∷ [])

abbrev pub ranks_text : List RelLine → List Rank → List ℕ
ranks_text rel ranks = flat_map rank_line ranks ++ ranks_total rel ranks

-- ---- cones, in the form of CAIDA's files of ASes in the provider-peer customer cone

-- the AS, a blank, and the members of its cone with a blank between two
abbrev pub cone_line : Cone → List ℕ
cone_line c = row_text c.of 32 32 c.members 10

abbrev pub cones_text : List Cone → List ℕ
cones_text cones = flat_map cone_line cones

-- ---- cycles

-- how many ASes there are, and these with a blank between two
abbrev pub cycle_line : List ℕ → List ℕ
cycle_line ases = codes "cycle|" ++ row_text (length ases) 124 32 ases 10

abbrev pub inside_line : RelLine → List ℕ
inside_line l = number_line (codes "inside") (l.first ∷ l.second ∷ [])

-- a cycle, and behind it the transits inside
abbrev pub cycle_text : List RelLine → List ℕ → List ℕ
cycle_text rel ases = cycle_line ases ++ flat_map inside_line (inside_of rel ases)

-- how many cycles, ASes in them, and transits inside them there are
abbrev pub cycles_total : (cycles : List (List ℕ)) (inside : List (List RelLine)) → List ℕ
cycles_total cycles inside = number_line (codes "cycles") (length cycles ∷ sum_by length cycles ∷ sum_by length inside ∷ [])

abbrev pub cycles_text : List RelLine → List (List ℕ) → List ℕ
cycles_text rel cycles = flat_map (cycle_text rel) cycles ++ cycles_total cycles (map (inside_of rel) cycles)

-- ---- what relationships come to

-- the ranks of the ASes that these relationships name
abbrev pub IsRanksText : List RelLine → List ℕ → Type 0
IsRanksText rel text = (ranks : List Rank) × AreRanks rel ranks × (text ≡ ranks_text rel ranks)

-- their customer cones
abbrev pub IsConesText : List RelLine → List ℕ → Type 0
IsConesText rel text = (cones : List Cone) × AreCones rel cones × (text ≡ cones_text cones)

-- the cycles among them
abbrev pub IsCyclesText : List RelLine → List ℕ → Type 0
IsCyclesText rel text = (cycles : List (List ℕ)) × AreProviderCycles rel cycles × (text ≡ cycles_text rel cycles)
