-- What follows for ranks and cycles.
use Rattle.std.specs.Prelude.{◌⊎◌, ◌<◌, ◌≤◌, ℕ, List, length}
use Rattle.tor_digraph.specs.Walks.{HasArc, Reaches}
use Rattle.tor_digraph.specs.Closing.{Has}
use Rattle.as_rel.specs.declared.line.RelLine.{RelLine}
use Rattle.as_rel.specs.Cone.{IsProvider}
use Rattle.as_rel.specs.Serial.{NamesPairsOnce}
use Rattle.as_ranks.specs.declared.rank.Rank.{Rank}
use Rattle.as_ranks.specs.Ranks.{AreRanks}
use Rattle.as_ranks.specs.Cycles.{InConesOfEachOther, IsProviderCycle, inside_of}

-- The ranks order the ASes so that the provider of a transit stands above the customer, unless the transit is inside a cycle.
abbrev pub RankingLaw : Type 0
RankingLaw =
    (rel : List RelLine) (ranks : List Rank) (r s : Rank) → AreRanks rel ranks → Has ranks r → Has ranks s →
    IsProvider rel r.number s.number →
    InConesOfEachOther rel r.number s.number ⊎ ((s.cone < r.cone) × (r.place < s.place))

-- Where no two lines name the same two ASes, no cycle has only two ASes.
abbrev pub CycleSizeLaw : Type 0
CycleSizeLaw = (rel : List RelLine) (ases : List ℕ) → NamesPairsOnce rel → IsProviderCycle rel ases → 3 ≤ length ases

-- contracts, each as its provider and its customer, of which no chain leads back to its start
abbrev pub IsAcyclic : List (ℕ × ℕ) → Type 0
IsAcyclic contracts = (a b : ℕ) → Reaches contracts a b → HasArc contracts b a → ⊥

-- Whatever contracts are real, if they are acyclic, a transit inside each cycle is none of them.
abbrev pub UnrealTransitLaw : Type 0
UnrealTransitLaw =
    (rel : List RelLine) (ases : List ℕ) (contracts : List (ℕ × ℕ)) → IsProviderCycle rel ases → IsAcyclic contracts →
    (l : RelLine) × Has (inside_of rel ases) l × (HasArc contracts l.first l.second → ⊥)
