-- Ranks of ASes by how many members their customer cones have, as in CAIDA's AS Rank (Luckie et al., AS Relationships, Customer Cones, and
-- Validation, 2013). How many neighbours of each kind an AS has is counted over lines that name no two ASes twice.
use Rattle.std.specs.Prelude.{◌≡◌, ◌⊎◌, ◌↔◌, ◌==◌, ◌&&◌, ◌||◌, ℕ, ◌+◌, ◌<◌, Bool, not, List, Contains, Some, length, map}
use Rattle.std.specs.Prelude.{slice_get, nat_lt}
use Rattle.std.specs.List.{count_by}
use Rattle.tor_digraph.specs.Closing.{Has, IsOnce}
use Rattle.as_rel.specs.declared.line.RelLine.{RelLine}
use Rattle.as_rel.specs.Cone.{InCone}
use Rattle.as_rel.specs.Givens.{is_transit}
use Rattle.as_ranks.specs.declared.rank.Rank.{Rank}
use Rattle.as_ranks.specs.Named.{IsNamed}

-- ---- what is known of an AS

-- the cone of the AS has so many members: these, each once
pub record IsConeSize (rel : List RelLine) (a n : ℕ) : Type 0 where
  pub members : List ℕ
  pub once : IsOnce members
  pub exact : (b : ℕ) → Contains members b ↔ InCone rel a b
  pub many : length members ≡ n

-- whether a line names a provider, a peer or a customer of the AS
abbrev pub is_provider_line : ℕ → RelLine → Bool
is_provider_line a l = is_transit l.kind && (l.second == a)

abbrev pub is_peer_line : ℕ → RelLine → Bool
is_peer_line a l = not (is_transit l.kind) && ((l.first == a) || (l.second == a))

abbrev pub is_customer_line : ℕ → RelLine → Bool
is_customer_line a l = is_transit l.kind && (l.first == a)

-- the cone and the neighbours of the AS are counted
pub record IsMeasured (rel : List RelLine) (r : Rank) : Type 0 where
  pub named : IsNamed rel r.number
  pub cone : IsConeSize rel r.number r.cone
  pub providers : r.providers ≡ count_by (is_provider_line r.number) rel
  pub peers : r.peers ≡ count_by (is_peer_line r.number) rel
  pub customers : r.customers ≡ count_by (is_customer_line r.number) rel

-- ---- the ranks

-- the first stands before the second: it has more members, or as many and the lesser number
abbrev pub RanksBefore : Rank → Rank → Type 0
RanksBefore r s = (s.cone < r.cone) ⊎ ((r.cone ≡ s.cone) × (r.number < s.number))

-- from 1, one more than the ASes with more members
abbrev pub place_among : List Rank → Rank → ℕ
place_among ranks r = 1 + count_by (λ n. nat_lt r.cone n) (map (λ s. s.cone) ranks)

-- a rank for each AS that is named, in order
pub record AreRanks (rel : List RelLine) (ranks : List Rank) : Type 0 where
  pub each : (k : ℕ) (r : Rank) → slice_get ranks k ≡ Some r → IsMeasured rel r
  pub all : (a : ℕ) → IsNamed rel a → (r : Rank) × Has ranks r × (r.number ≡ a)
  pub order : (i j : ℕ) (r s : Rank) → i < j → slice_get ranks i ≡ Some r → slice_get ranks j ≡ Some s → RanksBefore r s
  pub places : (k : ℕ) (r : Rank) → slice_get ranks k ≡ Some r → r.place ≡ place_among ranks r
