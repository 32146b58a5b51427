-- How neighbours are counted. These words are the body's own: no reader of a public clause needs them.
use Rattle.std.specs.Prelude.{◌≡◌, ◌<◌, ◌^◌, ◌||◌, ◌==◌, ℕ, ◌+◌, Bool, List, Some, length, slice_get, if◌then◌else◌}
use Rattle.std.specs.List.{count_by}
use Rattle.tor_arena.specs.Limits.{most_places}
use Rattle.as_rel.specs.declared.line.RelKind.{RelKind}
use Rattle.as_rel.specs.declared.line.RelKind.TheVariants.{Transit, Peering}
use Rattle.as_rel.specs.declared.line.RelLine.{RelLine}
use Rattle.as_ranks.specs.declared.rank.Rank.{Rank}
use Rattle.as_ranks.specs.Ranks.{is_provider_line, is_peer_line, is_customer_line}

abbrev pub one_if : Bool → ℕ
one_if b = if b then 1 else 0

abbrev pub with_neighbour : Rank → RelKind → (is_first is_second : Bool) → Rank
with_neighbour r Transit is_first is_second =
    record r { providers = r.providers + one_if is_second; customers = r.customers + one_if is_first }
with_neighbour r Peering is_first is_second = record r { peers = r.peers + one_if (is_first || is_second) }

-- with one line more
abbrev pub with_line_counted : Rank → RelLine → Rank
with_line_counted r l = with_neighbour r l.kind (l.first == r.number) (l.second == r.number)

-- the rank of an AS with such a cone under these lines, without its place
abbrev pub rank_under : List RelLine → (number cone : ℕ) → Rank
rank_under rel number cone = record {
  place = 0;
  number = number;
  cone = cone;
  providers = count_by (is_provider_line number) rel;
  peers = count_by (is_peer_line number) rel;
  customers = count_by (is_customer_line number) rel;
}

-- in each place the rank of the AS of that place
pub record AreTallied (rel : List RelLine) (ases cones : List ℕ) (ranks : List Rank) : Type 0 where
  pub many : length ranks ≡ length ases
  pub each : (k : ℕ) (r : Rank) → slice_get ranks k ≡ Some r →
      (a n : ℕ) × (slice_get ases k ≡ Some a) × (slice_get cones k ≡ Some n) × (n < 2 ^ 32) × (r ≡ rank_under rel a n)

-- each count can grow
pub record HasSmallCounts (r : Rank) : Type 0 where
  pub providers : r.providers < most_places
  pub peers : r.peers < most_places
  pub customers : r.customers < most_places
