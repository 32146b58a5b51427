-- The octets of a dump: MRT records (RFC 6396) of TABLE_DUMP_V2, one peer table and then a RIB_IPV4_UNICAST record for each route.
use Rattle.std.specs.Prelude.{ℕ, zero, suc, ◌+◌, ◌*◌, List, [], ◌∷◌, ◌++◌, length}
use Rattle.std.specs.Int.{w16, w32, to_be_bytes}
use Rattle.std.specs.List.{flat_map}
use Rattle.tor_sample.specs.declared.networks.Providers.{Providers}
use Rattle.tor_sample.specs.Draws.{Drawn, ◌>>=◌, just}
use Rattle.tor_sample.specs.Networks.{networks}
use Rattle.tor_sample.specs.Paths.{route_path}

-- a record of TABLE_DUMP_V2, whose type is 13: its header, which is timestamp, type, subtype and the length of the body, and the body
abbrev pub sample_record : ℕ → List ℕ → List ℕ
sample_record subtype body =
    to_be_bytes w32 0 ++ (to_be_bytes w16 13 ++ (to_be_bytes w16 subtype ++ (to_be_bytes w32 (length body) ++ body)))

-- a peer table with an empty view name and one peer, whose AS number has four octets: the collector 192.0.2.1, and of the
-- peer its identifier 10.0.0.1, its address 192.0.2.2 and its AS number 10
abbrev pub peer_table : List ℕ
peer_table =
    sample_record 1 (192 ∷ 0 ∷ 2 ∷ 1 ∷ (to_be_bytes w16 0 ++ (to_be_bytes w16 1
    ++ 2 ∷ 10 ∷ 0 ∷ 0 ∷ 1 ∷ 192 ∷ 0 ∷ 2 ∷ 2 ∷ to_be_bytes w32 10)))

-- the numbers of the networks' ASes, each in four octets
abbrev pub as_numbers : List ℕ → List ℕ
as_numbers path = flat_map (λ network. to_be_bytes w32 (1000 + network)) path

-- ORIGIN, and an AS_PATH of one AS_SEQUENCE (RFC 4271, section 4.3)
abbrev pub sample_attributes : List ℕ → List ℕ
sample_attributes path = 64 ∷ 1 ∷ 1 ∷ 0 ∷ 64 ∷ 2 ∷ (2 + 4 * length path) ∷ 2 ∷ length path ∷ as_numbers path

-- the only entry of a RIB: the peer's index, the time and the attributes with their length in front
abbrev pub sample_entry : List ℕ → List ℕ
sample_entry path =
    to_be_bytes w16 0 ++ (to_be_bytes w32 0 ++ (to_be_bytes w16 (length (sample_attributes path)) ++ sample_attributes path))

-- the RIB of route k: its number, the prefix 10.x.y.0/24, in which x and y are the two octets of k, and one entry
abbrev pub sample_rib : ℕ → List ℕ → List ℕ
sample_rib k path = to_be_bytes w32 k ++ 24 ∷ 10 ∷ (to_be_bytes w16 k ++ (to_be_bytes w16 1 ++ sample_entry path))

-- the records of the first n routes
unfoldable pub records : List Providers → ℕ → Drawn (List ℕ)
records nets zero = just []
records nets (suc k) = do
  before ← records nets k
  path ← route_path nets k
  just (before ++ sample_record 2 (sample_rib k path))

-- a dump of this number of networks and of routes
abbrev pub dump : ℕ → ℕ → Drawn (List ℕ)
dump nets routes = do
  made ← networks nets
  octets ← records made routes
  just (peer_table ++ octets)

-- the dump that a number gives: the networks 10 to 1999 and 20000 routes
unfoldable pub sample : ℕ → List ℕ
sample seed = (dump 1990 20000 seed).0
