-- What is kept of the last peer table of a file, for the routes behind it. These words are those of the code alone.
use Rattle.std.specs.Prelude.{◌≡◌, ℕ, Bool, true, false, ◌&&◌, List, [], length, map, slice_get, Option, Some, None, option_map, unwrap_or}
use Rattle.mrt_header.specs.declared.record_kind.Family.{Family}
use Rattle.rib_bodies.specs.declared.peers.Peer.{Peer}
use Rattle.rib_bodies.specs.declared.rib.Entry.{Entry}
use Rattle.dump_read.specs.declared.last_peers.LastPeers.{LastPeers}
use Rattle.dump_read.specs.Wanted.{Wanted, family_counts, peer_counts}

-- how many peers the table has, if there is one
abbrev pub peers_in : LastPeers → Option ℕ
peers_in last = option_map (λ table. table.count) last.table

-- where a list says whose routes count, each peer is marked by whether its do
abbrev pub MarkPeers : Option (List ℕ) → List Peer → List Bool → Type 0
MarkPeers None peers marks = Unit {0}
MarkPeers (Some ases) peers marks = marks ≡ map (λ peer. peer_counts (Some ases) peer.as_number) peers

-- this is kept of the last peer table, which names these peers
pub record IsLastTable (wanted : Wanted) (named : Option (List Peer)) (last : LastPeers) : Type 0 where
  pub many : peers_in last ≡ option_map length named
  pub marks : MarkPeers wanted.from (unwrap_or named []) last.marks

-- whichever peers the last table names of which this is kept
abbrev pub Whichever : Wanted → LastPeers → (Option (List Peer) → Type 0) → Type 0
Whichever wanted last Holds = (named : Option (List Peer)) → IsLastTable wanted named last → Holds named

-- routes of the peer of this place count
abbrev pub place_counts : Option (List ℕ) → List Bool → ℕ → Bool
place_counts None marks place = true
place_counts (Some ases) marks place = unwrap_or (slice_get marks place) false

-- the route of an entry counts
abbrev pub entry_counts : Wanted → Family → List Bool → Entry → Bool
entry_counts wanted family marks entry = family_counts wanted.families family && place_counts wanted.from marks entry.peer
