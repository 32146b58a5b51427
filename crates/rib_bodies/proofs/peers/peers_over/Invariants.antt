use Rattle.std.proofs.Common.{◌≡◌, ◌-◌, List, length}
use Rattle.rib_bodies.specs.declared.peers.Peer.{Peer}
use Rattle.rib_bodies.specs.Peers.{peers_at}
use Rattle.rib_bodies.proofs.PeerLoops.{with_peers}
use Rattle.rib_bodies.proofs.peers.peers_over.Given as goal

-- one peer for each turn, and with those that are left they are all
abbrev pub invariant-peers : goal.invariant-peers
invariant-peers l = (before : List Peer) × (length before ≡ l.counter)
    × (with_peers before (peers_at (l.count - l.counter) l.rest) ≡ peers_at l.count l.bytes)
