use Rattle.std.proofs.Common.{◌≡◌, ◌++◌, length, map, Some}
use Rattle.rib_bodies.specs.declared.peers.Peer.{Peer}
use Rattle.dump_read.specs.Wanted.{peer_counts}
use Rattle.dump_read.proofs.last_peers.mark_peers.Given as goal

-- the marks so far, and those of the peers that are left
abbrev pub invariant-peers : goal.invariant-peers
invariant-peers l =
    l.marks ++ map (λ (peer : Peer). peer_counts (Some l.ases) peer.as_number) l.left ≡ map (λ (peer : Peer). peer_counts (Some l.ases) peer.as_number) l.fn.peers

abbrev pub decreases-peers : goal.decreases-peers
decreases-peers l = length l.left
