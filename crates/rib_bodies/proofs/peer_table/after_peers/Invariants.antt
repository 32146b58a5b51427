use Rattle.std.proofs.Common.{◌≡◌, ◌-◌}
use Rattle.rib_bodies.specs.PeerTable.{behind_peers}
use Rattle.rib_bodies.proofs.peer_table.after_peers.Given as goal

-- what stands behind the peers that are left is what stands behind all
abbrev pub invariant-peers : goal.invariant-peers
invariant-peers l = behind_peers (l.count - l.counter) l.rest ≡ behind_peers l.count l.bytes
