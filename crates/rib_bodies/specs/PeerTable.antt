-- The body of a PEER_INDEX_TABLE record (RFC 6396, section 4.3.1).
use Rattle.std.specs.Prelude.{ℕ, zero, suc, ◌==◌, bit_and, List, length, Result, Ok, if◌then◌else◌}
use Rattle.path_attrs.specs.declared.fault.RibFault.{RibFault}
use Rattle.path_attrs.specs.declared.fault.RibFault.TheVariants.{Cut, Tail}
use Rattle.path_attrs.specs.Fields.{◌>>=◌, octets, number, fault_unless}
use Rattle.rib_bodies.specs.declared.peer_table.Peers.{Peers}

-- the octets behind a peer, whose type says by 0x01 an IPv6 address and by 0x02 an AS number of four octets
unfoldable pub behind_peer : List ℕ → Result (List ℕ) RibFault
behind_peer bytes = do
  peer_type ← number Cut 1 bytes
  bgp_id ← octets Cut 4 peer_type.1
  ip ← octets Cut (if bit_and peer_type.0 1 == 0 then 4 else 16) bgp_id.1
  as_number ← octets Cut (if bit_and peer_type.0 2 == 0 then 2 else 4) ip.1
  Ok as_number.1

-- the octets behind so many peers
unfoldable pub behind_peers : ℕ → List ℕ → Result (List ℕ) RibFault
behind_peers zero bytes = Ok bytes
behind_peers (suc count) bytes = do
  rest ← behind_peer bytes
  behind_peers count rest

-- the peer table, or the first fault in the order of the fields
unfoldable pub peers_of : List ℕ → Result Peers RibFault
peers_of body = do
  collector ← octets Cut 4 body
  name_length ← number Cut 2 collector.1
  name ← octets Cut name_length.0 name_length.1
  peer_count ← number Cut 2 name.1
  rest ← behind_peers peer_count.0 peer_count.1
  end ← fault_unless Tail (length rest == 0)
  Ok (record { count = peer_count.0 })
