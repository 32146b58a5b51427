-- The peers of a PEER_INDEX_TABLE record as values (RFC 6396, section 4.3.1).
use Rattle.std.specs.Prelude.{ℕ, zero, suc, ◌==◌, bit_and, List, [], ◌∷◌, length, Result, Ok, if◌then◌else◌}
use Rattle.std.specs.Result.{result_unwrap_or}
use Rattle.std.specs.declared.net.ip_addr.IpAddr.{IpAddr}
use Rattle.mrt_header.specs.declared.record_kind.Family.{Family}
use Rattle.mrt_header.specs.declared.record_kind.Family.TheVariants.{Ipv4, Ipv6}
use Rattle.mrt_header.specs.Kinds.{address_octets}
use Rattle.path_attrs.specs.declared.fault.RibFault.{RibFault}
use Rattle.path_attrs.specs.declared.fault.RibFault.TheVariants.{Cut, Tail}
use Rattle.path_attrs.specs.Fields.{◌>>=◌, octets, number, fault_unless}
use Rattle.rib_bodies.specs.declared.peers.Peer.{Peer}
use Rattle.rib_bodies.specs.Addresses.{address_of}
use Rattle.rib_bodies.specs.Encoding.{octets_of_as}

-- the address that stands first, and the octets behind it
abbrev pub address_at : Family → List ℕ → Result (IpAddr × List ℕ) RibFault
address_at family bytes = do
  field ← octets Cut (address_octets family) bytes
  Ok (address_of family field.0, field.1)

-- the type of a peer says by 0x01 an IPv6 address
abbrev pub family_of_peer : ℕ → Family
family_of_peer peer_type = if bit_and peer_type 0x01 == 0 then Ipv4 else Ipv6

-- the peer that stands first, and the octets behind it
unfoldable pub first_peer : List ℕ → Result (Peer × List ℕ) RibFault
first_peer bytes = do
  peer_type ← number Cut 1 bytes
  bgp_id ← octets Cut 4 peer_type.1
  address ← address_at (family_of_peer peer_type.0) bgp_id.1
  as_number ← number Cut (octets_of_as peer_type.0) address.1
  Ok (record { as_number = as_number.0; address = address.0 }, as_number.1)

-- so many peers, and nothing behind them
unfoldable pub peers_at : ℕ → List ℕ → Result (List Peer) RibFault
peers_at zero bytes = do
  end ← fault_unless Tail (length bytes == 0)
  Ok []
peers_at (suc count) bytes = do
  first ← first_peer bytes
  others ← peers_at count first.1
  Ok (first.0 ∷ others)

-- those of octets that have so many and nothing behind them
unfoldable pub peers_of_count : ℕ → List ℕ → List Peer
peers_of_count count bytes = result_unwrap_or (peers_at count bytes) []

-- how many peers a table has, and the octets behind that number
unfoldable pub table_head : List ℕ → Result (ℕ × List ℕ) RibFault
table_head body = do
  collector ← octets Cut 4 body
  name_length ← number Cut 2 collector.1
  name ← octets Cut name_length.0 name_length.1
  number Cut 2 name.1

-- the peers that a table names, by their places, or the first fault in the order of the fields
unfoldable pub peers_named : List ℕ → Result (List Peer) RibFault
peers_named body = do
  peer_count ← table_head body
  peers_at peer_count.0 peer_count.1
