-- The prefix of a RIB (RFC 6396, section 4.3.2; RFC 8050, section 4), and the prefix and the peer of a TABLE_DUMP record (RFC 6396,
-- section 4.2).
use Rattle.std.specs.Prelude.{ℕ, ◌+◌, ◌*◌, ◌/◌, nat_le, List, Result, Ok}
use Rattle.mrt_header.specs.declared.record_kind.Family.{Family}
use Rattle.mrt_header.specs.Kinds.{address_octets}
use Rattle.path_attrs.specs.declared.fault.RibFault.{RibFault}
use Rattle.path_attrs.specs.declared.fault.RibFault.TheVariants.{Cut, PrefixLong}
use Rattle.path_attrs.specs.Fields.{◌>>=◌, octets, number, fault_unless}
use Rattle.rib_bodies.specs.declared.peers.Peer.{Peer}
use Rattle.rib_bodies.specs.declared.prefix.Prefix.{Prefix}
use Rattle.rib_bodies.specs.Addresses.{prefix_of}
use Rattle.rib_bodies.specs.Peers.{address_at}

-- the prefix of a RIB, or the first fault of the fields up to it
unfoldable pub rib_prefix : Family → List ℕ → Result Prefix RibFault
rib_prefix family body = do
  sequence ← octets Cut 4 body
  prefix_length ← number Cut 1 sequence.1
  fits ← fault_unless PrefixLong (nat_le prefix_length.0 (8 * address_octets family))
  prefix ← octets Cut ((prefix_length.0 + 7) / 8) prefix_length.1
  Ok (prefix_of family prefix_length.0 prefix.0)

-- the prefix of a TABLE_DUMP record, and the octets behind it, or the first fault of the fields up to it
unfoldable pub table_dump_prefix : Family → List ℕ → Result (Prefix × List ℕ) RibFault
table_dump_prefix family body = do
  view ← octets Cut 2 body
  sequence ← octets Cut 2 view.1
  prefix ← octets Cut (address_octets family) sequence.1
  prefix_length ← number Cut 1 prefix.1
  fits ← fault_unless PrefixLong (nat_le prefix_length.0 (8 * address_octets family))
  Ok (prefix_of family prefix_length.0 prefix.0, prefix_length.1)

-- where a route of a TABLE_DUMP record comes from: its prefix and its peer, or the first fault of the fields up to these
unfoldable pub table_dump_origin : Family → List ℕ → Result (Prefix × Peer) RibFault
table_dump_origin family body = do
  prefix ← table_dump_prefix family body
  status ← octets Cut 1 prefix.1
  originated ← octets Cut 4 status.1
  address ← address_at family originated.1
  as_number ← number Cut 2 address.1
  Ok (prefix.0, record { as_number = as_number.0; address = address.0 })
