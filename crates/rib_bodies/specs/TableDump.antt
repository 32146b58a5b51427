-- The body of a TABLE_DUMP record (RFC 6396, section 4.2).
use Rattle.std.specs.Prelude.{ℕ, ◌*◌, ◌==◌, nat_le, List, length, Result, Ok}
use Rattle.mrt_header.specs.declared.record_kind.Family.{Family}
use Rattle.mrt_header.specs.Kinds.{address_octets}
use Rattle.path_attrs.specs.declared.fault.RibFault.{RibFault}
use Rattle.path_attrs.specs.declared.fault.RibFault.TheVariants.{Cut, Tail, PrefixLong, AttrCut}
use Rattle.path_attrs.specs.Fields.{◌>>=◌, octets, number, fault_unless, or_fault}
use Rattle.path_attrs.specs.Attributes.{Attribute, attributes_of}

-- the octets behind the fields between the prefix and the attributes
abbrev pub behind_route_fields : Family → List ℕ → Result (List ℕ) RibFault
behind_route_fields family fields = do
  status ← octets Cut 1 fields
  originated ← octets Cut 4 status.1
  peer_ip ← octets Cut (address_octets family) originated.1
  peer_as ← octets Cut 2 peer_ip.1
  Ok peer_as.1

-- the octets behind the fields before the attributes; a prefix is no longer than an address
unfoldable pub behind_fields : Family → List ℕ → Result (List ℕ) RibFault
behind_fields family body = do
  view ← octets Cut 2 body
  sequence ← octets Cut 2 view.1
  prefix ← octets Cut (address_octets family) sequence.1
  prefix_length ← number Cut 1 prefix.1
  fits ← fault_unless PrefixLong (nat_le prefix_length.0 (8 * address_octets family))
  behind_route_fields family prefix_length.1

-- the attributes of the route, or the first fault in the order of the fields
unfoldable pub route_of : Family → List ℕ → Result (List Attribute) RibFault
route_of family body = do
  rest ← behind_fields family body
  attribute_length ← number Cut 2 rest
  block ← octets Cut attribute_length.0 attribute_length.1
  attributes ← or_fault AttrCut (attributes_of block.0)
  end ← fault_unless Tail (length block.1 == 0)
  Ok attributes
