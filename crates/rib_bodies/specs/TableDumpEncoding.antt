-- How the body of a TABLE_DUMP record is encoded (RFC 6396, section 4.2), and the law that a body is read exactly if it is so
-- encoded.
use Rattle.std.specs.Prelude.{◌≡◌, ◌↔◌, ℕ, ◌*◌, ◌≤◌, List, ◌++◌, length, Ok}
use Rattle.byteorder.specs.Endian.{big_number}
use Rattle.mrt_header.specs.declared.record_kind.Family.{Family}
use Rattle.mrt_header.specs.Kinds.{address_octets}
use Rattle.path_attrs.specs.Attributes.{Attribute, AreEncoded}
use Rattle.rib_bodies.specs.TableDump.{route_of}

-- the body is these fields, one behind the other, with these attributes, and nothing stands behind them. View, sequence,
-- prefix, status, time and peer are free.
pub record IsTableDump (family : Family) (body : List ℕ) (attributes : List Attribute) : Type 0 where
  pub view : List ℕ
  pub sequence : List ℕ
  pub prefix : List ℕ
  pub prefix_length : List ℕ
  pub status : List ℕ
  pub originated : List ℕ
  pub peer_ip : List ℕ
  pub peer_as : List ℕ
  pub attribute_length : List ℕ
  pub block : List ℕ
  pub view_octets : length view ≡ 2
  pub sequence_octets : length sequence ≡ 2
  pub prefix_octets : length prefix ≡ address_octets family
  pub prefix_length_octets : length prefix_length ≡ 1
  pub prefix_fits : big_number 1 prefix_length ≤ 8 * address_octets family
  pub status_octets : length status ≡ 1
  pub originated_octets : length originated ≡ 4
  pub peer_ip_octets : length peer_ip ≡ address_octets family
  pub peer_as_octets : length peer_as ≡ 2
  pub attribute_length_octets : length attribute_length ≡ 2
  pub block_octets : length block ≡ big_number 2 attribute_length
  pub block_attributes : AreEncoded attributes block
  pub encoded :
      body ≡ view ++ sequence ++ prefix ++ prefix_length ++ status ++ originated ++ peer_ip ++ peer_as ++ attribute_length ++ block

-- a body gives a route of these attributes exactly if it is the encoding of a TABLE_DUMP record with them
abbrev pub TableDumpLaw : Type 0
TableDumpLaw =
    (family : Family) (body : List ℕ) (attributes : List Attribute) →
    (route_of family body ≡ Ok attributes) ↔ IsTableDump family body attributes
