-- How the body of a PEER_INDEX_TABLE record is encoded (RFC 6396, section 4.3.1), and that of a RIB (sections 4.3.2 and 4.3.4;
-- RFC 8050, section 4), and the laws that a body is read exactly if it is so encoded.
use Rattle.std.specs.Prelude.{◌≡◌, ◌↔◌, ℕ, zero, suc, ◌+◌, ◌*◌, ◌/◌, ◌<◌, ◌≤◌, ◌==◌, bit_and, List, [], ◌∷◌, ◌++◌, length, Some, Ok}
use Rattle.std.specs.Prelude.{if◌then◌else◌}
use Rattle.byteorder.specs.Endian.{big_number}
use Rattle.mrt_header.specs.declared.record_kind.EntryForm.{EntryForm}
use Rattle.mrt_header.specs.declared.record_kind.RibForm.{RibForm}
use Rattle.mrt_header.specs.Kinds.{address_octets}
use Rattle.path_attrs.specs.Attributes.{AreEncoded}
use Rattle.rib_bodies.specs.declared.peer_table.Peers.{Peers}
use Rattle.rib_bodies.specs.declared.rib.Entry.{Entry}
use Rattle.rib_bodies.specs.PeerTable.{peers_of}
use Rattle.rib_bodies.specs.Rib.{path_id_octets, rib_of}

-- ---- peer tables

-- how many octets the address and the AS number of a peer have: its type says by 0x01 an IPv6 address, and by 0x02 an AS
-- number of four octets
abbrev pub octets_of_ip : ℕ → ℕ
octets_of_ip peer_type = if bit_and peer_type 0x01 == 0 then 4 else 16

abbrev pub octets_of_as : ℕ → ℕ
octets_of_as peer_type = if bit_and peer_type 0x02 == 0 then 2 else 4

-- the octets are the fields of a peer, one behind the other
pub record IsPeer (bytes : List ℕ) : Type 0 where
  pub peer_type : List ℕ
  pub bgp_id : List ℕ
  pub ip : List ℕ
  pub as_number : List ℕ
  pub peer_type_octets : length peer_type ≡ 1
  pub bgp_id_octets : length bgp_id ≡ 4
  pub ip_octets : length ip ≡ octets_of_ip (big_number 1 peer_type)
  pub as_number_octets : length as_number ≡ octets_of_as (big_number 1 peer_type)
  pub encoded : bytes ≡ peer_type ++ bgp_id ++ ip ++ as_number

-- so many peers, one behind the other, and nothing else
abbrev pub ArePeers : ℕ → List ℕ → Type 0
ArePeers zero bytes = bytes ≡ []
ArePeers (suc count) bytes = (peer : List ℕ) × (rest : List ℕ) × IsPeer peer × ArePeers count rest × (bytes ≡ peer ++ rest)

-- the body is these fields, one behind the other, with so many peers, and nothing stands behind them
pub record IsPeerTable (body : List ℕ) (table : Peers) : Type 0 where
  pub collector_id : List ℕ
  pub name_length : List ℕ
  pub name : List ℕ
  pub peer_count : List ℕ
  pub peers : List ℕ
  pub collector_id_octets : length collector_id ≡ 4
  pub name_length_octets : length name_length ≡ 2
  pub name_octets : length name ≡ big_number 2 name_length
  pub peer_count_octets : length peer_count ≡ 2
  pub count : big_number 2 peer_count ≡ table.count
  pub peers_encoded : ArePeers table.count peers
  pub encoded : body ≡ collector_id ++ name_length ++ name ++ peer_count ++ peers

-- a body gives this peer table exactly if it is the encoding of one with so many peers
abbrev pub PeerTableLaw : Type 0
PeerTableLaw = (body : List ℕ) (table : Peers) → (peers_of body ≡ Ok table) ↔ IsPeerTable body table

-- ---- RIBs

-- the octets are the fields of this entry, one behind the other, of which those have a path identifier whose form has one; its
-- peer is one of so many, and its originated time and its path identifier are free
pub record IsEntry (form : EntryForm) (peers : ℕ) (bytes : List ℕ) (entry : Entry) : Type 0 where
  pub peer_index : List ℕ
  pub originated : List ℕ
  pub path_id : List ℕ
  pub attribute_length : List ℕ
  pub block : List ℕ
  pub peer_index_octets : length peer_index ≡ 2
  pub originated_octets : length originated ≡ 4
  pub path_id_size : length path_id ≡ path_id_octets form
  pub attribute_length_octets : length attribute_length ≡ 2
  pub block_octets : length block ≡ big_number 2 attribute_length
  pub peer : big_number 2 peer_index ≡ entry.peer
  pub peer_in_range : entry.peer < peers
  pub block_attributes : AreEncoded entry.attrs block
  pub encoded : bytes ≡ peer_index ++ originated ++ path_id ++ attribute_length ++ block

-- the entries, one behind the other, and nothing else
abbrev pub AreEntries : EntryForm → ℕ → List Entry → List ℕ → Type 0
AreEntries form peers [] bytes = bytes ≡ []
AreEntries form peers (entry ∷ entries) bytes =
    (first : List ℕ) × (rest : List ℕ) × IsEntry form peers first entry × AreEntries form peers entries rest
    × (bytes ≡ first ++ rest)

-- the body is these fields, one behind the other, with these entries, and nothing stands behind them. A prefix is no longer than
-- an address, and stands in whole octets.
pub record IsRib (form : RibForm) (peers : ℕ) (body : List ℕ) (entries : List Entry) : Type 0 where
  pub sequence : List ℕ
  pub prefix_length : List ℕ
  pub prefix : List ℕ
  pub entry_count : List ℕ
  pub rib_entries : List ℕ
  pub sequence_octets : length sequence ≡ 4
  pub prefix_length_octets : length prefix_length ≡ 1
  pub prefix_fits : big_number 1 prefix_length ≤ 8 * address_octets form.family
  pub prefix_octets : length prefix ≡ (big_number 1 prefix_length + 7) / 8
  pub entry_count_octets : length entry_count ≡ 2
  pub count : big_number 2 entry_count ≡ length entries
  pub entries_encoded : AreEntries form.entries peers entries rib_entries
  pub encoded : body ≡ sequence ++ prefix_length ++ prefix ++ entry_count ++ rib_entries

-- behind a table of so many peers, a body gives these entries exactly if it is the encoding of a RIB with them
abbrev pub RibLaw : Type 0
RibLaw =
    (form : RibForm) (peers : ℕ) (body : List ℕ) (entries : List Entry) →
    (rib_of form (Some peers) body ≡ Ok entries) ↔ IsRib form peers body entries
