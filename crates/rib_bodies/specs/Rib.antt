-- The bodies of RIB_IPV4_UNICAST and RIB_IPV6_UNICAST records (RFC 6396, sections 4.3.2 and 4.3.4), and of
-- RIB_IPV4_UNICAST_ADDPATH and RIB_IPV6_UNICAST_ADDPATH records (RFC 8050, section 4).
use Rattle.std.specs.Prelude.{◌≡◌, ℕ, zero, suc, ◌+◌, ◌*◌, ◌/◌, ◌==◌, nat_lt, nat_le, List, [], ◌∷◌, length, Option, Some, None, Result, Ok}
use Rattle.std.specs.Prelude.{Err}
use Rattle.std.specs.Result.{result_unwrap_or}
use Rattle.mrt_header.specs.declared.record_kind.Family.{Family}
use Rattle.mrt_header.specs.declared.record_kind.EntryForm.{EntryForm}
use Rattle.mrt_header.specs.declared.record_kind.EntryForm.TheVariants.{Plain, WithPathId}
use Rattle.mrt_header.specs.declared.record_kind.RibForm.{RibForm}
use Rattle.mrt_header.specs.Kinds.{address_octets}
use Rattle.path_attrs.specs.declared.fault.RibFault.{RibFault}
use Rattle.path_attrs.specs.declared.fault.RibFault.TheVariants.{Cut, Tail, PrefixLong, NoPeerTable, PeerRange, AttrCut}
use Rattle.path_attrs.specs.Fields.{◌>>=◌, octets, number, fault_unless, or_fault}
use Rattle.path_attrs.specs.Attributes.{attributes_of}
use Rattle.rib_bodies.specs.declared.error.RibError.{RibError}
use Rattle.rib_bodies.specs.declared.error.RibError.TheVariants.{Fault, NoMemory}
use Rattle.rib_bodies.specs.declared.rib.Entry.{Entry}

-- how many octets the path identifier of an entry has
abbrev pub path_id_octets : EntryForm → ℕ
path_id_octets Plain = 0
path_id_octets WithPathId = 4

-- the count of entries, and the octets behind it; a prefix is no longer than an address, and stands in whole octets
unfoldable pub head : Family → List ℕ → Result (ℕ × List ℕ) RibFault
head family body = do
  sequence ← octets Cut 4 body
  prefix_length ← number Cut 1 sequence.1
  fits ← fault_unless PrefixLong (nat_le prefix_length.0 (8 * address_octets family))
  prefix ← octets Cut ((prefix_length.0 + 7) / 8) prefix_length.1
  number Cut 2 prefix.1

-- the index of an entry's peer, the octets of its attributes, and those behind it
pub record Fields : Type 0 where
  pub peer : ℕ
  pub block : List ℕ
  pub rest : List ℕ

-- the fields of the entry that stands first, where the peer table has so many peers; what a path identifier is isn't tested
unfoldable pub entry_fields : EntryForm → ℕ → List ℕ → Result Fields RibFault
entry_fields form peer_count bytes = do
  peer_index ← number Cut 2 bytes
  in_range ← fault_unless PeerRange (nat_lt peer_index.0 peer_count)
  originated ← octets Cut 4 peer_index.1
  path_id ← octets Cut (path_id_octets form) originated.1
  attribute_length ← number Cut 2 path_id.1
  block ← octets Cut attribute_length.0 attribute_length.1
  Ok (record { peer = peer_index.0; block = block.0; rest = block.1 })

-- one entry, and the octets behind it
unfoldable pub entry : EntryForm → ℕ → List ℕ → Result (Entry × List ℕ) RibFault
entry form peer_count bytes = do
  fields ← entry_fields form peer_count bytes
  attributes ← or_fault AttrCut (attributes_of fields.block)
  Ok (record { peer = fields.peer; attrs = attributes }, fields.rest)

-- so many entries, and nothing behind them
unfoldable pub entries_of : EntryForm → ℕ → ℕ → List ℕ → Result (List Entry) RibFault
entries_of form peer_count zero bytes = do
  end ← fault_unless Tail (length bytes == 0)
  Ok []
entries_of form peer_count (suc count) bytes = do
  first ← entry form peer_count bytes
  others ← entries_of form peer_count count first.1
  Ok (first.0 ∷ others)

-- those of octets that have so many and nothing behind them
unfoldable pub entries_in : EntryForm → ℕ → ℕ → List ℕ → List Entry
entries_in form peer_count count bytes = result_unwrap_or (entries_of form peer_count count bytes) []

-- the entries, or the first fault in the order of the fields; the peer table is there or not before any field
unfoldable pub rib_of : RibForm → Option ℕ → List ℕ → Result (List Entry) RibFault
rib_of form None body = Err NoPeerTable
rib_of form (Some peer_count) body = do
  entry_count ← head form.family body
  entries_of form.entries peer_count entry_count.0 entry_count.1

-- the answer is what reading gives, or memory ran out
abbrev pub IsAnswer : Result (List Entry) RibError → Result (List Entry) RibFault → Type 0
IsAnswer (Ok entries) read = read ≡ Ok entries
IsAnswer (Err (Fault fault)) read = read ≡ Err fault
IsAnswer (Err NoMemory) read = Unit {0}
