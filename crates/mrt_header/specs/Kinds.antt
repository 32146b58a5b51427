-- The records that are read, by what their bodies are.
use Rattle.std.specs.Prelude.{ℕ, ◌==◌, Bool, Option, Some, None, is_some, if◌then◌else◌}
use Rattle.mrt_header.specs.declared.record_kind.Family.{Family}
use Rattle.mrt_header.specs.declared.record_kind.Family.TheVariants.{Ipv4, Ipv6}
use Rattle.mrt_header.specs.declared.record_kind.EntryForm.{EntryForm}
use Rattle.mrt_header.specs.declared.record_kind.EntryForm.TheVariants.{Plain, WithPathId}
use Rattle.mrt_header.specs.declared.record_kind.RecordKind.{RecordKind}
use Rattle.mrt_header.specs.declared.record_kind.RecordKind.TheVariants.{TableDump, PeerTable, Rib}

-- how many octets an address has
abbrev pub address_octets : Family → ℕ
address_octets Ipv4 = 4
address_octets Ipv6 = 16

-- the subtypes of TABLE_DUMP (RFC 6396, section 4.2)
abbrev pub table_dump : ℕ → Option RecordKind
table_dump subtype =
    if subtype == 1 then Some (TableDump Ipv4)
    else if subtype == 2 then Some (TableDump Ipv6)
    else None

-- a RIB of this family, whose entries have this form
abbrev pub rib : Family → EntryForm → RecordKind
rib family entries = Rib (record { family = family; entries = entries })

-- the subtypes of TABLE_DUMP_V2: PEER_INDEX_TABLE, RIB_IPV4_UNICAST and RIB_IPV6_UNICAST (RFC 6396, section 4.3), and
-- RIB_IPV4_UNICAST_ADDPATH and RIB_IPV6_UNICAST_ADDPATH (RFC 8050, section 4)
abbrev pub table_dump_v2 : ℕ → Option RecordKind
table_dump_v2 subtype =
    if subtype == 1 then Some PeerTable
    else if subtype == 2 then Some (rib Ipv4 Plain)
    else if subtype == 4 then Some (rib Ipv6 Plain)
    else if subtype == 8 then Some (rib Ipv4 WithPathId)
    else if subtype == 10 then Some (rib Ipv6 WithPathId)
    else None

-- what the body of a record of this type and subtype is, if it is one that is read
abbrev pub kind_of : ℕ → ℕ → Option RecordKind
kind_of kind subtype =
    if kind == 12 then table_dump subtype
    else if kind == 13 then table_dump_v2 subtype
    else None

-- records of these are read, the others are passed over
abbrev pub is_read : ℕ → ℕ → Bool
is_read kind subtype = is_some (kind_of kind subtype)

-- the type and the subtype of a record that is read
abbrev pub type_of : RecordKind → ℕ
type_of (TableDump family) = 12
type_of PeerTable = 13
type_of (Rib form) = 13

abbrev pub rib_subtype : Family → EntryForm → ℕ
rib_subtype Ipv4 Plain = 2
rib_subtype Ipv6 Plain = 4
rib_subtype Ipv4 WithPathId = 8
rib_subtype Ipv6 WithPathId = 10

abbrev pub subtype_of : RecordKind → ℕ
subtype_of (TableDump Ipv4) = 1
subtype_of (TableDump Ipv6) = 2
subtype_of PeerTable = 1
subtype_of (Rib form) = rib_subtype form.family form.entries
