-- Bodies that were worked by hand.
use Rattle.std.proofs.Common.{◌≡◌, ℕ, List, [], ◌∷◌, ◌++◌, Some, None, Ok, Err, refl}
use Rattle.mrt_header.specs.declared.record_kind.RibForm.{RibForm}
use Rattle.mrt_header.specs.declared.record_kind.Family.{Family}
use Rattle.mrt_header.specs.declared.record_kind.EntryForm.{EntryForm}
use Rattle.mrt_header.specs.declared.record_kind.Family.TheVariants.{Ipv4, Ipv6}
use Rattle.mrt_header.specs.declared.record_kind.EntryForm.TheVariants.{Plain, WithPathId}
use Rattle.path_attrs.specs.declared.fault.RibFault.TheVariants.{Cut, Tail, PrefixLong, NoPeerTable, PeerRange, AttrCut}
use Rattle.path_attrs.specs.Attributes.{attribute, attributes_within, attributes_of}
use Rattle.rib_bodies.specs.declared.rib.Entry.{Entry}
use Rattle.rib_bodies.specs.PeerTable.{behind_peer, behind_peers, peers_of}
use Rattle.rib_bodies.specs.Rib.{head, entry, entry_fields, entries_of, rib_of}

abbrev form : Family → EntryForm → RibForm
form family entries = record { family = family; entries = entries }

-- one peer, 192.0.2.2 of AS 10 in four octets
table : List ℕ
table = 192 ∷ 0 ∷ 2 ∷ 1 ∷ 0 ∷ 0 ∷ 0 ∷ 1 ∷ 2 ∷ 10 ∷ 0 ∷ 0 ∷ 1 ∷ 192 ∷ 0 ∷ 2 ∷ 2 ∷ 0 ∷ 0 ∷ 0 ∷ 10 ∷ []

one_peer : peers_of table ≡ Ok (record { count = 1 })
unfolding peers_of behind_peers behind_peer table
one_peer = refl

no_peers : peers_of (192 ∷ 0 ∷ 2 ∷ 1 ∷ 0 ∷ 0 ∷ 0 ∷ 0 ∷ []) ≡ Ok (record { count = 0 })
unfolding peers_of behind_peers
no_peers = refl

-- a view of the name `a`, a peer over IPv6 with an AS of two octets, and one over IPv6 with an AS of four
over_ipv6 : peers_of (192 ∷ 0 ∷ 2 ∷ 1 ∷ 0 ∷ 1 ∷ 97 ∷ 0 ∷ 2
    ∷ 1 ∷ 10 ∷ 0 ∷ 0 ∷ 1 ∷ 32 ∷ 1 ∷ 13 ∷ 184 ∷ 0 ∷ 0 ∷ 0 ∷ 0 ∷ 0 ∷ 0 ∷ 0 ∷ 0 ∷ 0 ∷ 0 ∷ 0 ∷ 1 ∷ 32 ∷ 28
    ∷ 3 ∷ 10 ∷ 0 ∷ 0 ∷ 1 ∷ 32 ∷ 1 ∷ 13 ∷ 184 ∷ 0 ∷ 0 ∷ 0 ∷ 0 ∷ 0 ∷ 0 ∷ 0 ∷ 0 ∷ 0 ∷ 0 ∷ 0 ∷ 1 ∷ 0 ∷ 0 ∷ 32 ∷ 28 ∷ []) ≡ Ok (record { count = 2 })
unfolding peers_of behind_peers behind_peer
over_ipv6 = refl

table_and_more : peers_of (table ++ 0 ∷ []) ≡ Err Tail
unfolding peers_of behind_peers behind_peer table
table_and_more = refl

table_cut : peers_of (192 ∷ 0 ∷ 2 ∷ 1 ∷ 0 ∷ 0 ∷ 0 ∷ 1 ∷ 2 ∷ 10 ∷ 0 ∷ 0 ∷ 1 ∷ 192 ∷ 0 ∷ 2 ∷ 2 ∷ 0 ∷ 0 ∷ 0 ∷ []) ≡ Err Cut
unfolding peers_of behind_peers behind_peer
table_cut = refl

-- the AS_PATH 10 20 in numbers of four octets
path : List ℕ
path = 2 ∷ 2 ∷ 0 ∷ 0 ∷ 0 ∷ 10 ∷ 0 ∷ 0 ∷ 0 ∷ 20 ∷ []

-- the fields behind the peer index: the time, and ORIGIN and AS_PATH
fields : List ℕ
fields = 0 ∷ 0 ∷ 0 ∷ 0 ∷ 0 ∷ 17 ∷ 64 ∷ 1 ∷ 1 ∷ 0 ∷ 64 ∷ 2 ∷ 10 ∷ path

-- one entry of the peer, for the prefix 10.0.1.0/24
one : ℕ → List ℕ
one peer = 0 ∷ 0 ∷ 0 ∷ 0 ∷ 24 ∷ 10 ∷ 0 ∷ 1 ∷ 0 ∷ 1 ∷ 0 ∷ peer ∷ fields

expected : Entry
expected = record { peer = 0; attrs = record { code = 1; value = 0 ∷ [] } ∷ record { code = 2; value = path } ∷ [] }

one_edge : rib_of (form Ipv4 Plain) (Some 1) (one 0) ≡ Ok (expected ∷ [])
unfolding rib_of head entries_of entry entry_fields attributes_of attributes_within attribute one fields path expected
one_edge = refl

no_table : rib_of (form Ipv4 Plain) None (one 0) ≡ Err NoPeerTable
unfolding rib_of
no_table = refl

no_table_nor_octets : rib_of (form Ipv4 Plain) None [] ≡ Err NoPeerTable
unfolding rib_of
no_table_nor_octets = refl

peer_1_of_one : rib_of (form Ipv4 Plain) (Some 1) (one 1) ≡ Err PeerRange
unfolding rib_of head entries_of entry entry_fields one fields path
peer_1_of_one = refl

peer_0_of_none : rib_of (form Ipv4 Plain) (Some 0) (one 0) ≡ Err PeerRange
unfolding rib_of head entries_of entry entry_fields one fields path
peer_0_of_none = refl

-- the peer index shows its fault before a later field that is not whole
peer_1_alone : rib_of (form Ipv4 Plain) (Some 1) (0 ∷ 0 ∷ 0 ∷ 0 ∷ 0 ∷ 0 ∷ 1 ∷ 0 ∷ 1 ∷ []) ≡ Err PeerRange
unfolding rib_of head entries_of entry entry_fields
peer_1_alone = refl

prefix_length_33 : rib_of (form Ipv4 Plain) (Some 1) (0 ∷ 0 ∷ 0 ∷ 0 ∷ 33 ∷ []) ≡ Err PrefixLong
unfolding rib_of head
prefix_length_33 = refl

prefix_length_129 : rib_of (form Ipv6 Plain) (Some 1) (0 ∷ 0 ∷ 0 ∷ 0 ∷ 129 ∷ []) ≡ Err PrefixLong
unfolding rib_of head
prefix_length_129 = refl

prefix_length_0 : rib_of (form Ipv4 Plain) (Some 1) (0 ∷ 0 ∷ 0 ∷ 0 ∷ 0 ∷ 0 ∷ 1 ∷ 0 ∷ 0 ∷ fields) ≡ Ok (expected ∷ [])
unfolding rib_of head entries_of entry entry_fields attributes_of attributes_within attribute fields path expected
prefix_length_0 = refl

-- 25 bits stand in four octets
prefix_length_25 : rib_of (form Ipv6 Plain) (Some 1) (0 ∷ 0 ∷ 0 ∷ 0 ∷ 25 ∷ 10 ∷ 0 ∷ 1 ∷ 128 ∷ 0 ∷ 1 ∷ 0 ∷ 0 ∷ fields) ≡ Ok (expected ∷ [])
unfolding rib_of head entries_of entry entry_fields attributes_of attributes_within attribute fields path expected
prefix_length_25 = refl

no_entries : rib_of (form Ipv4 Plain) (Some 1) (0 ∷ 0 ∷ 0 ∷ 0 ∷ 24 ∷ 10 ∷ 0 ∷ 1 ∷ 0 ∷ 0 ∷ []) ≡ Ok []
unfolding rib_of head entries_of
no_entries = refl

one_octet_more : rib_of (form Ipv4 Plain) (Some 1) (one 0 ++ 0 ∷ []) ≡ Err Tail
unfolding rib_of head entries_of entry entry_fields attributes_of attributes_within attribute one fields path
one_octet_more = refl

one_octet_less : rib_of (form Ipv4 Plain) (Some 1) (0 ∷ 0 ∷ 0 ∷ 0 ∷ 24 ∷ 10 ∷ 0 ∷ 1 ∷ 0 ∷ 1 ∷ 0 ∷ 0 ∷ 0 ∷ 0 ∷ 0 ∷ 0 ∷ 0 ∷ 17 ∷ 64 ∷ 1 ∷ 1 ∷ 0 ∷ 64 ∷ 2 ∷ 10 ∷ 2 ∷ 2 ∷ 0 ∷ 0 ∷ 0 ∷ 10 ∷ 0 ∷ 0 ∷ 0 ∷ [])
    ≡ Err Cut
unfolding rib_of head entries_of entry entry_fields
one_octet_less = refl

-- the flag of a length in two octets
extended_length : rib_of (form Ipv4 Plain) (Some 1) (0 ∷ 0 ∷ 0 ∷ 0 ∷ 24 ∷ 10 ∷ 0 ∷ 1 ∷ 0 ∷ 1 ∷ 0 ∷ 0 ∷ 0 ∷ 0 ∷ 0 ∷ 0 ∷ 0 ∷ 18 ∷ 64 ∷ 1 ∷ 1 ∷ 0 ∷ 80 ∷ 2 ∷ 0 ∷ 10 ∷ path) ≡ Ok (expected ∷ [])
unfolding rib_of head entries_of entry entry_fields attributes_of attributes_within attribute path expected
extended_length = refl

-- an AS_PATH whose length is one octet too great
cut_attribute : rib_of (form Ipv4 Plain) (Some 1) (0 ∷ 0 ∷ 0 ∷ 0 ∷ 24 ∷ 10 ∷ 0 ∷ 1 ∷ 0 ∷ 1 ∷ 0 ∷ 0 ∷ 0 ∷ 0 ∷ 0 ∷ 0 ∷ 0 ∷ 17 ∷ 64 ∷ 1 ∷ 1 ∷ 0 ∷ 64 ∷ 2 ∷ 11 ∷ path) ≡ Err AttrCut
unfolding rib_of head entries_of entry entry_fields attributes_of attributes_within attribute path
cut_attribute = refl

-- ---- entries with path identifiers

-- the path identifier 7 behind the time
with_path_id : List ℕ
with_path_id = 0 ∷ 0 ∷ 0 ∷ 0 ∷ 0 ∷ 0 ∷ 0 ∷ 7 ∷ 0 ∷ 17 ∷ 64 ∷ 1 ∷ 1 ∷ 0 ∷ 64 ∷ 2 ∷ 10 ∷ path

one_edge_with_path_id : rib_of (form Ipv4 WithPathId) (Some 1) (0 ∷ 0 ∷ 0 ∷ 0 ∷ 24 ∷ 10 ∷ 0 ∷ 1 ∷ 0 ∷ 1 ∷ 0 ∷ 0 ∷ with_path_id) ≡ Ok (expected ∷ [])
unfolding rib_of head entries_of entry entry_fields attributes_of attributes_within attribute with_path_id path expected
one_edge_with_path_id = refl

-- 33 bits are too many for an address of IPv4, and not for one of IPv6
one_edge_with_path_id_over_ipv6 : rib_of (form Ipv6 WithPathId) (Some 1) (0 ∷ 0 ∷ 0 ∷ 0 ∷ 33 ∷ 32 ∷ 1 ∷ 13 ∷ 184 ∷ 128 ∷ 0 ∷ 1 ∷ 0 ∷ 0 ∷ with_path_id) ≡ Ok (expected ∷ [])
unfolding rib_of head entries_of entry entry_fields attributes_of attributes_within attribute with_path_id path expected
one_edge_with_path_id_over_ipv6 = refl

prefix_length_33_with_path_id : rib_of (form Ipv4 WithPathId) (Some 1) (0 ∷ 0 ∷ 0 ∷ 0 ∷ 33 ∷ []) ≡ Err PrefixLong
unfolding rib_of head
prefix_length_33_with_path_id = refl

-- the body of plain entries, and that of entries with path identifiers, each read as the other: the two octets behind the time
-- are taken for the attributes' length, and the attributes for a path identifier and a length
form_taken_for_the_other : (rib_of (form Ipv4 Plain) (Some 1) (0 ∷ 0 ∷ 0 ∷ 0 ∷ 24 ∷ 10 ∷ 0 ∷ 1 ∷ 0 ∷ 1 ∷ 0 ∷ 0 ∷ with_path_id) ≡ Err Tail)
    × (rib_of (form Ipv4 WithPathId) (Some 1) (one 0) ≡ Err Cut)
unfolding rib_of head entries_of entry entry_fields attributes_of attributes_within with_path_id one fields path
form_taken_for_the_other = (refl, refl)

-- a path identifier that is not whole
path_id_cut : rib_of (form Ipv4 WithPathId) (Some 1) (0 ∷ 0 ∷ 0 ∷ 0 ∷ 24 ∷ 10 ∷ 0 ∷ 1 ∷ 0 ∷ 1 ∷ 0 ∷ 0 ∷ 0 ∷ 0 ∷ 0 ∷ 0 ∷ 0 ∷ 0 ∷ 0 ∷ []) ≡ Err Cut
unfolding rib_of head entries_of entry entry_fields
path_id_cut = refl
