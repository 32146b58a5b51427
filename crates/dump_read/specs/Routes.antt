-- What a record of a dump gives (RFC 6396, sections 4.2 and 4.3).
use Rattle.std.specs.Prelude.{ℕ, List, [], ◌∷◌, length, map, get_or, Option, Some, None, option_map, unwrap_or, Result, Ok}
use Rattle.std.specs.Result.{result_ok}
use Rattle.path_attrs.specs.declared.fault.RibFault.{RibFault}
use Rattle.path_segments.specs.declared.as_path.Width.{Width}
use Rattle.path_segments.specs.declared.as_path.Width.TheVariants.{Two, Four}
use Rattle.path_attrs.specs.Fields.{◌>>=◌}
use Rattle.path_attrs.specs.Attributes.{Attribute}
use Rattle.rib_bodies.specs.TableDump.{route_of}
use Rattle.rib_bodies.specs.declared.rib.Entry.{Entry}
use Rattle.rib_bodies.specs.declared.peers.Peer.{Peer}
use Rattle.rib_bodies.specs.Origins.{table_dump_origin}
use Rattle.rib_bodies.specs.Peers.{peers_named}
use Rattle.rib_bodies.specs.Rib.{rib_of}
use Rattle.mrt_frame.specs.Records.{Record}
use Rattle.mrt_header.specs.declared.record_kind.Family.{Family}
use Rattle.mrt_header.specs.declared.record_kind.RibForm.{RibForm}
use Rattle.mrt_header.specs.Kinds.{kind_of}
use Rattle.mrt_header.specs.declared.record_kind.RecordKind.{RecordKind}
use Rattle.mrt_header.specs.declared.record_kind.RecordKind.TheVariants.{TableDump, PeerTable, Rib}

-- the path attributes of a route, and how many octets an AS number has in them; the family of its record, whatever that of its peer's
-- address, and the AS of its peer
pub record Route : Type 0 where
  pub attrs : List Attribute
  pub width : Width
  pub family : Family
  pub peer : ℕ

-- one route whose numbers have two octets
abbrev pub of_table_dump : Family → (peer : ℕ) → List Attribute → List Route
of_table_dump family peer attrs = record { attrs = attrs; width = Two; family = family; peer = peer } ∷ []

-- the AS of the peer of this place; each entry that is read has one of the places
abbrev pub as_of_place : List Peer → ℕ → ℕ
as_of_place peers place = get_or (map (λ peer. peer.as_number) peers) place 0

-- a route of an entry, whose numbers have four octets
abbrev pub of_entry : Family → List Peer → Entry → Route
of_entry family peers entry = record { attrs = entry.attrs; width = Four; family = family; peer = as_of_place peers entry.peer }

abbrev pub of_entries : Family → List Peer → List Entry → List Route
of_entries family peers entries = map (of_entry family peers) entries

-- the same of what was read
abbrev pub of_rib_read : Family → List Peer → Result (List Entry) RibFault → Result (List Route) RibFault
of_rib_read family peers read = read >>= λ entries. Ok (of_entries family peers entries)

abbrev pub of_peer_table_read : Result (List Peer) RibFault → Result (List Route) RibFault
of_peer_table_read read = read >>= λ peers. Ok []

-- the routes of the body of a TABLE_DUMP record, whose peer is the one that the record names
abbrev pub routes_in_table_dump : Family → (body : List ℕ) → Result (List Route) RibFault
routes_in_table_dump family body =
    route_of family body >>= λ attrs. table_dump_origin family body >>= λ origin. Ok (of_table_dump family origin.1.as_number attrs)

-- the same of a RIB, where the last peer table before it in the file names these peers
abbrev pub routes_in_rib : RibForm → Option (List Peer) → (body : List ℕ) → Result (List Route) RibFault
routes_in_rib form peers body = of_rib_read form.family (unwrap_or peers []) (rib_of form (option_map length peers) body)

-- the routes of a body, where the last peer table before it in the file names these peers, or the first fault of the body.
-- One that isn't read gives none.
abbrev pub routes_in : Option RecordKind → Option (List Peer) → (body : List ℕ) → Result (List Route) RibFault
routes_in (Some (TableDump family)) peers body = routes_in_table_dump family body
routes_in (Some PeerTable) peers body = of_peer_table_read (peers_named body)
routes_in (Some (Rib form)) peers body = routes_in_rib form peers body
routes_in None peers body = Ok []

-- the peers of the last peer table, behind this body
abbrev pub peers_after : Option RecordKind → Option (List Peer) → (body : List ℕ) → Option (List Peer)
peers_after (Some (TableDump family)) peers body = peers
peers_after (Some PeerTable) peers body = result_ok (peers_named body)
peers_after (Some (Rib form)) peers body = peers
peers_after None peers body = peers

-- the same of a record
abbrev pub routes_of : Option (List Peer) → Record → Result (List Route) RibFault
routes_of peers r = routes_in (kind_of r.kind r.subtype) peers r.body

abbrev pub peers_behind : Option (List Peer) → Record → Option (List Peer)
peers_behind peers r = peers_after (kind_of r.kind r.subtype) peers r.body
