-- The laws that peers and prefixes are those that stand in a body, as docs/FORMATS.md and the RFCs say its fields.
use Rattle.std.specs.Prelude.{◌≡◌, ◌↔◌, ℕ, List, [], ◌∷◌, ◌++◌, length, Result, Ok}
use Rattle.byteorder.specs.Endian.{big_number}
use Rattle.mrt_header.specs.declared.record_kind.Family.{Family}
use Rattle.mrt_header.specs.declared.record_kind.RibForm.{RibForm}
use Rattle.path_attrs.specs.Fields.{◌>>=◌}
use Rattle.path_attrs.specs.Attributes.{Attribute}
use Rattle.rib_bodies.specs.declared.rib.Entry.{Entry}
use Rattle.rib_bodies.specs.declared.peers.Peer.{Peer}
use Rattle.rib_bodies.specs.PeerTable.{peers_of}
use Rattle.rib_bodies.specs.Encoding.{octets_of_as, IsPeer, IsPeerTable, IsRib}
use Rattle.rib_bodies.specs.TableDumpEncoding.{IsTableDump}
use Rattle.rib_bodies.specs.Addresses.{address_of, prefix_of}
use Rattle.rib_bodies.specs.Peers.{family_of_peer, peers_named}
use Rattle.rib_bodies.specs.Origins.{rib_prefix, table_dump_origin}

-- the octets are the fields of this peer
pub record EncodesPeer (bytes : List ℕ) (peer : Peer) : Type 0 where
  pub fields : IsPeer bytes
  pub address : address_of (family_of_peer (big_number 1 fields.peer_type)) fields.ip ≡ peer.address
  pub as_number : big_number (octets_of_as (big_number 1 fields.peer_type)) fields.as_number ≡ peer.as_number

-- these peers, one behind the other, and nothing else
abbrev pub EncodePeers : List Peer → List ℕ → Type 0
EncodePeers [] bytes = bytes ≡ []
EncodePeers (peer ∷ peers) bytes =
    (first : List ℕ) × (rest : List ℕ) × EncodesPeer first peer × EncodePeers peers rest × (bytes ≡ first ++ rest)

-- the body is a peer table with these peers
pub record NamesPeers (body : List ℕ) (peers : List Peer) : Type 0 where
  pub table : IsPeerTable body (record { count = length peers })
  pub named : EncodePeers peers table.peers

-- a body names these peers exactly if it is the encoding of a table with them, and a table has as many as it names
pub record NamedPeersLaw : Type 0 where
  pub named : (body : List ℕ) (peers : List Peer) → (peers_named body ≡ Ok peers) ↔ NamesPeers body peers
  pub counted : (body : List ℕ) → peers_of body ≡ (peers_named body >>= λ peers. Ok (record { count = length peers }))

-- a body that is the encoding of a RIB, or of a TABLE_DUMP record, gives the prefix of its fields, and such a record its peer
pub record OriginLaw : Type 0 where
  pub rib : (form : RibForm) (peers : ℕ) (body : List ℕ) (entries : List Entry) (is : IsRib form peers body entries)
      → rib_prefix form.family body ≡ Ok (prefix_of form.family (big_number 1 is.prefix_length) is.prefix)
  pub table_dump : (family : Family) (body : List ℕ) (attributes : List Attribute) (is : IsTableDump family body attributes)
      → table_dump_origin family body ≡ Ok (
        prefix_of family (big_number 1 is.prefix_length) is.prefix,
        record { as_number = big_number 2 is.peer_as; address = address_of family is.peer_ip },
      )
