-- A peer table and its fields.
use Rattle.std.proofs.Common.{◌≡◌, ℕ, zero, suc, ◌==◌, true, List, [], ◌++◌, length, Ok, refl, ap, subst, ◌∙◌}
use Rattle.std.proofs.lemmas.List.{append_assoc}
use Rattle.byteorder.specs.Endian.{big_number}
use Rattle.path_attrs.specs.declared.fault.RibFault.TheVariants.{Cut, Tail}
use Rattle.path_attrs.proofs.Reading.{ok_same}
use Rattle.path_attrs.proofs.FieldLemmas.{octets_back, number_back, check_back, then_back, octets_on, number_on, then_on, onto, ended, none_behind}
use Rattle.rib_bodies.specs.declared.peer_table.Peers.{Peers}
use Rattle.rib_bodies.specs.PeerTable.{behind_peer, behind_peers, peers_of}
use Rattle.rib_bodies.specs.Encoding.{octets_of_ip, octets_of_as, IsPeer, ArePeers, IsPeerTable, PeerTableLaw}

-- ---- one peer, and the octets behind it

record FirstPeer (bytes rest : List ℕ) : Type 0 where
  peer : List ℕ
  is_peer : IsPeer peer
  parts : bytes ≡ peer ++ rest

peer_back : (bytes rest : List ℕ) → behind_peer bytes ≡ Ok rest → FirstPeer bytes rest
unfolding behind_peer
peer_back bytes rest is =
    let peer_type = number_back Cut 1 bytes _ rest is in
    let n = big_number 1 peer_type.field in
    let bgp_id = octets_back Cut 4 peer_type.rest _ rest peer_type.next in
    let ip = octets_back Cut (octets_of_ip n) bgp_id.rest _ rest bgp_id.next in
    let as_number = octets_back Cut (octets_of_as n) ip.rest _ rest ip.next in
    record {
      peer = peer_type.field ++ bgp_id.field ++ ip.field ++ as_number.field;
      is_peer = record {
        peer_type = peer_type.field;
        bgp_id = bgp_id.field;
        ip = ip.field;
        as_number = as_number.field;
        peer_type_octets = peer_type.size;
        bgp_id_octets = bgp_id.size;
        ip_octets = ip.size;
        as_number_octets = as_number.size;
        encoded = refl;
      };
      parts =
          ended bytes _ _ _ (onto bytes _ _ _ _ (onto bytes _ _ _ _ (onto bytes _ _ _ _
          peer_type.parts bgp_id.parts) ip.parts) as_number.parts) (ok_same as_number.rest rest as_number.next);
    }

four_fields : (a b c d rest : List ℕ) → a ++ b ++ c ++ d ++ rest ≡ a ++ (b ++ (c ++ (d ++ rest)))
four_fields a b c d rest = simp append_assoc refl

peer_on : (bytes peer rest : List ℕ) → IsPeer peer → bytes ≡ peer ++ rest → behind_peer bytes ≡ Ok rest
unfolding behind_peer
peer_on bytes peer rest p parts =
    let n = big_number 1 p.peer_type in
    ap behind_peer (parts ∙ ap (λ x. x ++ rest) p.encoded ∙ four_fields p.peer_type p.bgp_id p.ip p.as_number rest)
    ∙ number_on Cut 1 p.peer_type _ n _ (Ok rest) p.peer_type_octets refl (
    octets_on Cut 4 p.bgp_id _ _ (Ok rest) p.bgp_id_octets (
    octets_on Cut (octets_of_ip n) p.ip _ _ (Ok rest) p.ip_octets (
    octets_on Cut (octets_of_as n) p.as_number rest _ (Ok rest) p.as_number_octets refl)))

-- ---- so many peers, and nothing behind them

peers_back : (count : ℕ) (bytes rest : List ℕ) → behind_peers count bytes ≡ Ok rest → (length rest == 0) ≡ true → ArePeers count bytes
unfolding behind_peers
peers_back zero bytes rest is none = none_behind bytes [] rest (ok_same bytes rest is) none
peers_back (suc count) bytes rest is none =
    let first = then_back (behind_peer bytes) _ rest is in
    let p = peer_back bytes first.value first.is in
    (p.peer, first.value, p.is_peer, peers_back count first.value rest first.next none, p.parts)

peers_on : (count : ℕ) (bytes : List ℕ) → ArePeers count bytes → behind_peers count bytes ≡ Ok []
unfolding behind_peers
peers_on zero bytes none = ap (λ b. Ok b) none
peers_on (suc count) bytes are =
    then_on (behind_peer bytes) are.1 _ (Ok []) (peer_on bytes are.0 are.1 are.2 are.4) (peers_on count are.1 are.3)

-- ---- the table

table_back : (body : List ℕ) (table : Peers) → peers_of body ≡ Ok table → IsPeerTable body table
unfolding peers_of
table_back body table is =
    let collector = octets_back Cut 4 body _ table is in
    let name_length = number_back Cut 2 collector.rest _ table collector.next in
    let name = octets_back Cut (big_number 2 name_length.field) name_length.rest _ table name_length.next in
    let count = number_back Cut 2 name.rest _ table name.next in
    let peers = then_back (behind_peers (big_number 2 count.field) count.rest) _ table count.next in
    let end = check_back Tail (length peers.value == 0) _ table peers.next in
    let same : big_number 2 count.field ≡ table.count = ap (λ (t : Peers). t.count) (ok_same (record { count = big_number 2 count.field }) table end.1) in
    record {
      collector_id = collector.field;
      name_length = name_length.field;
      name = name.field;
      peer_count = count.field;
      peers = count.rest;
      collector_id_octets = collector.size;
      name_length_octets = name_length.size;
      name_octets = name.size;
      peer_count_octets = count.size;
      count = same;
      peers_encoded = subst (λ n. ArePeers n count.rest) same (peers_back (big_number 2 count.field) count.rest peers.value peers.is end.0);
      encoded = onto body _ _ _ _ (onto body _ _ _ _ (onto body _ _ _ _ collector.parts name_length.parts) name.parts) count.parts;
    }

five_fields : (a b c d e : List ℕ) → a ++ b ++ c ++ d ++ e ≡ a ++ (b ++ (c ++ (d ++ e)))
five_fields a b c d e = simp append_assoc refl

table_on : (body : List ℕ) (table : Peers) → IsPeerTable body table → peers_of body ≡ Ok table
unfolding peers_of
table_on body table is =
    ap peers_of (is.encoded ∙ five_fields is.collector_id is.name_length is.name is.peer_count is.peers)
    ∙ octets_on Cut 4 is.collector_id _ _ (Ok table) is.collector_id_octets (
    number_on Cut 2 is.name_length _ (big_number 2 is.name_length) _ (Ok table) is.name_length_octets refl (
    octets_on Cut (big_number 2 is.name_length) is.name _ _ (Ok table) is.name_octets (
    number_on Cut 2 is.peer_count is.peers table.count _ (Ok table) is.peer_count_octets is.count (
    then_on (behind_peers table.count is.peers) [] _ (Ok table) (peers_on table.count is.peers is.peers_encoded) refl))))

pub peer_table_law : PeerTableLaw
peer_table_law body table = (table_back body table, table_on body table)
