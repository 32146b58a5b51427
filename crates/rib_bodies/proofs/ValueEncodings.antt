-- Peers and prefixes, and the fields that they are read from.
use Rattle.std.proofs.Common.{◌≡◌, ℕ, zero, suc, ◌+◌, ◌*◌, ◌/◌, ◌==◌, ◌<◌, bit_and, leb, ltb, cond, Bool, true, false, List, [], ◌∷◌, ◌++◌, length, take, drop, Result, Ok, Err, refl, sym, ap, subst, ◌∙◌, arith}
use Rattle.std.proofs.lemmas.Bool.{le-leb}
use Rattle.std.proofs.lemmas.List.{append_assoc}
use Rattle.std.specs.declared.net.ip_addr.IpAddr.{IpAddr}
use Rattle.byteorder.specs.Endian.{big_number}
use Rattle.mrt_header.specs.declared.record_kind.Family.{Family}
use Rattle.mrt_header.specs.declared.record_kind.Family.TheVariants.{Ipv4, Ipv6}
use Rattle.mrt_header.specs.declared.record_kind.RibForm.{RibForm}
use Rattle.mrt_header.specs.Kinds.{address_octets}
use Rattle.path_attrs.specs.declared.fault.RibFault.{RibFault}
use Rattle.path_attrs.specs.declared.fault.RibFault.TheVariants.{Cut, Tail, PrefixLong}
use Rattle.path_attrs.specs.Fields.{◌>>=◌, octets, number, fault_unless}
use Rattle.path_attrs.specs.Attributes.{Attribute}
use Rattle.path_attrs.proofs.Reading.{number_encoded, ok_same}
use Rattle.path_attrs.proofs.FieldLemmas.{octets_back, number_back, check_back, then_back, octets_on, number_on, check_on, then_on, onto, ended, none_behind}
use Rattle.rib_bodies.specs.declared.rib.Entry.{Entry}
use Rattle.rib_bodies.specs.declared.peers.Peer.{Peer}
use Rattle.rib_bodies.specs.declared.peer_table.Peers.{Peers}
use Rattle.rib_bodies.specs.declared.prefix.Prefix.{Prefix}
use Rattle.rib_bodies.specs.PeerTable.{behind_peer, behind_peers, peers_of}
use Rattle.rib_bodies.specs.Encoding.{octets_of_ip, octets_of_as, IsPeer, ArePeers, IsPeerTable, IsRib}
use Rattle.rib_bodies.specs.TableDumpEncoding.{IsTableDump}
use Rattle.rib_bodies.specs.Addresses.{address_of, prefix_of}
use Rattle.rib_bodies.specs.Peers.{address_at, family_of_peer, first_peer, peers_at, peers_named, table_head}
use Rattle.rib_bodies.specs.Origins.{rib_prefix, table_dump_origin, table_dump_prefix}
use Rattle.rib_bodies.specs.ValueEncoding.{EncodesPeer, EncodePeers, NamesPeers, NamedPeersLaw, OriginLaw}

-- ---- prefixes and the peer of a TABLE_DUMP record

four_parts : (a b c d rest : List ℕ) → a ++ b ++ c ++ d ++ rest ≡ a ++ (b ++ (c ++ (d ++ rest)))
four_parts a b c d rest = simp append_assoc refl

rib_prefix_is : (form : RibForm) (peers : ℕ) (body : List ℕ) (entries : List Entry) (is : IsRib form peers body entries)
    → rib_prefix form.family body ≡ Ok (prefix_of form.family (big_number 1 is.prefix_length) is.prefix)
unfolding rib_prefix
rib_prefix_is form peers body entries is =
    let n = big_number 1 is.prefix_length in
    let read = Ok (prefix_of form.family n is.prefix) in
    ap (rib_prefix form.family) (is.encoded ∙ four_parts is.sequence is.prefix_length is.prefix is.entry_count is.rib_entries)
    ∙ octets_on Cut 4 is.sequence _ _ read is.sequence_octets (
    number_on Cut 1 is.prefix_length _ n _ read is.prefix_length_octets refl (
    check_on PrefixLong (leb n (8 * address_octets form.family)) _ read (le-leb n (8 * address_octets form.family) is.prefix_fits) (
    octets_on Cut ((n + 7) / 8) is.prefix _ _ read is.prefix_octets refl)))

ten_parts : (a b c d e f g h i j : List ℕ) → a ++ b ++ c ++ d ++ e ++ f ++ g ++ h ++ i ++ j ≡ a ++ (b ++ (c ++ (d ++ (e ++ (f ++ (g ++ (h ++ (i ++ j))))))))
ten_parts a b c d e f g h i j = simp append_assoc refl

table_dump_prefix_is : (family : Family) (bytes view sequence prefix prefix_length rest : List ℕ) → length view ≡ 2 → length sequence ≡ 2 → length prefix ≡ address_octets family →
    length prefix_length ≡ 1 → leb (big_number 1 prefix_length) (8 * address_octets family) ≡ true → bytes ≡ view ++ (sequence ++ (prefix ++ (prefix_length ++ rest))) →
    table_dump_prefix family bytes ≡ Ok (prefix_of family (big_number 1 prefix_length) prefix, rest)
unfolding table_dump_prefix
table_dump_prefix_is family bytes view sequence prefix prefix_length rest a b c d fits parts =
    let n = big_number 1 prefix_length in
    let read = Ok (prefix_of family n prefix, rest) in
    ap (table_dump_prefix family) parts
    ∙ octets_on Cut 2 view _ _ read a (
    octets_on Cut 2 sequence _ _ read b (
    octets_on Cut (address_octets family) prefix _ _ read c (
    number_on Cut 1 prefix_length rest n _ read d refl (
    check_on PrefixLong (leb n (8 * address_octets family)) _ read fits refl))))

table_dump_origin_is : (family : Family) (body : List ℕ) (attributes : List Attribute) (is : IsTableDump family body attributes)
    → table_dump_origin family body ≡ Ok (prefix_of family (big_number 1 is.prefix_length) is.prefix, record { as_number = big_number 2 is.peer_as; address = address_of family is.peer_ip })
unfolding table_dump_origin
table_dump_origin_is family body attributes is =
    let n = big_number 1 is.prefix_length in
    let prefix = prefix_of family n is.prefix in
    let peer : Peer = record { as_number = big_number 2 is.peer_as; address = address_of family is.peer_ip } in
    let read = Ok (prefix, peer) in
    let last = is.attribute_length ++ is.block in
    let rest = is.status ++ (is.originated ++ (is.peer_ip ++ (is.peer_as ++ last))) in
    let fits = le-leb n (8 * address_octets family) is.prefix_fits in
    let parts = is.encoded ∙ ten_parts is.view is.sequence is.prefix is.prefix_length is.status is.originated is.peer_ip is.peer_as is.attribute_length is.block in
    then_on (table_dump_prefix family body) (prefix, rest) _ read
    (table_dump_prefix_is family body is.view is.sequence is.prefix is.prefix_length rest is.view_octets is.sequence_octets is.prefix_octets is.prefix_length_octets fits parts) (
    octets_on Cut 1 is.status _ _ read is.status_octets (
    octets_on Cut 4 is.originated _ _ read is.originated_octets (
    then_on (address_at family (is.peer_ip ++ (is.peer_as ++ last))) (address_of family is.peer_ip, is.peer_as ++ last) _ read
    (octets_on Cut (address_octets family) is.peer_ip (is.peer_as ++ last) _ (Ok (address_of family is.peer_ip, is.peer_as ++ last)) is.peer_ip_octets refl) (
    number_on Cut 2 is.peer_as last (big_number 2 is.peer_as) _ read is.peer_as_octets refl refl))))

-- ---- peers

abbrev with_as : IpAddr → ℕ × List ℕ → Peer × List ℕ
with_as address a = (record { as_number = a.0; address = address }, a.1)

record FirstNamed (bytes : List ℕ) (read : Peer × List ℕ) : Type 0 where
  first : List ℕ
  encodes : EncodesPeer first read.0
  parts : bytes ≡ first ++ read.1

family_octets : (peer_type : ℕ) → address_octets (family_of_peer peer_type) ≡ octets_of_ip peer_type
family_octets peer_type = by (bit_and peer_type 0x01 == 0)
  where
    by : (b : Bool) → address_octets (cond b Ipv4 Ipv6) ≡ cond b 4 16
    by true = refl
    by false = refl

first_back : (bytes : List ℕ) (read : Peer × List ℕ) → first_peer bytes ≡ Ok read → FirstNamed bytes read
unfolding first_peer
first_back bytes read is =
    let peer_type = number_back Cut 1 bytes _ read is in
    let n = big_number 1 peer_type.field in
    let bgp_id = octets_back Cut 4 peer_type.rest _ read peer_type.next in
    let address = then_back (address_at (family_of_peer n) bgp_id.rest) _ read bgp_id.next in
    let ip = octets_back Cut (address_octets (family_of_peer n)) bgp_id.rest _ address.value address.is in
    let there : (address_of (family_of_peer n) ip.field, ip.rest) ≡ address.value = ok_same (address_of (family_of_peer n) ip.field, ip.rest) address.value ip.next in
    let as_number = number_back Cut (octets_of_as n) address.value.1 _ read address.next in
    let peer : Peer = record { as_number = big_number (octets_of_as n) as_number.field; address = address.value.0 } in
    let given : (peer, as_number.rest) ≡ read = ok_same (peer, as_number.rest) read as_number.next in
    let fields : IsPeer (peer_type.field ++ bgp_id.field ++ ip.field ++ as_number.field) = record {
      peer_type = peer_type.field;
      bgp_id = bgp_id.field;
      ip = ip.field;
      as_number = as_number.field;
      peer_type_octets = peer_type.size;
      bgp_id_octets = bgp_id.size;
      ip_octets = ip.size ∙ family_octets n;
      as_number_octets = as_number.size;
      encoded = refl;
    } in
    subst (λ (r : Peer × List ℕ). FirstNamed bytes r) given (record {
      first = peer_type.field ++ bgp_id.field ++ ip.field ++ as_number.field;
      encodes = record { fields = fields; address = ap (λ (x : IpAddr × List ℕ). x.0) there; as_number = refl };
      parts = onto bytes _ _ _ _ (onto bytes _ _ _ _ (onto bytes _ _ _ _ peer_type.parts bgp_id.parts) ip.parts)
          (ap (λ (x : IpAddr × List ℕ). x.1) there ∙ as_number.parts);
    })

first_on : (bytes first rest : List ℕ) (peer : Peer) → EncodesPeer first peer → bytes ≡ first ++ rest → first_peer bytes ≡ Ok (peer, rest)
unfolding first_peer
first_on bytes first rest peer e parts =
    let f = e.fields in
    let n = big_number 1 f.peer_type in
    let read = Ok (peer, rest) in
    let behind = f.as_number ++ rest in
    ap first_peer (parts ∙ ap (λ x. x ++ rest) f.encoded ∙ four_parts f.peer_type f.bgp_id f.ip f.as_number rest)
    ∙ number_on Cut 1 f.peer_type _ n _ read f.peer_type_octets refl (
    octets_on Cut 4 f.bgp_id _ _ read f.bgp_id_octets (
    then_on (address_at (family_of_peer n) (f.ip ++ behind)) (peer.address, behind) _ read
    (octets_on Cut (address_octets (family_of_peer n)) f.ip behind _ (Ok (peer.address, behind)) (f.ip_octets ∙ sym (family_octets n)) (ap (λ a. Ok (a, behind)) e.address)) (
    number_on Cut (octets_of_as n) f.as_number rest peer.as_number _ read f.as_number_octets e.as_number refl)))

record Named (count : ℕ) (bytes : List ℕ) (peers : List Peer) : Type 0 where
  number : count ≡ length peers
  are : EncodePeers peers bytes

named_back : (count : ℕ) (bytes : List ℕ) (peers : List Peer) → peers_at count bytes ≡ Ok peers → Named count bytes peers
unfolding peers_at
named_back zero bytes peers is =
    let end = check_back Tail (length bytes == 0) _ peers is in
    subst (λ l. Named 0 bytes l) (ok_same [] peers end.1) (record { number = refl; are = none_behind bytes [] bytes refl end.0 })
named_back (suc count) bytes peers is =
    let first = then_back (first_peer bytes) _ peers is in
    let others = then_back (peers_at count first.value.1) _ peers first.next in
    let f = first_back bytes first.value first.is in
    let behind = named_back count first.value.1 others.value others.is in
    subst (λ l. Named (suc count) bytes l) (ok_same (first.value.0 ∷ others.value) peers others.next) (record {
      number = ap (λ n. suc n) behind.number;
      are = (f.first, first.value.1, f.encodes, behind.are, f.parts);
    })

named_on : (peers : List Peer) (bytes : List ℕ) → EncodePeers peers bytes → peers_at (length peers) bytes ≡ Ok peers
unfolding peers_at
named_on [] bytes none = check_on Tail (length bytes == 0) _ (Ok []) (ap (λ (b : List ℕ). length b == 0) none) refl
named_on (p ∷ peers) bytes are =
    then_on (first_peer bytes) (p, are.1) _ (Ok (p ∷ peers)) (first_on bytes are.0 are.1 p are.2 are.4) (
    then_on (peers_at (length peers) are.1) peers _ (Ok (p ∷ peers)) (named_on peers are.1 are.3) refl)

are_peers : (peers : List Peer) (bytes : List ℕ) → EncodePeers peers bytes → ArePeers (length peers) bytes
are_peers [] bytes none = none
are_peers (p ∷ peers) bytes are = let e = are.2 in (are.0, are.1, e.fields, are_peers peers are.1 are.3, are.4)

named_in_back : (body : List ℕ) (peers : List Peer) → peers_named body ≡ Ok peers → NamesPeers body peers
unfolding peers_named table_head
named_in_back body peers is =
    let counted = then_back (table_head body) _ peers is in
    let collector = octets_back Cut 4 body _ counted.value counted.is in
    let name_length = number_back Cut 2 collector.rest _ counted.value collector.next in
    let name = octets_back Cut (big_number 2 name_length.field) name_length.rest _ counted.value name_length.next in
    let count = number_back Cut 2 name.rest (λ c. Ok c) counted.value (ap (λ (r : Result (ℕ × List ℕ) RibFault). r >>= λ c. Ok c) name.next) in
    let same : (big_number 2 count.field, count.rest) ≡ counted.value = ok_same (big_number 2 count.field, count.rest) counted.value count.next in
    let behind = named_back counted.value.0 counted.value.1 peers counted.next in
    let are : EncodePeers peers count.rest = subst (λ b. EncodePeers peers b) (sym (ap (λ (c : ℕ × List ℕ). c.1) same)) behind.are in
    let table : IsPeerTable body (record { count = length peers }) = record {
      collector_id = collector.field;
      name_length = name_length.field;
      name = name.field;
      peer_count = count.field;
      peers = count.rest;
      collector_id_octets = collector.size;
      name_length_octets = name_length.size;
      name_octets = name.size;
      peer_count_octets = count.size;
      count = ap (λ (c : ℕ × List ℕ). c.0) same ∙ behind.number;
      peers_encoded = are_peers peers count.rest are;
      encoded = onto body _ _ _ _ (onto body _ _ _ _ (onto body _ _ _ _ collector.parts name_length.parts) name.parts) count.parts;
    } in
    record { table = table; named = are }

five_parts : (a b c d e : List ℕ) → a ++ b ++ c ++ d ++ e ≡ a ++ (b ++ (c ++ (d ++ e)))
five_parts a b c d e = simp append_assoc refl

named_in_on : (body : List ℕ) (peers : List Peer) → NamesPeers body peers → peers_named body ≡ Ok peers
unfolding peers_named table_head
named_in_on body peers is =
    let t = is.table in
    let read = Ok (length peers, t.peers) in
    let head : table_head body ≡ read =
    ap table_head (t.encoded ∙ five_parts t.collector_id t.name_length t.name t.peer_count t.peers)
    ∙ octets_on Cut 4 t.collector_id _ _ read t.collector_id_octets (
    number_on Cut 2 t.name_length _ (big_number 2 t.name_length) _ read t.name_length_octets refl (
    octets_on Cut (big_number 2 t.name_length) t.name _ _ read t.name_octets (
    number_encoded Cut 2 t.peer_count t.peers (length peers) t.peer_count_octets t.count))) in
    then_on (table_head body) (length peers, t.peers) _ (Ok peers) head (named_on peers t.peers is.named)

-- ---- how many there are

module _ {A B C E : Type 0} where
  -- the same after each value that was read
  through : (r : Result A E) (f : A → Result B E) (g : A → Result C E) (h : C → Result B E) → ((x : A) → f x ≡ (g x >>= h)) → (r >>= f) ≡ ((r >>= g) >>= h)
  through (Ok x) f g h same = same x
  through (Err e) f g h same = refl

behind_as : (n : ℕ) (address : IpAddr) (rest : List ℕ)
    → (octets Cut n rest >>= λ a. Ok a.1) ≡ ((number Cut n rest >>= λ a. Ok (with_as address a)) >>= λ x. Ok x.1)
behind_as n address rest = by (ltb (length rest) n)
  where
    field : Bool → Result (List ℕ × List ℕ) RibFault
    field b = cond b (Err Cut) (Ok (take n rest, drop n rest))

    value : Bool → Result (ℕ × List ℕ) RibFault
    value b = cond b (Err Cut) (Ok (big_number n rest, drop n rest))

    by : (b : Bool) → (field b >>= λ a. Ok a.1) ≡ ((value b >>= λ a. Ok (with_as address a)) >>= λ x. Ok x.1)
    by true = refl
    by false = refl

abbrev to_address : ℕ → List ℕ × List ℕ → Result (IpAddr × List ℕ) RibFault
to_address peer_type field = Ok (address_of (family_of_peer peer_type) field.0, field.1)

behind_ip : (peer_type : ℕ) (rest : List ℕ)
    → (octets Cut (octets_of_ip peer_type) rest >>= λ ip. octets Cut (octets_of_as peer_type) ip.1 >>= λ a. Ok a.1)
    ≡ ((address_at (family_of_peer peer_type) rest >>= λ address. number Cut (octets_of_as peer_type) address.1 >>= λ a. Ok (with_as address.0 a)) >>= λ x. Ok x.1)
behind_ip peer_type rest =
    ap (λ n. octets Cut n rest >>= λ ip. octets Cut (octets_of_as peer_type) ip.1 >>= λ a. Ok a.1) (sym (family_octets peer_type))
    ∙ by (octets Cut (address_octets (family_of_peer peer_type)) rest)
  where
    by : (r : Result (List ℕ × List ℕ) RibFault) → (r >>= λ ip. octets Cut (octets_of_as peer_type) ip.1 >>= λ a. Ok a.1)
        ≡ (((r >>= to_address peer_type) >>= λ address. number Cut (octets_of_as peer_type) address.1 >>= λ a. Ok (with_as address.0 a))
        >>= λ x. Ok x.1)
    by (Ok field) = behind_as (octets_of_as peer_type) (address_of (family_of_peer peer_type) field.0) field.1
    by (Err e) = refl

behind_first : (bytes : List ℕ) → behind_peer bytes ≡ (first_peer bytes >>= λ x. Ok x.1)
unfolding behind_peer first_peer
behind_first bytes =
    through (number Cut 1 bytes) _ _ _ (λ peer_type. through (octets Cut 4 peer_type.1) _ _ _ (λ bgp_id. behind_ip peer_type.0 bgp_id.1))

abbrev end_by : ℕ → Bool → Result Peers RibFault
end_by n b = fault_unless Tail b >>= λ end. Ok (record { count = n })

abbrev none_by : Bool → Result (List Peer) RibFault
none_by b = fault_unless Tail b >>= λ end. Ok []

abbrev ended_with : ℕ → List ℕ → Result Peers RibFault
ended_with n rest = end_by n (length rest == 0)

abbrev counted_from : ℕ → List Peer → Result Peers RibFault
counted_from k peers = Ok (record { count = k + length peers })

as_many : (count k n : ℕ) (bytes : List ℕ) → n ≡ k + count → (behind_peers count bytes >>= ended_with n) ≡ (peers_at count bytes >>= counted_from k)
unfolding behind_peers peers_at
as_many zero k n bytes is = by (length bytes == 0)
  where
    by : (b : Bool) → end_by n b ≡ (none_by b >>= counted_from k)
    by true = ap (λ m. Ok (record { count = m })) (omega (arith, is))
    by false = refl
as_many (suc count) k n bytes is =
    ap (λ (r : Result (List ℕ) RibFault). (r >>= λ rest. behind_peers count rest) >>= ended_with n) (behind_first bytes)
    ∙ by (λ first. as_many count (k + 1) n first.1 (omega (arith, is))) (first_peer bytes)
  where
    one_more : (peer : Peer) (r : Result (List Peer) RibFault) → (r >>= counted_from (k + 1)) ≡ ((r >>= λ others. Ok (peer ∷ others)) >>= counted_from k)
    one_more peer (Ok others) = ap (λ m. Ok (record { count = m })) (omega arith)
    one_more peer (Err e) = refl

    by : ((first : Peer × List ℕ) → (behind_peers count first.1 >>= ended_with n) ≡ (peers_at count first.1 >>= counted_from (k + 1))) → (r : Result (Peer × List ℕ) RibFault) → (((r >>= λ x. Ok x.1) >>= λ rest. behind_peers count rest) >>= ended_with n)
        ≡ ((r >>= λ first. peers_at count first.1 >>= λ others. Ok (first.0 ∷ others)) >>= counted_from k)
    by others (Ok first) = others first ∙ one_more first.0 (peers_at count first.1)
    by others (Err e) = refl

-- the same behind the head of a table
behind_head : (body : List ℕ) → peers_of body ≡ (table_head body >>= λ c. behind_peers c.0 c.1 >>= ended_with c.0)
unfolding peers_of table_head
behind_head body =
    through (octets Cut 4 body) _ _ _ (λ collector. through (number Cut 2 collector.1) _ _ _ (λ name_length. through (octets Cut name_length.0 name_length.1) _ _ _ (λ name. refl)))

from_zero : (r : Result (List Peer) RibFault) → (r >>= counted_from 0) ≡ (r >>= λ peers. Ok (record { count = length peers }))
from_zero (Ok peers) = ap (λ m. Ok (record { count = m })) (omega arith)
from_zero (Err e) = refl

counted_is : (body : List ℕ) → peers_of body ≡ (peers_named body >>= λ peers. Ok (record { count = length peers }))
unfolding peers_named
counted_is body = behind_head body ∙ through (table_head body) _ _ _ (λ c. as_many c.0 0 c.0 c.1 (omega arith)) ∙ from_zero (peers_named body)

pub named_peers_law : NamedPeersLaw
named_peers_law = record { named = λ body peers. (named_in_back body peers, named_in_on body peers); counted = counted_is }

pub origin_law : OriginLaw
origin_law = record { rib = rib_prefix_is; table_dump = table_dump_origin_is }
