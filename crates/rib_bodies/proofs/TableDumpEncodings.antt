-- A body and its fields.
use Rattle.std.proofs.Common.{◌≡◌, ℕ, ◌*◌, ◌≤◌, ◌==◌, leb, List, [], ◌++◌, length, Ok, refl, sym, ap, ◌∙◌}
use Rattle.std.proofs.lemmas.Bool.{leb-true, le-leb}
use Rattle.std.proofs.lemmas.List.{append_assoc, append-nil}
use Rattle.byteorder.specs.Endian.{big_number}
use Rattle.mrt_header.specs.declared.record_kind.Family.{Family}
use Rattle.mrt_header.specs.Kinds.{address_octets}
use Rattle.path_attrs.specs.declared.fault.RibFault.TheVariants.{Cut, Tail, PrefixLong, AttrCut}
use Rattle.path_attrs.specs.Attributes.{Attribute, attributes_of}
use Rattle.path_attrs.proofs.Reading.{ok_same}
use Rattle.path_attrs.proofs.Blocks.{block_law}
use Rattle.path_attrs.proofs.FieldLemmas.{octets_back, number_back, check_back, or_fault_back, then_back, octets_on, number_on, check_on, or_fault_on, then_on, onto, ended, none_behind}
use Rattle.rib_bodies.specs.TableDump.{behind_fields, route_of}
use Rattle.rib_bodies.specs.TableDumpEncoding.{IsTableDump, TableDumpLaw}

-- the fields before the attributes, and the octets behind them
record Fields (family : Family) (body rest : List ℕ) : Type 0 where
  view : List ℕ
  sequence : List ℕ
  prefix : List ℕ
  prefix_length : List ℕ
  status : List ℕ
  originated : List ℕ
  peer_ip : List ℕ
  peer_as : List ℕ
  view_octets : length view ≡ 2
  sequence_octets : length sequence ≡ 2
  prefix_octets : length prefix ≡ address_octets family
  prefix_length_octets : length prefix_length ≡ 1
  prefix_fits : big_number 1 prefix_length ≤ 8 * address_octets family
  status_octets : length status ≡ 1
  originated_octets : length originated ≡ 4
  peer_ip_octets : length peer_ip ≡ address_octets family
  peer_as_octets : length peer_as ≡ 2
  encoded : body ≡ view ++ sequence ++ prefix ++ prefix_length ++ status ++ originated ++ peer_ip ++ peer_as ++ rest

fields_back : (family : Family) (body rest : List ℕ) → behind_fields family body ≡ Ok rest → Fields family body rest
unfolding behind_fields
fields_back family body rest is =
    let view = octets_back Cut 2 body _ rest is in
    let sequence = octets_back Cut 2 view.rest _ rest view.next in
    let prefix = octets_back Cut (address_octets family) sequence.rest _ rest sequence.next in
    let prefix_length = number_back Cut 1 prefix.rest _ rest prefix.next in
    let fits = check_back PrefixLong (leb (big_number 1 prefix_length.field) (8 * address_octets family)) _ rest prefix_length.next in
    let status = octets_back Cut 1 prefix_length.rest _ rest fits.1 in
    let originated = octets_back Cut 4 status.rest _ rest status.next in
    let peer_ip = octets_back Cut (address_octets family) originated.rest _ rest originated.next in
    let peer_as = octets_back Cut 2 peer_ip.rest _ rest peer_ip.next in
    record {
      view = view.field;
      sequence = sequence.field;
      prefix = prefix.field;
      prefix_length = prefix_length.field;
      status = status.field;
      originated = originated.field;
      peer_ip = peer_ip.field;
      peer_as = peer_as.field;
      view_octets = view.size;
      sequence_octets = sequence.size;
      prefix_octets = prefix.size;
      prefix_length_octets = prefix_length.size;
      prefix_fits = leb-true (big_number 1 prefix_length.field) (8 * address_octets family) fits.0;
      status_octets = status.size;
      originated_octets = originated.size;
      peer_ip_octets = peer_ip.size;
      peer_as_octets = peer_as.size;
      encoded =
          ended body _ _ _ (onto body _ _ _ _ (onto body _ _ _ _ (onto body _ _ _ _ (onto body _ _ _ _ (onto body _ _ _ _ (onto body _ _ _ _ (onto body _ _ _ _
          view.parts sequence.parts) prefix.parts) prefix_length.parts) status.parts) originated.parts) peer_ip.parts) peer_as.parts)
          (ok_same peer_as.rest rest peer_as.next);
    }

regroup : (a b c d e f g h rest : List ℕ) → a ++ b ++ c ++ d ++ e ++ f ++ g ++ h ++ rest ≡ a ++ (b ++ (c ++ (d ++ (e ++ (f ++ (g ++ (h ++ rest)))))))
regroup a b c d e f g h rest = simp append_assoc refl

fields_on : (family : Family) (body rest : List ℕ) → Fields family body rest → behind_fields family body ≡ Ok rest
unfolding behind_fields
fields_on family body rest f =
    let fits = le-leb (big_number 1 f.prefix_length) (8 * address_octets family) f.prefix_fits in
    ap (behind_fields family) (f.encoded ∙ regroup f.view f.sequence f.prefix f.prefix_length f.status f.originated f.peer_ip f.peer_as rest)
    ∙ octets_on Cut 2 f.view _ _ (Ok rest) f.view_octets (
    octets_on Cut 2 f.sequence _ _ (Ok rest) f.sequence_octets (
    octets_on Cut (address_octets family) f.prefix _ _ (Ok rest) f.prefix_octets (
    number_on Cut 1 f.prefix_length _ (big_number 1 f.prefix_length) _ (Ok rest) f.prefix_length_octets refl (
    check_on PrefixLong (leb (big_number 1 f.prefix_length) (8 * address_octets family)) _ (Ok rest) fits (
    octets_on Cut 1 f.status _ _ (Ok rest) f.status_octets (
    octets_on Cut 4 f.originated _ _ (Ok rest) f.originated_octets (
    octets_on Cut (address_octets family) f.peer_ip _ _ (Ok rest) f.peer_ip_octets (
    octets_on Cut 2 f.peer_as rest _ (Ok rest) f.peer_as_octets refl))))))))

route_back : (family : Family) (body : List ℕ) (attributes : List Attribute) → route_of family body ≡ Ok attributes → IsTableDump family body attributes
unfolding route_of
route_back family body attributes is =
    let fields = then_back (behind_fields family body) _ attributes is in
    let f = fields_back family body fields.value fields.is in
    let len = number_back Cut 2 fields.value _ attributes fields.next in
    let block = octets_back Cut (big_number 2 len.field) len.rest _ attributes len.next in
    let read = or_fault_back AttrCut (attributes_of block.field) _ attributes block.next in
    let end = check_back Tail (length block.rest == 0) _ attributes read.next in
    record {
      view = f.view;
      sequence = f.sequence;
      prefix = f.prefix;
      prefix_length = f.prefix_length;
      status = f.status;
      originated = f.originated;
      peer_ip = f.peer_ip;
      peer_as = f.peer_as;
      attribute_length = len.field;
      block = block.field;
      view_octets = f.view_octets;
      sequence_octets = f.sequence_octets;
      prefix_octets = f.prefix_octets;
      prefix_length_octets = f.prefix_length_octets;
      prefix_fits = f.prefix_fits;
      status_octets = f.status_octets;
      originated_octets = f.originated_octets;
      peer_ip_octets = f.peer_ip_octets;
      peer_as_octets = f.peer_as_octets;
      attribute_length_octets = len.size;
      block_octets = block.size;
      block_attributes = (block_law block.field attributes).0 (read.is ∙ ap (λ a. Ok a) (ok_same read.value attributes end.1));
      encoded = ended body _ _ _ (onto body _ _ _ _ f.encoded len.parts) (none_behind len.rest block.field block.rest block.parts end.0);
    }

last_two : (before len block : List ℕ) → before ++ len ++ block ≡ before ++ (len ++ (block ++ []))
last_two before len block = append_assoc before len block ∙ ap (λ b. before ++ (len ++ b)) (sym (append-nil block))

route_on : (family : Family) (body : List ℕ) (attributes : List Attribute) → IsTableDump family body attributes → route_of family body ≡ Ok attributes
unfolding route_of
route_on family body attributes is =
    let rest = is.attribute_length ++ (is.block ++ []) in
    let f : Fields family body rest = record {
      view = is.view;
      sequence = is.sequence;
      prefix = is.prefix;
      prefix_length = is.prefix_length;
      status = is.status;
      originated = is.originated;
      peer_ip = is.peer_ip;
      peer_as = is.peer_as;
      view_octets = is.view_octets;
      sequence_octets = is.sequence_octets;
      prefix_octets = is.prefix_octets;
      prefix_length_octets = is.prefix_length_octets;
      prefix_fits = is.prefix_fits;
      status_octets = is.status_octets;
      originated_octets = is.originated_octets;
      peer_ip_octets = is.peer_ip_octets;
      peer_as_octets = is.peer_as_octets;
      encoded = is.encoded ∙ last_two (is.view ++ is.sequence ++ is.prefix ++ is.prefix_length ++ is.status ++ is.originated ++ is.peer_ip ++ is.peer_as) is.attribute_length is.block;
    } in
    then_on (behind_fields family body) rest _ (Ok attributes) (fields_on family body rest f) (
    number_on Cut 2 is.attribute_length _ (length is.block) _ (Ok attributes) is.attribute_length_octets (sym is.block_octets) (
    octets_on Cut (length is.block) is.block [] _ (Ok attributes) refl (
    or_fault_on AttrCut (attributes_of is.block) attributes _ (Ok attributes) ((block_law is.block attributes).1 is.block_attributes) refl)))

pub table_dump_law : TableDumpLaw
table_dump_law family body attributes = (route_back family body attributes, route_on family body attributes)
