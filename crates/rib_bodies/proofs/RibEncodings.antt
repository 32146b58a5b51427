-- A RIB and its fields.
use Rattle.std.proofs.Common.{◌≡◌, ℕ, zero, suc, ◌+◌, ◌*◌, ◌/◌, ◌<◌, ◌==◌, leb, ltb, List, [], ◌∷◌, ◌++◌, length, Some, Result, Ok, refl, sym, ap, subst, ◌∙◌}
use Rattle.std.proofs.lemmas.Bool.{leb-true, le-leb, ltb-true, lt-ltb}
use Rattle.std.proofs.lemmas.List.{append_assoc}
use Rattle.byteorder.specs.Endian.{big_number}
use Rattle.mrt_header.specs.declared.record_kind.EntryForm.{EntryForm}
use Rattle.mrt_header.specs.declared.record_kind.RibForm.{RibForm}
use Rattle.mrt_header.specs.Kinds.{address_octets}
use Rattle.path_attrs.specs.declared.fault.RibFault.{RibFault}
use Rattle.path_attrs.specs.declared.fault.RibFault.TheVariants.{Cut, Tail, PrefixLong, PeerRange, AttrCut}
use Rattle.path_attrs.specs.Fields.{◌>>=◌}
use Rattle.path_attrs.specs.Attributes.{attributes_of}
use Rattle.path_attrs.proofs.Reading.{number_encoded, ok_same}
use Rattle.path_attrs.proofs.Blocks.{block_law}
use Rattle.path_attrs.proofs.FieldLemmas.{octets_back, number_back, check_back, or_fault_back, then_back, octets_on, number_on, check_on, or_fault_on, then_on, onto, ended, none_behind}
use Rattle.rib_bodies.specs.declared.rib.Entry.{Entry}
use Rattle.rib_bodies.specs.Rib.{Fields, path_id_octets, head, entry_fields, entry, entries_of, rib_of}
use Rattle.rib_bodies.specs.Encoding.{IsEntry, AreEntries, IsRib, RibLaw}

-- ---- one entry, and the octets behind it

record FirstEntry (form : EntryForm) (peers : ℕ) (bytes : List ℕ) (read : Entry × List ℕ) : Type 0 where
  octets : List ℕ
  is_entry : IsEntry form peers octets read.0
  parts : bytes ≡ octets ++ read.1

entry_back : (form : EntryForm) (peers : ℕ) (bytes : List ℕ) (read : Entry × List ℕ) → entry form peers bytes ≡ Ok read → FirstEntry form peers bytes read
unfolding entry entry_fields
entry_back form peers bytes read is =
    let fields = then_back (entry_fields form peers bytes) _ read is in
    let index = number_back Cut 2 bytes _ fields.value fields.is in
    let n = big_number 2 index.field in
    let within = check_back PeerRange (ltb n peers) _ fields.value index.next in
    let originated = octets_back Cut 4 index.rest _ fields.value within.1 in
    let path_id = octets_back Cut (path_id_octets form) originated.rest _ fields.value originated.next in
    let len = number_back Cut 2 path_id.rest _ fields.value path_id.next in
    let block = octets_back Cut (big_number 2 len.field) len.rest _ fields.value len.next in
    let f : Fields = record { peer = n; block = block.field; rest = block.rest } in
    let same : f ≡ fields.value = ok_same f fields.value block.next in
    let attributes = or_fault_back AttrCut (attributes_of fields.value.block) _ read fields.next in
    let e : Entry = record { peer = fields.value.peer; attrs = attributes.value } in
    let given : (e, fields.value.rest) ≡ read = ok_same (e, fields.value.rest) read attributes.next in
    subst (λ (r : Entry × List ℕ). FirstEntry form peers bytes r) given (record {
      octets = index.field ++ originated.field ++ path_id.field ++ len.field ++ block.field;
      is_entry = record {
        peer_index = index.field;
        originated = originated.field;
        path_id = path_id.field;
        attribute_length = len.field;
        block = block.field;
        peer_index_octets = index.size;
        originated_octets = originated.size;
        path_id_size = path_id.size;
        attribute_length_octets = len.size;
        block_octets = block.size;
        peer = ap (λ (x : Fields). x.peer) same;
        peer_in_range = subst (λ (x : Fields). x.peer < peers) same (ltb-true n peers within.0);
        block_attributes = (block_law block.field attributes.value).0 (ap (λ (x : Fields). attributes_of x.block) same ∙ attributes.is);
        encoded = refl;
      };
      parts =
          ended bytes _ _ _ (onto bytes _ _ _ _ (onto bytes _ _ _ _ (onto bytes _ _ _ _ (onto bytes _ _ _ _
          index.parts originated.parts) path_id.parts) len.parts) block.parts) (ap (λ (x : Fields). x.rest) same);
    })

five_before : (a b c d e rest : List ℕ) → a ++ b ++ c ++ d ++ e ++ rest ≡ a ++ (b ++ (c ++ (d ++ (e ++ rest))))
five_before a b c d e rest = simp append_assoc refl

entry_on : (form : EntryForm) (peers : ℕ) (bytes first rest : List ℕ) (e : Entry) → IsEntry form peers first e → bytes ≡ first ++ rest → entry form peers bytes ≡ Ok (e, rest)
unfolding entry entry_fields
entry_on form peers bytes first rest e p parts =
    let f : Fields = record { peer = e.peer; block = p.block; rest = rest } in
    let fields : entry_fields form peers bytes ≡ Ok f =
    ap (entry_fields form peers) (parts ∙ ap (λ x. x ++ rest) p.encoded ∙ five_before p.peer_index p.originated p.path_id p.attribute_length p.block rest)
    ∙ number_on Cut 2 p.peer_index _ e.peer _ (Ok f) p.peer_index_octets p.peer (
    check_on PeerRange (ltb e.peer peers) _ (Ok f) (lt-ltb e.peer peers p.peer_in_range) (
    octets_on Cut 4 p.originated _ _ (Ok f) p.originated_octets (
    octets_on Cut (path_id_octets form) p.path_id _ _ (Ok f) p.path_id_size (
    number_on Cut 2 p.attribute_length _ (length p.block) _ (Ok f) p.attribute_length_octets (sym p.block_octets) (
    octets_on Cut (length p.block) p.block rest _ (Ok f) refl refl)))))
    in
    then_on (entry_fields form peers bytes) f _ (Ok (e, rest)) fields (
    or_fault_on AttrCut (attributes_of p.block) e.attrs _ (Ok (e, rest)) ((block_law p.block e.attrs).1 p.block_attributes) refl)

-- ---- so many entries, and nothing behind them

record Entries (form : EntryForm) (peers count : ℕ) (bytes : List ℕ) (entries : List Entry) : Type 0 where
  number : count ≡ length entries
  are : AreEntries form peers entries bytes

entries_back : (form : EntryForm) (peers count : ℕ) (bytes : List ℕ) (entries : List Entry) → entries_of form peers count bytes ≡ Ok entries → Entries form peers count bytes entries
unfolding entries_of
entries_back form peers zero bytes entries is =
    let end = check_back Tail (length bytes == 0) _ entries is in
    subst (λ l. Entries form peers 0 bytes l) (ok_same [] entries end.1) (record { number = refl; are = none_behind bytes [] bytes refl end.0 })
entries_back form peers (suc count) bytes entries is =
    let first = then_back (entry form peers bytes) _ entries is in
    let others = then_back (entries_of form peers count first.value.1) _ entries first.next in
    let f = entry_back form peers bytes first.value first.is in
    let behind = entries_back form peers count first.value.1 others.value others.is in
    subst (λ l. Entries form peers (suc count) bytes l) (ok_same (first.value.0 ∷ others.value) entries others.next) (record {
      number = ap (λ n. suc n) behind.number;
      are = (f.octets, first.value.1, f.is_entry, behind.are, f.parts);
    })

entries_on : (form : EntryForm) (peers : ℕ) (entries : List Entry) (bytes : List ℕ) → AreEntries form peers entries bytes → entries_of form peers (length entries) bytes ≡ Ok entries
unfolding entries_of
entries_on form peers [] bytes none = check_on Tail (length bytes == 0) _ (Ok []) (ap (λ (b : List ℕ). length b == 0) none) refl
entries_on form peers (e ∷ entries) bytes are =
    then_on (entry form peers bytes) (e, are.1) _ (Ok (e ∷ entries)) (entry_on form peers bytes are.0 are.1 e are.2 are.4) (
    then_on (entries_of form peers (length entries) are.1) entries _ (Ok (e ∷ entries)) (entries_on form peers entries are.1 are.3) refl)

-- ---- the body

rib_back : (form : RibForm) (peers : ℕ) (body : List ℕ) (entries : List Entry) → rib_of form (Some peers) body ≡ Ok entries → IsRib form peers body entries
unfolding rib_of head
rib_back form peers body entries is =
    let counted = then_back (head form.family body) _ entries is in
    let sequence = octets_back Cut 4 body _ counted.value counted.is in
    let prefix_length = number_back Cut 1 sequence.rest _ counted.value sequence.next in
    let n = big_number 1 prefix_length.field in
    let fits = check_back PrefixLong (leb n (8 * address_octets form.family)) _ counted.value prefix_length.next in
    let prefix = octets_back Cut ((n + 7) / 8) prefix_length.rest _ counted.value fits.1 in
    let count = number_back Cut 2 prefix.rest (λ c. Ok c) counted.value (ap (λ (r : Result (ℕ × List ℕ) RibFault). r >>= λ c. Ok c) prefix.next) in
    let same : (big_number 2 count.field, count.rest) ≡ counted.value = ok_same (big_number 2 count.field, count.rest) counted.value count.next in
    let behind = entries_back form.entries peers counted.value.0 counted.value.1 entries counted.next in
    record {
      sequence = sequence.field;
      prefix_length = prefix_length.field;
      prefix = prefix.field;
      entry_count = count.field;
      rib_entries = count.rest;
      sequence_octets = sequence.size;
      prefix_length_octets = prefix_length.size;
      prefix_fits = leb-true n (8 * address_octets form.family) fits.0;
      prefix_octets = prefix.size;
      entry_count_octets = count.size;
      count = ap (λ (c : ℕ × List ℕ). c.0) same ∙ behind.number;
      entries_encoded = subst (λ b. AreEntries form.entries peers entries b) (sym (ap (λ (c : ℕ × List ℕ). c.1) same)) behind.are;
      encoded = onto body _ _ _ _ (onto body _ _ _ _ (onto body _ _ _ _ sequence.parts prefix_length.parts) prefix.parts) count.parts;
    }

five_fields : (a b c d e : List ℕ) → a ++ b ++ c ++ d ++ e ≡ a ++ (b ++ (c ++ (d ++ e)))
five_fields a b c d e = simp append_assoc refl

head_on : (form : RibForm) (peers : ℕ) (body : List ℕ) (entries : List Entry) (is : IsRib form peers body entries) → head form.family body ≡ Ok (length entries, is.rib_entries)
unfolding head
head_on form peers body entries is =
    let read = Ok (length entries, is.rib_entries) in
    let n = big_number 1 is.prefix_length in
    ap (head form.family) (is.encoded ∙ five_fields is.sequence is.prefix_length is.prefix is.entry_count is.rib_entries)
    ∙ octets_on Cut 4 is.sequence _ _ read is.sequence_octets (
    number_on Cut 1 is.prefix_length _ n _ read is.prefix_length_octets refl (
    check_on PrefixLong (leb n (8 * address_octets form.family)) _ read (le-leb n (8 * address_octets form.family) is.prefix_fits) (
    octets_on Cut ((n + 7) / 8) is.prefix _ _ read is.prefix_octets (
    number_encoded Cut 2 is.entry_count is.rib_entries (length entries) is.entry_count_octets is.count))))

rib_on : (form : RibForm) (peers : ℕ) (body : List ℕ) (entries : List Entry) → IsRib form peers body entries → rib_of form (Some peers) body ≡ Ok entries
unfolding rib_of
rib_on form peers body entries is =
    then_on (head form.family body) (length entries, is.rib_entries) _ (Ok entries) (head_on form peers body entries is)
    (entries_on form.entries peers entries is.rib_entries is.entries_encoded)

pub rib_law : RibLaw
rib_law form peers body entries = (rib_back form peers body entries, rib_on form peers body entries)
