-- Which fault each kind of body has.
use Rattle.std.proofs.Common.{◌≡◌, ◌≢◌, ◌↔◌, ℕ, zero, suc, ◌*◌, ◌+◌, ◌/◌, ◌==◌, bit_and, leb, ltb, List, [], ◌∷◌, Option, Some, None, Result, Ok, Err, ap, ◌∙◌, if◌then◌else◌}
use Rattle.mrt_header.specs.declared.record_kind.Family.{Family}
use Rattle.mrt_header.specs.declared.record_kind.EntryForm.{EntryForm}
use Rattle.mrt_header.specs.declared.record_kind.RibForm.{RibForm}
use Rattle.mrt_header.specs.Kinds.{address_octets}
use Rattle.path_attrs.specs.declared.fault.RibFault.{RibFault}
use Rattle.path_attrs.specs.declared.fault.RibFault.TheVariants.{Cut, Tail, PrefixLong, NoPeerTable, PeerRange, AttrCut}
use Rattle.path_attrs.specs.declared.block.AttrCut.{AttrCut as AttrsCut}
use Rattle.path_attrs.specs.Fields.{◌>>=◌, or_fault}
use Rattle.path_attrs.specs.Attributes.{Attribute, attributes_of}
use Rattle.rib_bodies.specs.declared.rib.Entry.{Entry}
use Rattle.rib_bodies.specs.PeerTable.{behind_peer, behind_peers, peers_of}
use Rattle.rib_bodies.specs.Rib.{Fields, path_id_octets, head, entry_fields, entry, entries_of, rib_of}
use Rattle.rib_bodies.specs.TableDump.{behind_fields, route_of}
use Rattle.rib_bodies.specs.Faults.{TellsTail, TellsCut, TailFaultLaw, CutFaultLaw}
use Rattle.rib_bodies.proofs.TableDumpEncodings.{table_dump_law}
use Rattle.rib_bodies.proofs.PeerEncodings.{peer_table_law}
use Rattle.rib_bodies.proofs.RibEncodings.{rib_law}
use Rattle.rib_bodies.proofs.FaultLemmas.{IsReading, only_fault, end_reading, octets_first, number_first, number_reading, field_reading, tested, read_or, mapped, same_reading, then_same}

apart_prefix : (PrefixLong ≢ Cut) × (PrefixLong ≢ Tail)
apart_prefix = (λ e. cc, λ e. cc)

apart_attr : (AttrCut ≢ Cut) × (AttrCut ≢ Tail)
apart_attr = (λ e. cc, λ e. cc)

apart_range : (PeerRange ≢ Cut) × (PeerRange ≢ Tail)
apart_range = (λ e. cc, λ e. cc)

apart_table : (NoPeerTable ≢ Cut) × (NoPeerTable ≢ Tail)
apart_table = (λ e. cc, λ e. cc)

-- ---- TABLE_DUMP

route_reading : (family : Family) → IsReading (route_of family)
unfolding route_of behind_fields
route_reading family =
    octets_first 2 _ _ λ view _.
    octets_first 2 _ _ λ sequence _.
    octets_first (address_octets family) _ _ λ prefix _.
    number_first 1 _ _ λ prefix_length.
    tested PrefixLong (leb prefix_length (8 * address_octets family)) _ _ apart_prefix.0 apart_prefix.1 (
    octets_first 1 _ _ λ status _.
    octets_first 4 _ _ λ originated _.
    octets_first (address_octets family) _ _ λ peer_ip _.
    octets_first 2 _ _ λ peer_as _.
    number_reading 2 _ λ attribute_length.
    field_reading attribute_length _ λ block _.
    read_or AttrCut (attributes_of block) _ apart_attr.0 apart_attr.1 λ attributes.
    end_reading attributes)

-- ---- peer tables

peer_first : {A : Type 0} (K : List ℕ → Result A RibFault) → IsReading K → IsReading (λ bytes. behind_peer bytes >>= K)
unfolding behind_peer
peer_first K on =
    number_first 1 _ _ λ peer_type.
    octets_first 4 _ _ λ bgp_id _.
    octets_first (if bit_and peer_type 1 == 0 then 4 else 16) _ _ λ ip _.
    octets_first (if bit_and peer_type 2 == 0 then 2 else 4) _ _ λ as_number _.
    on

peers_first : {A : Type 0} (K : List ℕ → Result A RibFault) → IsReading K → (count : ℕ) → IsReading (λ bytes. behind_peers count bytes >>= K)
unfolding behind_peers
peers_first K on zero = on
peers_first K on (suc count) =
    same_reading (λ bytes. behind_peer bytes >>= λ rest. behind_peers count rest >>= K) (λ bytes. behind_peers (suc count) bytes >>= K)
    (λ bytes. then_same (behind_peer bytes) (behind_peers count) K) (peer_first (λ rest. behind_peers count rest >>= K) (peers_first K on count))

table_reading : IsReading peers_of
unfolding peers_of
table_reading =
    field_reading 4 _ λ collector _.
    number_reading 2 _ λ name_length.
    field_reading name_length _ λ name _.
    number_reading 2 _ λ peer_count.
    peers_first _ (end_reading (record { count = peer_count })) peer_count

-- ---- RIBs

-- the attributes of an entry whose other fields are read
abbrev then_attributes : {A : Type 0} → (Entry × List ℕ → Result A RibFault) → ℕ → List ℕ → Result (List Attribute) AttrsCut → Result A RibFault
then_attributes K peer rest read = (or_fault AttrCut read >>= λ attributes. Ok (record { peer = peer; attrs = attributes }, rest)) >>= K

entry_first : {A : Type 0} (form : EntryForm) (peers : ℕ) (K : Entry × List ℕ → Result A RibFault) → ((e : Entry) → IsReading (λ rest. K (e, rest))) →
    IsReading (λ bytes. entry form peers bytes >>= K)
unfolding entry entry_fields
entry_first {A = A} form peers K on =
    same_reading (λ bytes. entry_fields form peers bytes >>= by_fields) (λ bytes. entry form peers bytes >>= K)
    (λ bytes. then_same (entry_fields form peers bytes) _ K) (
    number_first 2 _ by_fields λ peer_index.
    tested PeerRange (ltb peer_index peers) _ by_fields apart_range.0 apart_range.1 (
    octets_first 4 _ by_fields λ originated _.
    octets_first (path_id_octets form) _ by_fields λ path_id _.
    number_first 2 _ by_fields λ attribute_length.
    octets_first attribute_length _ by_fields λ block _.
    with_attributes peer_index (attributes_of block)))
  where
    by_fields : Fields → Result A RibFault
    by_fields fields = then_attributes K fields.peer fields.rest (attributes_of fields.block)

    with_attributes : (peer : ℕ) (read : Result (List Attribute) AttrsCut) → IsReading (λ rest. then_attributes K peer rest read)
    with_attributes peer (Ok attributes) = on (record { peer = peer; attrs = attributes })
    with_attributes peer (Err e) = only_fault AttrCut apart_attr.0 apart_attr.1

entries_reading : (form : EntryForm) (peers count : ℕ) → IsReading (entries_of form peers count)
unfolding entries_of
entries_reading form peers zero = end_reading []
entries_reading form peers (suc count) =
    entry_first form peers (λ first. entries_of form peers count first.1 >>= λ others. Ok (first.0 ∷ others))
    λ first. mapped (entries_of form peers count) (λ others. first ∷ others) (entries_reading form peers count)

rib_reading : (form : RibForm) (table : Option ℕ) → IsReading (rib_of form table)
unfolding rib_of head
rib_reading form None = only_fault NoPeerTable apart_table.0 apart_table.1
rib_reading form (Some peers) =
    octets_first 4 _ _ λ sequence _.
    number_first 1 _ _ λ prefix_length.
    tested PrefixLong (leb prefix_length (8 * address_octets form.family)) _ _ apart_prefix.0 apart_prefix.1 (
    octets_first ((prefix_length + 7) / 8) _ _ λ prefix _.
    number_reading 2 _ λ count.
    entries_reading form.entries peers count)

-- ---- the laws

tells_tail : {A : Type 0} (read : List ℕ → Result A RibFault) (Encodes : List ℕ → A → Type 0) → IsReading read →
    ((body : List ℕ) (x : A) → (read body ≡ Ok x) ↔ Encodes body x) → TellsTail read Encodes
tells_tail read Encodes is law body = (
  λ e. let p = is.parted body e in record {
    first = p.first;
    behind = p.behind;
    value = p.value;
    encoded = (law p.first p.value).0 p.is_read;
    more = p.more;
    parts = p.parts;
  },
  λ t. ap read t.parts ∙ is.tail t.first t.behind t.value ((law t.first t.value).1 t.encoded) t.more,
)

tells_cut : {A : Type 0} (read : List ℕ → Result A RibFault) → IsReading read → TellsCut read
tells_cut read is = record { goes_on = λ body e. is.goes_on body; stays = is.stays }

pub tail_law : TailFaultLaw
tail_law = record {
  table_dump = λ family. tells_tail (route_of family) _ (route_reading family) (table_dump_law family);
  peer_table = tells_tail peers_of _ table_reading peer_table_law;
  rib = λ form peers. tells_tail (rib_of form (Some peers)) _ (rib_reading form (Some peers)) (rib_law form peers);
}

pub cut_law : CutFaultLaw
cut_law = record {
  table_dump = λ family. tells_cut (route_of family) (route_reading family);
  peer_table = tells_cut peers_of table_reading;
  rib = λ form peers. tells_cut (rib_of form peers) (rib_reading form peers);
}
