-- Which routes count, by what is kept of the last peer table and by what a TABLE_DUMP record names.
use Rattle.std.proofs.Common.{◌≡◌, ◌∙◌, ◌<◌, ◌&&◌, ◌∷◌, [], List, ℕ, zero, suc, Bool, true, false, cond, Option, Some, None, option_map, unwrap_or, Result, Ok, Err, length, map, filter}
use Rattle.std.proofs.Common.{slice_get, refl, sym, ap, arith}
use Rattle.std.specs.Prelude.{IsOk}
use Rattle.std.specs.Result.{result_ok}
use Rattle.path_attrs.specs.declared.fault.RibFault.{RibFault}
use Rattle.path_attrs.specs.Attributes.{Attribute}
use Rattle.path_attrs.specs.Fields.{◌>>=◌}
use Rattle.path_clean.specs.declared.cleaned.Cleaned.{Cleaned}
use Rattle.path_clean.specs.Clean.{merged_of}
use Rattle.path_segments.specs.declared.as_path.Width.TheVariants.{Four}
use Rattle.mrt_header.specs.declared.record_kind.EntryForm.{EntryForm}
use Rattle.mrt_header.specs.declared.record_kind.Family.{Family}
use Rattle.mrt_header.specs.declared.record_kind.RibForm.{RibForm}
use Rattle.rib_bodies.specs.declared.peers.Peer.{Peer}
use Rattle.rib_bodies.specs.declared.peer_table.Peers.{Peers}
use Rattle.rib_bodies.specs.declared.prefix.Prefix.{Prefix}
use Rattle.rib_bodies.specs.declared.rib.Entry.{Entry}
use Rattle.rib_bodies.specs.Encoding.{AreEntries}
use Rattle.rib_bodies.specs.Origins.{table_dump_origin}
use Rattle.rib_bodies.specs.Peers.{peers_named}
use Rattle.rib_bodies.specs.PeerTable.{peers_of}
use Rattle.rib_bodies.specs.Rib.{rib_of}
use Rattle.rib_bodies.specs.TableDump.{route_of}
use Rattle.rib_bodies.proofs.RibEncodings.{rib_law}
use Rattle.rib_bodies.proofs.TableDumpEncodings.{table_dump_law}
use Rattle.rib_bodies.proofs.ValueEncodings.{named_peers_law, origin_law}
use Rattle.dump_read.specs.declared.last_peers.LastPeers.{LastPeers}
use Rattle.dump_read.specs.declared.records.Unread.{Unread}
use Rattle.dump_read.specs.declared.records.Unread.TheVariants as unread
use Rattle.dump_read.specs.declared.taking.Untaken.TheVariants as untaken
use Rattle.dump_read.specs.Batches.{Batched, AreOf, IsUnmerged, MergesRead, merged, merged_entries}
use Rattle.dump_read.specs.Refusals.{IsUnread}
use Rattle.dump_read.specs.Taking.{Taken}
use Rattle.dump_read.specs.LastPeers.{IsLastTable, MarkPeers, peers_in, place_counts, entry_counts}
use Rattle.dump_read.specs.Routes.{Route, as_of_place, of_entry, of_entries, of_table_dump, of_rib_read, routes_in_rib, routes_in_table_dump}
use Rattle.dump_read.specs.Wanted.{Wanted, AllCountLaw, family_counts, peer_counts, counts, which_count}

-- ---- all count

pub all_count : AllCountLaw
all_count sets [] = refl
all_count sets (route ∷ routes) = ap (λ (t : List Route). route ∷ t) (all_count sets routes)

-- ---- the last peer table

pub first_table : (wanted : Wanted) → IsLastTable wanted None (record { table = None; marks = [] })
first_table wanted = record { many = refl; marks = by wanted.from }
  where
    by : (from : Option (List ℕ)) → MarkPeers from [] []
    by None = tt
    by (Some ases) = refl

-- the table that names these peers
abbrev table_of : Result (List Peer) RibFault → Result Peers RibFault
table_of read = read >>= λ peers. Ok (record { count = length peers })

-- a table that was read names as many peers as it has
pub record NamedTable (body : List ℕ) (table : Peers) : Type 0 where
  pub peers : List Peer
  pub named : peers_named body ≡ Ok peers
  pub many : table.count ≡ length peers

pub named_table : (body : List ℕ) (table : Peers) → peers_of body ≡ Ok table → NamedTable body table
named_table body table is = by (peers_named body) refl (sym (named_peers_law.counted body) ∙ is)
  where
    by : (read : Result (List Peer) RibFault) → peers_named body ≡ read → table_of read ≡ Ok table → NamedTable body table
    by (Ok peers) named same = record { peers = peers; named = named; many = count_of same }
      where
        count_of : ◌≡◌ {A = Result Peers RibFault} (Ok (record { count = length peers })) (Ok table) → table.count ≡ length peers
        count_of e = cc
    by (Err fault) named same = absurd cc

pub is_named : (body : List ℕ) (table : Peers) → peers_of body ≡ Ok table → IsOk (peers_named body)
is_named body table is = let t = named_table body table is in rw t.named refl

pub unnamed_table : (body : List ℕ) (fault : RibFault) → peers_of body ≡ Err fault → peers_named body ≡ Err fault
unnamed_table body fault is = by (peers_named body) (sym (named_peers_law.counted body) ∙ is)
  where
    by : (read : Result (List Peer) RibFault) → table_of read ≡ Err fault → read ≡ Err fault
    by (Ok peers) same = absurd cc
    by (Err other) same = cc

pub table_kept : (wanted : Wanted) (body : List ℕ) (table : Peers) (marks : List Bool) (t : NamedTable body table) → MarkPeers wanted.from t.peers marks
    → IsLastTable wanted (result_ok (peers_named body)) (record { table = Some table; marks = marks })
table_kept wanted body table marks t marked = rw t.named (record { many = ap (λ (n : ℕ). Some n) t.many; marks = marked })

pub all_marked : (from : Option (List ℕ)) (peers : List Peer) (marks : List Bool) → from ≡ None → MarkPeers from peers marks
all_marked None peers marks none = tt
all_marked (Some ases) peers marks none = absurd cc

-- ---- entries

place_as : (ases : List ℕ) (peers : List Peer) (place : ℕ) → place < length peers
    → unwrap_or (slice_get (map (λ (peer : Peer). peer_counts (Some ases) peer.as_number) peers) place) false ≡ peer_counts (Some ases) (as_of_place peers place)
place_as ases [] place lt = absurd (omega (arith, lt))
place_as ases (peer ∷ peers) zero lt = refl
place_as ases (peer ∷ peers) (suc place) lt = place_as ases peers place (omega (arith, lt))

same_place : (from : Option (List ℕ)) (peers : List Peer) (marks : List Bool) (place : ℕ) → MarkPeers from peers marks → place < length peers
    → place_counts from marks place ≡ peer_counts from (as_of_place peers place)
same_place None peers marks place marked lt = refl
same_place (Some ases) peers marks place marked lt = ap (λ (m : List Bool). unwrap_or (slice_get m place) false) marked ∙ place_as ases peers place lt

-- the entries that count are those whose routes do
entries_merged : (wanted : Wanted) (family : Family) (peers : List Peer) (marks : List Bool) (form : EntryForm) (entries : List Entry) (bytes : List ℕ) → MarkPeers wanted.from peers marks
    → AreEntries form (length peers) entries bytes
    → merged_entries wanted.sets (filter (entry_counts wanted family marks) entries) ≡ merged wanted.sets (which_count wanted (of_entries family peers entries))
entries_merged wanted family peers marks form [] bytes marked are = refl
entries_merged wanted family peers marks form (entry ∷ entries) bytes marked are =
    let same = ap (λ b. family_counts wanted.families family && b) (same_place wanted.from peers marks entry.peer marked are.2.peer_in_range) in
    ap (λ b. map of (cond b (entry ∷ filter (entry_counts wanted family marks) entries) (filter (entry_counts wanted family marks) entries))) same
    ∙ by (counts wanted (of_entry family peers entry)) (entries_merged wanted family peers marks form entries are.1 marked are.3)
  where
    of : Entry → Cleaned
    of e = merged_of wanted.sets Four e.attrs

    by : (b : Bool) → map of (filter (entry_counts wanted family marks) entries) ≡ merged wanted.sets (which_count wanted (of_entries family peers entries))
        → map of (cond b (entry ∷ filter (entry_counts wanted family marks) entries) (filter (entry_counts wanted family marks) entries))
        ≡ merged wanted.sets (cond b (of_entry family peers entry ∷ which_count wanted (of_entries family peers entries)) (which_count wanted (of_entries family peers entries)))
    by true ih = ap (λ (t : List Cleaned). of entry ∷ t) ih
    by false ih = ih

-- the routes of a RIB that was read, of which those that count were merged
pub record RibMerged (wanted : Wanted) (form : RibForm) (named : Option (List Peer)) (body : List ℕ) (batch : Batched) : Type 0 where
  pub routes : List Route
  pub read : routes_in_rib form named body ≡ Ok routes
  pub are : AreOf wanted.sets (which_count wanted routes) batch

pub rib_merged : (wanted : Wanted) (form : RibForm) (named : Option (List Peer)) (body : List ℕ) (last : LastPeers) (batch : Batched) → IsLastTable wanted named last
    → MergesRead wanted.sets (entry_counts wanted form.family last.marks) (rib_of form (peers_in last) body) batch → RibMerged wanted form named body batch
unfolding rib_of
rib_merged wanted form named body last batch kept merges = by named refl kept.marks (ap (λ n. rib_of form n body) (sym kept.many) ∙ merges.1)
  where
    by : (these : Option (List Peer)) → named ≡ these → MarkPeers wanted.from (unwrap_or these []) last.marks → rib_of form (option_map length these) body ≡ Ok merges.0
        → RibMerged wanted form named body batch
    by None is marked read = absurd cc
    by (Some peers) is marked read =
        let encoded = (rib_law form (length peers) body merges.0).0 read in
        rw is (record {
          routes = of_entries form.family peers merges.0;
          read = ap (of_rib_read form.family peers) read;
          are = merges.2 ∙ entries_merged wanted form.family peers last.marks form.entries merges.0 encoded.rib_entries marked encoded.entries_encoded;
        })

-- a fault of a RIB is that of its entries
pub rib_fault : (wanted : Wanted) (form : RibForm) (named : Option (List Peer)) (body : List ℕ) (last : LastPeers) (fault : RibFault) → IsLastTable wanted named last
    → rib_of form (peers_in last) body ≡ Err fault → routes_in_rib form named body ≡ Err fault
rib_fault wanted form named body last fault kept is = ap (of_rib_read form.family (unwrap_or named [])) (ap (λ n. rib_of form n body) (sym kept.many) ∙ is)

pub unmerged : (wanted : Wanted) (form : RibForm) (named : Option (List Peer)) (body : List ℕ) (last : LastPeers) (old : Taken) (why : Unread) (read : Result (List Entry) RibFault)
    → IsLastTable wanted named last → read ≡ rib_of form (peers_in last) body → IsUnmerged read why → IsUnread wanted old (routes_in_rib form named body) why
unmerged wanted form named body last old (unread.Fault fault) read kept is fails = rib_fault wanted form named body last fault kept (sym is ∙ fails)
unmerged wanted form named body last old (unread.Untaken (untaken.Limit kind)) read kept is fails = absurd fails
unmerged wanted form named body last old (unread.Untaken untaken.NoMemory) read kept is fails = tt

-- ---- TABLE_DUMP

-- a record that was read names its peer
pub record Alone (family : Family) (body : List ℕ) (attrs : List Attribute) : Type 0 where
  pub origin : Prefix × Peer
  pub there : table_dump_origin family body ≡ Ok origin
  pub read : routes_in_table_dump family body ≡ Ok (of_table_dump family origin.1.as_number attrs)

pub alone : (family : Family) (body : List ℕ) (attrs : List Attribute) → route_of family body ≡ Ok attrs → Alone family body attrs
alone family body attrs is =
    let there = origin_law.table_dump family body attrs ((table_dump_law family body attrs).0 is) in
    record {
      origin = _;
      there = there;
      read = ap (λ (read : Result (List Attribute) RibFault). read >>= λ attrs. table_dump_origin family body >>= λ origin. Ok (of_table_dump family origin.1.as_number attrs)) is
          ∙ ap (λ (read : Result (Prefix × Peer) RibFault). read >>= λ origin. Ok (of_table_dump family origin.1.as_number attrs)) there;
    }
