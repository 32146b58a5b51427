-- What one record gives, by its kind.
use Rattle.std.proofs.Common.{◌≡◌, ◌∙◌, ◌+◌, ℕ, List, [], Option, Some, option_map, unwrap_or, Result, Ok, sym, ap, ap₂}
use Rattle.std.specs.Result.{result_ok}
use Rattle.path_attrs.specs.declared.fault.RibFault.{RibFault}
use Rattle.record_counts.specs.Counting.{capped}
use Rattle.mrt_header.specs.declared.record_kind.RecordKind.{RecordKind}
use Rattle.mrt_header.specs.declared.record_kind.RecordKind.TheVariants.{PeerTable}
use Rattle.mrt_frame.specs.declared.header.At.{At}
use Rattle.mrt_frame.specs.Frames.{record_as}
use Rattle.mrt_frame.specs.Records.{Record}
use Rattle.mrt_frame.proofs.KindNumbers.{kind_again}
use Rattle.rib_bodies.specs.declared.peers.Peer.{Peer}
use Rattle.rib_bodies.specs.declared.peer_table.Peers.{Peers}
use Rattle.rib_bodies.specs.Peers.{peers_named}
use Rattle.rib_bodies.specs.PeerTable.{peers_of}
use Rattle.dump_read.specs.declared.records.Unread.{Unread}
use Rattle.dump_read.specs.declared.records.Unread.TheVariants as unread
use Rattle.dump_read.specs.declared.taking.Untaken.TheVariants as untaken
use Rattle.dump_read.specs.Batches.{IsUnmerged}
use Rattle.dump_read.specs.Files.{FileCounts, listed_in, peers_listed, many, with_one}
use Rattle.dump_read.specs.Refusals.{IsUnread, TakesRead}
use Rattle.dump_read.specs.Routes.{of_peer_table_read, peers_after, peers_behind, routes_in, routes_of}
use Rattle.dump_read.specs.Taking.{Taken}
use Rattle.dump_read.specs.Wanted.{Wanted}
use Rattle.dump_read.proofs.Takings.{no_entry}
use Rattle.dump_read.proofs.Countings.{named_table}

-- a record is known by its kind, and with that what its body gives
module _ (at : At) (kind is_kind : RecordKind) (body : List ℕ) (is : kind ≡ is_kind) where
  pub routes_by_kind : (named : Option (List Peer)) → routes_of named (record_as at kind body) ≡ routes_in (Some is_kind) named body
  routes_by_kind named = ap (λ k. routes_in k named body) (kind_again kind ∙ ap (λ (k : RecordKind). Some k) is)

  pub peers_by_kind : (named : Option (List Peer)) → peers_behind named (record_as at kind body) ≡ peers_after (Some is_kind) named body
  peers_by_kind named = ap (λ k. peers_after k named body) (kind_again kind ∙ ap (λ (k : RecordKind). Some k) is)

  pub listed_by_kind : peers_listed (record_as at kind body) ≡ listed_in (Some is_kind) body
  listed_by_kind = ap (λ k. listed_in k body) (kind_again kind ∙ ap (λ (k : RecordKind). Some k) is)

-- so many peer entries and routes more are those of the record
pub counted_as : (wanted : Wanted) (named : Option (List Peer)) (r : Record) (file new : FileCounts) (p n : ℕ)
    → new ≡ record file { peers = capped (file.peers + p); routes = capped (file.routes + n) } → peers_listed r ≡ p → many wanted (routes_of named r) ≡ n
    → new ≡ with_one wanted named r file
counted_as wanted named r file new p n is listed routes =
    is ∙ ap₂ (λ (p n : ℕ). record file { peers = capped (file.peers + p); routes = capped (file.routes + n) }) (sym listed) (sym routes)

-- ---- a peer table

pub listed_in_table : (body : List ℕ) (table : Peers) → peers_of body ≡ Ok table → listed_in (Some PeerTable) body ≡ table.count
listed_in_table body table is = ap (λ (read : Result Peers RibFault). unwrap_or (option_map (λ (t : Peers). t.count) (result_ok read)) 0) is

pub table_taken : (wanted : Wanted) (old : Taken) (body : List ℕ) (table : Peers) → peers_of body ≡ Ok table → TakesRead wanted old (of_peer_table_read (peers_named body)) old
table_taken wanted old body table is = let t = named_table body table is in ([], ap of_peer_table_read t.named, no_entry wanted.sets old)

pub none_many : (wanted : Wanted) (body : List ℕ) (table : Peers) → peers_of body ≡ Ok table → many wanted (of_peer_table_read (peers_named body)) ≡ 0
none_many wanted body table is = ap (λ (read : Result (List Peer) RibFault). many wanted (of_peer_table_read read)) (named_table body table is).named

pub unread_table : (wanted : Wanted) (old : Taken) (body : List ℕ) (why : Unread) → IsUnmerged (peers_named body) why → IsUnread wanted old (of_peer_table_read (peers_named body)) why
unread_table wanted old body (unread.Fault fault) is = ap of_peer_table_read is
unread_table wanted old body (unread.Untaken (untaken.Limit kind)) is = absurd is
unread_table wanted old body (unread.Untaken untaken.NoMemory) is = tt
