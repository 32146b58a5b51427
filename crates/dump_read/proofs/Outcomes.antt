-- What became of the routes of a record, by what became of the batch of those that count.
use Rattle.std.proofs.Common.{◌≡◌, ◌∙◌, ◌&&◌, [], List, ℕ, Bool, true, false, cond, Result, Ok, length, sym, ap, subst}
use Rattle.std.specs.Prelude.{IfOk}
use Rattle.std.proofs.lemmas.List.{length-map}
use Rattle.path_attrs.specs.declared.fault.RibFault.{RibFault}
use Rattle.path_attrs.specs.Attributes.{Attribute}
use Rattle.path_clean.specs.Clean.{merged_of}
use Rattle.mrt_header.specs.declared.record_kind.Family.{Family}
use Rattle.rib_bodies.specs.declared.peers.Peer.{Peer}
use Rattle.rib_bodies.specs.declared.prefix.Prefix.{Prefix}
use Rattle.rib_bodies.specs.Origins.{table_dump_origin}
use Rattle.rib_bodies.specs.TableDump.{route_of}
use Rattle.dump_read.specs.declared.records.Unread.TheVariants as unread
use Rattle.dump_read.specs.declared.taking.Untaken.{Untaken}
use Rattle.dump_read.specs.Batches.{AreOf, Batched, IsBatchLimit, TakesBatch, TakesSomeOfBatch}
use Rattle.dump_read.specs.Files.{many}
use Rattle.dump_read.specs.Refusals.{IsUnread, TakesRead, TakesSomeRead}
use Rattle.dump_read.specs.Routes.{Route, of_table_dump, routes_in_table_dump}
use Rattle.dump_read.specs.Taking.{Taken, Takes}
use Rattle.dump_read.specs.Wanted.{Wanted, family_counts, peer_counts, which_count}
use Rattle.dump_read.proofs.Countings.{Alone, alone}
use Rattle.dump_read.proofs.Takings.{no_entry, some_of, unread_routes}

-- ---- routes that were read, of which those that count are these

module _ (wanted : Wanted) (read : Result (List Route) RibFault) (routes : List Route) (is : read ≡ Ok routes) (batch : Batched)
    (are : AreOf wanted.sets (which_count wanted routes) batch) (old : Taken) where
  pub batch_taken : (new : Taken) → TakesBatch batch old new → TakesRead wanted old read new
  batch_taken new takes = (routes, is, takes wanted.sets (which_count wanted routes) are)

  pub batch_unread : (why : Untaken) → IsBatchLimit batch old why → IsUnread wanted old read (unread.Untaken why)
  batch_unread why limit = unread_routes wanted old read routes why (sym is) (limit wanted.sets (which_count wanted routes) are)

  pub batch_some : (new : Taken) → TakesSomeOfBatch batch old new → TakesSomeRead wanted old read new
  batch_some new some = some_of wanted old new read routes (sym is) (some wanted.sets (which_count wanted routes) are)

  pub batch_many : many wanted read ≡ length batch.routes
  batch_many = ap (many wanted) is ∙ sym (ap length are ∙ length-map (which_count wanted routes) (λ (route : Route). merged_of wanted.sets route.width route.attrs))

-- ---- a record of TABLE_DUMP

module _ (wanted : Wanted) (family : Family) (body : List ℕ) (attrs : List Attribute) (read : Ok attrs ≡ route_of family body) (b : Bool)
    (is : IfOk (table_dump_origin family body) (λ origin. b ≡ (family_counts wanted.families family && peer_counts wanted.from origin.1.as_number))) where
  its : Alone family body attrs
  its = alone family body attrs (sym read)

  it_counts : (family_counts wanted.families family && peer_counts wanted.from its.origin.1.as_number) ≡ b
  it_counts =
      sym (subst (λ (r : Result (Prefix × Peer) RibFault). IfOk r (λ origin. b ≡ (family_counts wanted.families family && peer_counts wanted.from origin.1.as_number))) its.there is)

  which : (c : Bool) → b ≡ c → which_count wanted (of_table_dump family its.origin.1.as_number attrs) ≡ cond c (of_table_dump family its.origin.1.as_number attrs) []
  which c same = ap (λ (c : Bool). cond c (of_table_dump family its.origin.1.as_number attrs) []) (it_counts ∙ same)

  pub not_taken : (old : Taken) → b ≡ false → TakesRead wanted old (routes_in_table_dump family body) old
  not_taken old none = (
    of_table_dump family its.origin.1.as_number attrs,
    its.read,
    subst (λ (routes : List Route). Takes wanted.sets old routes old) (sym (which false none)) (no_entry wanted.sets old),
  )

  pub none_many : b ≡ false → many wanted (routes_in_table_dump family body) ≡ 0
  none_many none = ap (many wanted) its.read ∙ ap length (which false none)

  pub one_many : b ≡ true → many wanted (routes_in_table_dump family body) ≡ 1
  one_many one = ap (many wanted) its.read ∙ ap length (which true one)

  module _ (one : b ≡ true) (batch : Batched) (are : (family : Family) (peer : ℕ) → AreOf wanted.sets (of_table_dump family peer attrs) batch) (old : Taken) where
    are_counting : AreOf wanted.sets (which_count wanted (of_table_dump family its.origin.1.as_number attrs)) batch
    are_counting = subst (λ (routes : List Route). AreOf wanted.sets routes batch) (sym (which true one)) (are family its.origin.1.as_number)

    pub one_taken : (new : Taken) → TakesBatch batch old new → TakesRead wanted old (routes_in_table_dump family body) new
    one_taken = batch_taken wanted (routes_in_table_dump family body) (of_table_dump family its.origin.1.as_number attrs) its.read batch are_counting old

    pub one_unread : (why : Untaken) → IsBatchLimit batch old why → IsUnread wanted old (routes_in_table_dump family body) (unread.Untaken why)
    one_unread = batch_unread wanted (routes_in_table_dump family body) (of_table_dump family its.origin.1.as_number attrs) its.read batch are_counting old

    pub one_some : (new : Taken) → TakesSomeOfBatch batch old new → TakesSomeRead wanted old (routes_in_table_dump family body) new
    one_some = batch_some wanted (routes_in_table_dump family body) (of_table_dump family its.origin.1.as_number attrs) its.read batch are_counting old
