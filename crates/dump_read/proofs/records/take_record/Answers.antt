use Rattle.std.proofs.Common.{List, Option, Result, refl, sym, ap, subst, ◌∙◌}
use Rattle.mrt_frame.specs.Steps.{lent_record}
use Rattle.path_attrs.specs.declared.fault.RibFault.{RibFault}
use Rattle.rib_bodies.specs.declared.peers.Peer.{Peer}
use Rattle.dump_read.specs.Files.{many}
use Rattle.dump_read.specs.LastPeers.{IsLastTable}
use Rattle.dump_read.specs.Refusals.{IsUnread, TakesRead, TakesSomeRead}
use Rattle.dump_read.specs.Routes.{Route}
use Rattle.dump_read.proofs.OneRecord.{counted_as, listed_by_kind, listed_in_table, none_many, peers_by_kind, routes_by_kind, table_taken, unread_table}
use Rattle.dump_read.proofs.Takings.{none_of}
use Rattle.dump_read.proofs.records.take_record.Goals as goal

-- ---- TABLE_DUMP

pub returns-in-Err-clause-unread : goal.returns-in-Err-clause-unread
returns-in-Err-clause-unread c =
    let r = lent_record c.args.found.now in
    λ named kept.
    subst (λ (x : Result (List Route) RibFault). IsUnread c.args.wanted.now c.args.taken.now x c.in-Err.unread) (sym (routes_by_kind r.at c.args.found.now.kind _ r.body c.in-TableDump.is named))
    c.in-Err.ensures.unread

pub returns-in-Err-clause-some : goal.returns-in-Err-clause-some
returns-in-Err-clause-some c =
    let r = lent_record c.args.found.now in
    λ named kept.
    subst (λ (x : Result (List Route) RibFault). TakesSomeRead c.args.wanted.now c.args.taken.now x c.take_table_dump.new.taken)
    (sym (routes_by_kind r.at c.args.found.now.kind _ r.body c.in-TableDump.is named)) c.in-Err.ensures.some

pub returns-in-Ok-clause-peers : goal.returns-in-Ok-clause-peers
returns-in-Ok-clause-peers c =
    let r = lent_record c.args.found.now in
    λ named kept.
    subst (λ (x : Option (List Peer)). IsLastTable c.args.wanted.now x c.args.peers.now) (sym (peers_by_kind r.at c.args.found.now.kind _ r.body c.in-TableDump.is named)) kept

pub returns-in-Ok-clause-taken : goal.returns-in-Ok-clause-taken
returns-in-Ok-clause-taken c =
    let r = lent_record c.args.found.now in
    λ named kept.
    subst (λ (x : Result (List Route) RibFault). TakesRead c.args.wanted.now c.args.taken.now x c.take_table_dump.new.taken)
    (sym (routes_by_kind r.at c.args.found.now.kind _ r.body c.in-TableDump.is named)) c.in-Ok.ensures.taken

pub returns-in-Ok-clause-counted : goal.returns-in-Ok-clause-counted
returns-in-Ok-clause-counted c =
    let r = lent_record c.args.found.now in
    λ named kept.
    counted_as c.args.wanted.now named r c.args.file.now c.add.new.self _ _ c.add.ensures (listed_by_kind r.at c.args.found.now.kind _ r.body c.in-TableDump.is)
    (ap (many c.args.wanted.now) (routes_by_kind r.at c.args.found.now.kind _ r.body c.in-TableDump.is named) ∙ c.in-Ok.ensures.many)

-- ---- a peer table

pub returns-in-Err-replace-clause-unread : goal.returns-in-Err-replace-clause-unread
returns-in-Err-replace-clause-unread c =
    let r = lent_record c.args.found.now in
    λ named kept.
    subst (λ (x : Result (List Route) RibFault). IsUnread c.args.wanted.now c.args.taken.now x c.in-Err-replace.unread)
    (sym (routes_by_kind r.at c.args.found.now.kind _ r.body c.in-PeerTable.is named)) (unread_table c.args.wanted.now c.args.taken.now r.body c.in-Err-replace.unread c.in-Err-replace.ensures.fault)

pub returns-in-Err-replace-clause-some : goal.returns-in-Err-replace-clause-some
returns-in-Err-replace-clause-some c = λ named kept. none_of c.args.wanted.now c.args.taken.now c.args.taken.now _ refl

pub returns-in-Ok-replace-clause-peers : goal.returns-in-Ok-replace-clause-peers
returns-in-Ok-replace-clause-peers c =
    let r = lent_record c.args.found.now in
    λ named kept.
    subst (λ (x : Option (List Peer)). IsLastTable c.args.wanted.now x c.replace.new.self) (sym (peers_by_kind r.at c.args.found.now.kind _ r.body c.in-PeerTable.is named))
    c.in-Ok-replace.ensures.kept

pub returns-in-Ok-replace-clause-taken : goal.returns-in-Ok-replace-clause-taken
returns-in-Ok-replace-clause-taken c =
    let r = lent_record c.args.found.now in
    λ named kept.
    subst (λ (x : Result (List Route) RibFault). TakesRead c.args.wanted.now c.args.taken.now x c.args.taken.now)
    (sym (routes_by_kind r.at c.args.found.now.kind _ r.body c.in-PeerTable.is named)) (table_taken c.args.wanted.now c.args.taken.now r.body _ c.in-Ok-replace.ensures.count)

pub returns-in-Ok-replace-clause-counted : goal.returns-in-Ok-replace-clause-counted
returns-in-Ok-replace-clause-counted c =
    let r = lent_record c.args.found.now in
    λ named kept.
    counted_as c.args.wanted.now named r c.args.file.now c.add-in-Ok-replace.new.self _ _ c.add-in-Ok-replace.ensures
    (listed_by_kind r.at c.args.found.now.kind _ r.body c.in-PeerTable.is ∙ listed_in_table r.body _ c.in-Ok-replace.ensures.count ∙ sym c.from.ensures)
    (ap (many c.args.wanted.now) (routes_by_kind r.at c.args.found.now.kind _ r.body c.in-PeerTable.is named) ∙ none_many c.args.wanted.now r.body _ c.in-Ok-replace.ensures.count)

-- ---- a RIB

pub returns-in-Err-take_rib-clause-unread : goal.returns-in-Err-take_rib-clause-unread
returns-in-Err-take_rib-clause-unread c =
    let r = lent_record c.args.found.now in
    λ named kept.
    subst (λ (x : Result (List Route) RibFault). IsUnread c.args.wanted.now c.args.taken.now x c.in-Err-take_rib.unread)
    (sym (routes_by_kind r.at c.args.found.now.kind _ r.body c.in-Rib.is named)) (c.in-Err-take_rib.ensures.unread named kept)

pub returns-in-Err-take_rib-clause-some : goal.returns-in-Err-take_rib-clause-some
returns-in-Err-take_rib-clause-some c =
    let r = lent_record c.args.found.now in
    λ named kept.
    subst (λ (x : Result (List Route) RibFault). TakesSomeRead c.args.wanted.now c.args.taken.now x c.take_rib.new.taken)
    (sym (routes_by_kind r.at c.args.found.now.kind _ r.body c.in-Rib.is named)) (c.in-Err-take_rib.ensures.some named kept)

pub returns-in-Ok-take_rib-clause-peers : goal.returns-in-Ok-take_rib-clause-peers
returns-in-Ok-take_rib-clause-peers c =
    let r = lent_record c.args.found.now in
    λ named kept.
    subst (λ (x : Option (List Peer)). IsLastTable c.args.wanted.now x c.args.peers.now) (sym (peers_by_kind r.at c.args.found.now.kind _ r.body c.in-Rib.is named)) kept

pub returns-in-Ok-take_rib-clause-taken : goal.returns-in-Ok-take_rib-clause-taken
returns-in-Ok-take_rib-clause-taken c =
    let r = lent_record c.args.found.now in
    λ named kept.
    subst (λ (x : Result (List Route) RibFault). TakesRead c.args.wanted.now c.args.taken.now x c.take_rib.new.taken)
    (sym (routes_by_kind r.at c.args.found.now.kind _ r.body c.in-Rib.is named)) (c.in-Ok-take_rib.ensures.taken named kept)

pub returns-in-Ok-take_rib-clause-counted : goal.returns-in-Ok-take_rib-clause-counted
returns-in-Ok-take_rib-clause-counted c =
    let r = lent_record c.args.found.now in
    λ named kept.
    counted_as c.args.wanted.now named r c.args.file.now c.add-in-Ok-take_rib.new.self _ _ c.add-in-Ok-take_rib.ensures (listed_by_kind r.at c.args.found.now.kind _ r.body c.in-Rib.is)
    (ap (many c.args.wanted.now) (routes_by_kind r.at c.args.found.now.kind _ r.body c.in-Rib.is named) ∙ c.in-Ok-take_rib.ensures.many named kept)
