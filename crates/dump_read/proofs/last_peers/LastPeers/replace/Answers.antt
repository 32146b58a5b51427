use Rattle.std.proofs.Common.{sym, subst}
use Rattle.std.specs.Prelude.{IfOk}
use Rattle.dump_read.specs.LastPeers.{MarkPeers}
use Rattle.dump_read.proofs.Countings.{is_named, named_table, table_kept, unnamed_table}
use Rattle.dump_read.proofs.last_peers.LastPeers.replace.Goals as goal

pub returns-in-Err-clause-fault : goal.returns-in-Err-clause-fault
returns-in-Err-clause-fault c = unnamed_table c.args.body.now c.in-Err.fault (sym c.in-Err.ensures.peers)

pub mark_table-requires : goal.mark_table-requires
mark_table-requires c = record { table = is_named c.args.body.now c.in-Ok.table (sym c.in-Ok.ensures.peers) }

pub returns-clause-kept : goal.returns-clause-kept
returns-clause-kept c =
    let t = named_table c.args.body.now c.in-Ok.table (sym c.in-Ok.ensures.peers) in
    table_kept c.args.wanted.now c.args.body.now c.in-Ok.table c.mark_table.new.marks t
    (subst (λ read. IfOk read (λ peers. MarkPeers c.args.wanted.now.from peers c.mark_table.new.marks)) t.named c.in_ok-mark_table.ensures)
