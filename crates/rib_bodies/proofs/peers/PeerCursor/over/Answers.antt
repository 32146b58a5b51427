use Rattle.std.proofs.Common.{sym, ◌∙◌}
use Rattle.std.proofs.lemmas.Result.{err_from_is_err_and}
use Rattle.rib_bodies.proofs.PeerLoops.{table-fault, table-then}
use Rattle.rib_bodies.proofs.peers.PeerCursor.over.Goals as goal

pub returns-in_err-count-clause-peers : goal.returns-in_err-count-clause-peers
returns-in_err-count-clause-peers c =
    let p = err_from_is_err_and c.from_residual.result c.from_residual.ensures.1 in
    rw (p.1, p.2) (sym (table-fault c.args.body.now c.in_err-count.field-0.0 c.in_err-count.ensures))

pub returns-clause-peers : goal.returns-clause-peers
returns-clause-peers c = c.peers_over.ensures.peers ∙ sym (table-then c.args.body.now c.in_ok-count.count c.in_ok-count.rest.now c.in_ok-count.ensures)
