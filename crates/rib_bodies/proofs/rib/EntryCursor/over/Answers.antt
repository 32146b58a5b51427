use Rattle.std.proofs.Common.{sym, ◌∙◌}
use Rattle.std.proofs.lemmas.Result.{err_from_is_err_and}
use Rattle.rib_bodies.proofs.Loops.{no_table, head-fault, head-then}
use Rattle.rib_bodies.proofs.rib.EntryCursor.over.Goals as goal

pub returns-in_default-clause-entries : goal.returns-in_default-clause-entries
returns-in_default-clause-entries c = rw c.in_default.is (sym (no_table c.args.form c.args.body.now))

pub returns-in_err-count-clause-entries : goal.returns-in_err-count-clause-entries
returns-in_err-count-clause-entries c =
    let p = err_from_is_err_and c.from_residual.result c.from_residual.ensures.1 in
    rw (p.1, p.2, c.in-Some.is) (sym (head-fault c.args.form c.in-Some.peers.now.count c.args.body.now c.in_err-count.field-0.0 c.in_err-count.ensures))

pub returns-clause-entries : goal.returns-clause-entries
returns-clause-entries c =
    rw c.in-Some.is (c.entries_over.ensures.entries
    ∙ sym (head-then c.args.form c.in-Some.peers.now.count c.in_ok-count.count c.args.body.now c.in_ok-count.rest.now c.in_ok-count.ensures))
