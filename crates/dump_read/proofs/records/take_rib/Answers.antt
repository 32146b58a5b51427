use Rattle.std.proofs.Common.{refl, sym, subst, ◌∙◌}
use Rattle.std.proofs.lemmas.Result.{err_from_is_err_and}
use Rattle.dump_read.specs.Routes.{routes_in_rib}
use Rattle.dump_read.specs.Batches.{MergesRead}
use Rattle.dump_read.specs.LastPeers.{entry_counts}
use Rattle.dump_read.proofs.Countings.{rib_fault, rib_merged, unmerged}
use Rattle.dump_read.proofs.Outcomes.{batch_many, batch_some, batch_taken, batch_unread}
use Rattle.dump_read.proofs.Takings.{none_of}
use Rattle.dump_read.proofs.records.take_rib.Goals as goal

pub returns-in_err-entries-clause-unread : goal.returns-in_err-entries-clause-unread
returns-in_err-entries-clause-unread c =
    let p = err_from_is_err_and c.from_residual.result c.from_residual.ensures.1 in
    rw (p.1, p.2) (λ named kept. rib_fault c.args.wanted.now c.args.form named c.args.body.now c.args.peers.now c.in_err-entries.field-0.0 kept c.in_err-entries.ensures.fault)

pub returns-in_err-entries-clause-some : goal.returns-in_err-entries-clause-some
returns-in_err-entries-clause-some c =
    let p = err_from_is_err_and c.from_residual.result c.from_residual.ensures.1 in
    rw p.1 (λ named kept. none_of c.args.wanted.now c.args.taken.now c.args.taken.now (routes_in_rib c.args.form named c.args.body.now) refl)

pub returns-in_err-merge_entries-clause-unread : goal.returns-in_err-merge_entries-clause-unread
returns-in_err-merge_entries-clause-unread c =
    let p = err_from_is_err_and c.from_residual-in_err-merge_entries.result c.from_residual-in_err-merge_entries.ensures.1 in
    rw (p.1, p.2) (λ named kept. unmerged c.args.wanted.now c.args.form named c.args.body.now c.args.peers.now c.args.taken.now c.in_err-merge_entries.field-0.0 c.in_ok-entries.entries.entries
    kept c.in_ok-entries.ensures.entries c.in_err-merge_entries.ensures.fault)

pub returns-in_err-merge_entries-clause-some : goal.returns-in_err-merge_entries-clause-some
returns-in_err-merge_entries-clause-some c =
    let p = err_from_is_err_and c.from_residual-in_err-merge_entries.result c.from_residual-in_err-merge_entries.ensures.1 in
    rw p.1 (λ named kept. none_of c.args.wanted.now c.args.taken.now c.args.taken.now (routes_in_rib c.args.form named c.args.body.now) refl)

pub returns-in_err-take_batch-clause-unread : goal.returns-in_err-take_batch-clause-unread
returns-in_err-take_batch-clause-unread c =
    let p = err_from_is_err_and c.from_residual-in_err-take_batch.result c.from_residual-in_err-take_batch.ensures.1 in
    let wanted = c.args.wanted.now in
    let last = c.args.peers.now in
    let batch = c.merge_entries.new.batch in
    let merges = subst (λ read. MergesRead wanted.sets (entry_counts wanted c.args.form.family last.marks) read batch) c.in_ok-entries.ensures.entries c.in_ok-merge_entries.ensures.routes in
    rw (p.1, p.2) (λ named kept.
    let m = rib_merged wanted c.args.form named c.args.body.now last batch kept merges in
    batch_unread wanted (routes_in_rib c.args.form named c.args.body.now) m.routes m.read batch m.are c.args.taken.now c.in_err-take_batch.field-0.0 c.in_err-take_batch.ensures.limit)

pub returns-in_err-take_batch-clause-some : goal.returns-in_err-take_batch-clause-some
returns-in_err-take_batch-clause-some c =
    let p = err_from_is_err_and c.from_residual-in_err-take_batch.result c.from_residual-in_err-take_batch.ensures.1 in
    let wanted = c.args.wanted.now in
    let last = c.args.peers.now in
    let batch = c.merge_entries.new.batch in
    let merges = subst (λ read. MergesRead wanted.sets (entry_counts wanted c.args.form.family last.marks) read batch) c.in_ok-entries.ensures.entries c.in_ok-merge_entries.ensures.routes in
    rw p.1 (λ named kept.
    let m = rib_merged wanted c.args.form named c.args.body.now last batch kept merges in
    batch_some wanted (routes_in_rib c.args.form named c.args.body.now) m.routes m.read batch m.are c.args.taken.now c.take_batch.new.taken c.in_err-take_batch.ensures.some)

pub returns-clause-taken : goal.returns-clause-taken
returns-clause-taken c =
    let wanted = c.args.wanted.now in
    let last = c.args.peers.now in
    let batch = c.merge_entries.new.batch in
    let merges = subst (λ read. MergesRead wanted.sets (entry_counts wanted c.args.form.family last.marks) read batch) c.in_ok-entries.ensures.entries c.in_ok-merge_entries.ensures.routes in
    λ named kept.
    let m = rib_merged wanted c.args.form named c.args.body.now last batch kept merges in
    batch_taken wanted (routes_in_rib c.args.form named c.args.body.now) m.routes m.read batch m.are c.args.taken.now c.take_batch.new.taken c.in_ok-take_batch.ensures.taken

pub returns-clause-many : goal.returns-clause-many
returns-clause-many c =
    let wanted = c.args.wanted.now in
    let last = c.args.peers.now in
    let batch = c.merge_entries.new.batch in
    let merges = subst (λ read. MergesRead wanted.sets (entry_counts wanted c.args.form.family last.marks) read batch) c.in_ok-entries.ensures.entries c.in_ok-merge_entries.ensures.routes in
    λ named kept.
    let m = rib_merged wanted c.args.form named c.args.body.now last batch kept merges in
    batch_many wanted (routes_in_rib c.args.form named c.args.body.now) m.routes m.read batch m.are c.args.taken.now ∙ sym c.len-routes.ensures
