use Rattle.std.proofs.Common.{refl}
use Rattle.std.proofs.lemmas.Result.{err_from_is_err_and}
use Rattle.dump_read.specs.Routes.{routes_in_table_dump}
use Rattle.dump_read.proofs.Outcomes.{none_many, not_taken, one_many, one_some, one_taken, one_unread}
use Rattle.dump_read.proofs.Takings.{none_of}
use Rattle.dump_read.proofs.records.take_table_dump.Goals as goal

pub returns-then-not-has_table_dump-clause-taken : goal.returns-then-not-has_table_dump-clause-taken
returns-then-not-has_table_dump-clause-taken c =
    not_taken c.args.wanted.now c.args.family c.args.body.now c.in_ok-attrs.attrs c.in_ok-attrs.ensures.route c.has_table_dump.result c.has_table_dump.ensures c.args.taken.now c.if-not-has_table_dump.true

pub returns-then-not-has_table_dump-clause-many : goal.returns-then-not-has_table_dump-clause-many
returns-then-not-has_table_dump-clause-many c =
    none_many c.args.wanted.now c.args.family c.args.body.now c.in_ok-attrs.attrs c.in_ok-attrs.ensures.route c.has_table_dump.result c.has_table_dump.ensures c.if-not-has_table_dump.true

pub returns-in_err-merge_alone-clause-some : goal.returns-in_err-merge_alone-clause-some
returns-in_err-merge_alone-clause-some c =
    let p = err_from_is_err_and c.from_residual-in_err-merge_alone.result c.from_residual-in_err-merge_alone.ensures.1 in
    rw p.1 (none_of c.args.wanted.now c.args.taken.now c.args.taken.now (routes_in_table_dump c.args.family c.args.body.now) refl)

pub returns-in_err-take_batch-clause-unread : goal.returns-in_err-take_batch-clause-unread
returns-in_err-take_batch-clause-unread c =
    let p = err_from_is_err_and c.from_residual-in_err-take_batch.result c.from_residual-in_err-take_batch.ensures.1 in
    rw (p.1, p.2) (one_unread c.args.wanted.now c.args.family c.args.body.now c.in_ok-attrs.attrs c.in_ok-attrs.ensures.route c.has_table_dump.result c.has_table_dump.ensures
    c.if-not-has_table_dump.false c.merge_alone.new.batch c.in_ok-merge_alone.ensures.routes c.args.taken.now c.in_err-take_batch.field-0.0 c.in_err-take_batch.ensures.limit)

pub returns-in_err-take_batch-clause-some : goal.returns-in_err-take_batch-clause-some
returns-in_err-take_batch-clause-some c =
    let p = err_from_is_err_and c.from_residual-in_err-take_batch.result c.from_residual-in_err-take_batch.ensures.1 in
    rw p.1 (one_some c.args.wanted.now c.args.family c.args.body.now c.in_ok-attrs.attrs c.in_ok-attrs.ensures.route c.has_table_dump.result c.has_table_dump.ensures
    c.if-not-has_table_dump.false c.merge_alone.new.batch c.in_ok-merge_alone.ensures.routes c.args.taken.now c.take_batch.new.taken c.in_err-take_batch.ensures.some)

pub returns-clause-taken : goal.returns-clause-taken
returns-clause-taken c =
    one_taken c.args.wanted.now c.args.family c.args.body.now c.in_ok-attrs.attrs c.in_ok-attrs.ensures.route c.has_table_dump.result c.has_table_dump.ensures
    c.if-not-has_table_dump.false c.merge_alone.new.batch c.in_ok-merge_alone.ensures.routes c.args.taken.now c.take_batch.new.taken c.in_ok-take_batch.ensures.taken

pub returns-clause-many : goal.returns-clause-many
returns-clause-many c =
    one_many c.args.wanted.now c.args.family c.args.body.now c.in_ok-attrs.attrs c.in_ok-attrs.ensures.route c.has_table_dump.result c.has_table_dump.ensures c.if-not-has_table_dump.false
