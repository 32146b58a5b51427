use Rattle.std.proofs.Common.{◌++◌}
use Rattle.tor_io.proofs.Passing.{all_flushed, flush_stops}
use Rattle.torgrade_run.specs.Grading.{text_of}
use Rattle.torgrade_run.proofs.writing.write_all_of.Goals as goal

pub returns-clause-all : goal.returns-clause-all
returns-clause-all g c =
    let held = g.O.Sink.held in
    all_flushed c.flush.result (held c.args.out.now) (held c.put_all.new.out) (held c.flush.new.sink) c.put_all.new.buffer (c.args.buffer.now ++ text_of c.args.graded.now)
    c.in_ok-put_all.ensures.all c.flush.ensures.all

pub returns-clause-prefix : goal.returns-clause-prefix
returns-clause-prefix g c =
    let held = g.O.Sink.held in
    flush_stops c.flush.result (held c.args.out.now) (held c.put_all.new.out) (held c.flush.new.sink) c.put_all.new.buffer (c.args.buffer.now ++ text_of c.args.graded.now)
    c.in_ok-put_all.ensures.all c.flush.ensures.prefix
