use Rattle.tor_io.proofs.Passing.{stopped_behind}
use Rattle.result_text.specs.Text.{text}
use Rattle.tor_output.proofs.output.write_result.Goals as goal

pub returns-clause-prefix : goal.returns-clause-prefix
returns-clause-prefix g c =
    let held = g.O.Sink.held in
    stopped_behind c.write_text.result (held c.args.out.now) (held c.flush.new.sink) (held c.write_text.new.out) c.args.buffer.now (text c.args.file.now) c.in_ok-flush.ensures.all
    c.write_text.ensures.prefix
