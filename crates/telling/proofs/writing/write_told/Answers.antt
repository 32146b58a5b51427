use Rattle.std.proofs.Common.{◌∙◌, ap, Some}
use Rattle.tor_io.specs.Outflow.{state}
use Rattle.tor_io.proofs.Putting.{all_finished}
use Rattle.telling.specs.ToldText.{told_text}
use Rattle.telling.proofs.writing.write_told.Goals as goal

pub returns : goal.returns
returns g c =
    let sink = g.S.Sink in
    let old = state (sink.held c.args.out.now) (sink.faults c.args.out.now) c.through-flow.result in
    let now = state (sink.held c.put_told.new.out) (sink.faults c.put_told.new.out) c.put_told.new.flow in
    let out = all_finished c.finish.result old now (sink.held c.finish.new.out) (sink.faults c.finish.new.out) (told_text c.args.file.now c.args.told.now)
    (c.through-flow.ensures ∙ ap (λ xs. Some xs) c.requires.empty) c.put_told.ensures c.finish.ensures in
    record { all = out.0; prefix = out.1; cause = out.2 }
