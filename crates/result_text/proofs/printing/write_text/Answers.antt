use Rattle.std.proofs.Common.{◌∙◌, ap, Some}
use Rattle.tor_io.specs.Outflow.{state}
use Rattle.tor_io.proofs.Putting.{puts_as, puts_then, all_finished}
use Rattle.result_text.specs.Text.{text}
use Rattle.result_text.proofs.Parts.{whole_text}
use Rattle.result_text.proofs.printing.write_text.Goals as goal

pub returns : goal.returns
returns g c =
    let sink = g.S.Sink in
    let file = c.args.file.now in
    let old = state (sink.held c.args.out.now) (sink.faults c.args.out.now) c.through-flow.result in
    let now = state (sink.held c.put_body.new.out) (sink.faults c.put_body.new.out) c.put_body.new.flow in
    let put = puts_as (puts_then c.put_head.ensures c.put_body.ensures) (whole_text file c.version_of-version.result c.version_of-version.ensures) in
    let out = all_finished c.finish.result old now (sink.held c.finish.new.out) (sink.faults c.finish.new.out) (text file) (c.through-flow.ensures ∙ ap (λ xs. Some xs) c.requires) put c.finish.ensures in
    record { all = out.0; prefix = out.1; cause = out.2 }
