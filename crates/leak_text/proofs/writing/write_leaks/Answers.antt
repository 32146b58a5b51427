use Rattle.std.proofs.Common.{◌++◌, ◌∙◌, Some, ap}
use Rattle.tor_io.specs.Outflow.{state}
use Rattle.tor_io.proofs.Putting.{all_finished, puts_as, puts_then}
use Rattle.leak_text.specs.LeakText.{leaks_line, leaks_text, strange_rows, strange_lines}
use Rattle.leak_text.proofs.writing.write_leaks.Goals as goal

pub returns-clause-prefix : goal.returns-clause-prefix
returns-clause-prefix g c =
    let sink = g.S.Sink in
    let leaks = c.args.leaks.now in
    let old = state (sink.held c.args.out.now) (sink.faults c.args.out.now) c.through-flow.result in
    let now = state (sink.held c.put_totals.new.out) (sink.faults c.put_totals.new.out) c.put_totals.new.flow in
    let put = puts_as (puts_then c.put_lines-totals.ensures.lines c.put_totals.ensures)
    (ap (λ t. strange_lines leaks.rel leaks.own (strange_rows leaks) leaks.fates ++ leaks_line t) c.put_lines-totals.ensures.totals) in
    let out = all_finished c.finish.result old now (sink.held c.finish.new.out) (sink.faults c.finish.new.out) (leaks_text leaks)
    (c.through-flow.ensures ∙ ap (λ xs. Some xs) c.requires.empty) put c.finish.ensures in
    out.1
