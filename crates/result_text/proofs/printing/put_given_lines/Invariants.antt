use Rattle.std.proofs.Common.{take, map}
use Rattle.tor_io.specs.Outflow.{state, Puts}
use Rattle.result_text.specs.declared.line.Line.TheVariants as line
use Rattle.result_text.specs.declared.line.Version.{Version}
use Rattle.result_text.specs.Text.{text_of_lines}
use Rattle.result_text.proofs.printing.put_given_lines.Given as goal

abbrev pub invariant-loop-given : goal.invariant-loop-given
invariant-loop-given g l =
    let sink = g.S.Sink in
    (v : Version) → Puts (state (sink.held l.fn.out) (sink.faults l.fn.out) l.fn.flow) (state (sink.held l.out) (sink.faults l.out) l.flow) (text_of_lines v (map (λ x. line.Given x) (take l.given-index l.givens)))
