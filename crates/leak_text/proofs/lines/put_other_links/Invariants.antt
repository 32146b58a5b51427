use Rattle.std.proofs.Common.{take}
use Rattle.tor_io.specs.Outflow.{state, Puts}
use Rattle.result_text.specs.Text.{others}
use Rattle.leak_text.specs.LeakText.{leak_link_text}
use Rattle.leak_text.proofs.lines.put_other_links.Given as goal

abbrev pub invariant-loop-link : goal.invariant-loop-link
invariant-loop-link g l =
    let sink = g.S.Sink in
    Puts (state (sink.held l.fn.out) (sink.faults l.fn.out) l.fn.flow) (state (sink.held l.out) (sink.faults l.out) l.flow) (others (leak_link_text l.own) (take l.link-index l.links))
