use Rattle.std.proofs.Common.{take}
use Rattle.std.specs.List.{flat_map}
use Rattle.tor_io.specs.Outflow.{state, Puts}
use Rattle.rank_text.specs.RankText.{inside_line}
use Rattle.rank_text.proofs.cycles.put_insides.Given as goal

abbrev pub invariant-loop-line : goal.invariant-loop-line
invariant-loop-line g l =
    let sink = g.S.Sink in
    Puts (state (sink.held l.fn.out) (sink.faults l.fn.out) l.fn.flow) (state (sink.held l.out) (sink.faults l.out) l.flow)
    (flat_map inside_line (take l.line-index l.lines))
