use Rattle.std.proofs.Common.{take}
use Rattle.std.specs.List.{flat_map}
use Rattle.tor_io.specs.Outflow.{state, Puts}
use Rattle.rank_text.specs.RankText.{rank_line}
use Rattle.rank_text.proofs.ranks.put_ranks.Given as goal

abbrev pub invariant-loop-rank : goal.invariant-loop-rank
invariant-loop-rank g l =
    let sink = g.S.Sink in
    Puts (state (sink.held l.fn.out) (sink.faults l.fn.out) l.fn.flow) (state (sink.held l.out) (sink.faults l.out) l.flow)
    (flat_map rank_line (take l.rank-index l.ranks))
