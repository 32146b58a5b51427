use Rattle.std.proofs.Common.{◌≡◌, List, map, take}
use Rattle.std.specs.List.{flat_map}
use Rattle.tor_io.specs.Outflow.{state, Puts}
use Rattle.as_rel.specs.declared.line.RelLine.{RelLine}
use Rattle.as_ranks.specs.Cycles.{inside_of}
use Rattle.rank_text.specs.RankText.{cycle_text}
use Rattle.rank_text.proofs.cycles.put_all.Given as goal

abbrev pub invariant-loop-place : goal.invariant-loop-place
invariant-loop-place g l =
    let sink = g.S.Sink in
    (rel : List RelLine) → l.cycles.inside ≡ map (inside_of rel) l.cycles.ases →
    Puts (state (sink.held l.fn.out) (sink.faults l.fn.out) l.fn.flow) (state (sink.held l.out) (sink.faults l.out) l.flow)
    (flat_map (cycle_text rel) (take l.place l.cycles.ases))
