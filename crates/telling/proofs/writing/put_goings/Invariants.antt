use Rattle.std.proofs.Common.{take}
use Rattle.tor_io.specs.Outflow.{state, Puts}
use Rattle.telling.specs.ToldText.{goings_text}
use Rattle.telling.proofs.writing.put_goings.Given as goal

-- the lines of the steps in front of this place are put
abbrev pub invariant-loop-at : goal.invariant-loop-at
invariant-loop-at g l =
    let sink = g.S.Sink in
    Puts (state (sink.held l.fn.out) (sink.faults l.fn.out) l.fn.flow) (state (sink.held l.out) (sink.faults l.out) l.flow)
    (goings_text l.path (take l.at l.goings))
