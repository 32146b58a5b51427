use Rattle.std.proofs.Common.{take}
use Rattle.tor_io.specs.Outflow.{state}
use Rattle.relationships.specs.Telling.{steps_of}
use Rattle.telling.specs.PathText.{PutsNaming}
use Rattle.telling.specs.WalkText.{names_of, steps_text}
use Rattle.telling.proofs.steps.put_steps.Given as goal

-- the lines of the steps in front of this place are put
abbrev pub invariant-loop-at : goal.invariant-loop-at
invariant-loop-at g l =
    let sink = g.S.Sink in
    let steps = take l.at (steps_of l.ases l.links) in
    PutsNaming (state (sink.held l.fn.out) (sink.faults l.fn.out) l.fn.flow) (state (sink.held l.out) (sink.faults l.out) l.flow) l.fn.named l.named
    (λ before. steps_text l.file before steps) (names_of steps)
