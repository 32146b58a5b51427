use Rattle.std.proofs.Common.{take}
use Rattle.std.specs.List.{flat_map}
use Rattle.tor_io.specs.Outflow.{state}
use Rattle.telling.specs.PathText.{PutsNaming}
use Rattle.telling.specs.ToldText.{further_text, names_at}
use Rattle.telling.proofs.writing.put_other_whys.Given as goal

-- the why lines in front of this one are put
abbrev pub invariant-loop-why : goal.invariant-loop-why
invariant-loop-why g l =
    let sink = g.S.Sink in
    let whys = take l.why-index l.whys in
    PutsNaming (state (sink.held l.fn.out) (sink.faults l.fn.out) l.fn.flow) (state (sink.held l.out) (sink.faults l.out) l.flow) l.fn.named l.named
    (λ before. further_text l.file before whys) (flat_map (names_at l.file) whys)
