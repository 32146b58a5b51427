use Rattle.std.proofs.Common.{◌≡◌, ◌++◌, ℕ, List, length}
use Rattle.tor_io.specs.Outflow.{state, Puts}
use Rattle.drawing.specs.Svg.{address}
use Rattle.drawing.proofs.printing.put_address.Given as goal

-- what was put so far, and the address of the rest
abbrev pub invariant-parts : goal.invariant-parts
invariant-parts g l =
    let sink = g.S.Sink in
    (put : List ℕ) × Puts (state (sink.held l.fn.out) (sink.faults l.fn.out) l.fn.flow) (state (sink.held l.out) (sink.faults l.out) l.flow) put
    × (put ++ address l.rest l.number ≡ address l.link l.number)

abbrev pub decreases-parts : goal.decreases-parts
decreases-parts g l = length l.rest
