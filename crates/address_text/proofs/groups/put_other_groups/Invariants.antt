use Rattle.std.proofs.Common.{◌++◌, codes, flat_map, take}
use Rattle.std.specs.Net.Text.{hex}
use Rattle.tor_io.specs.Outflow.{state, Puts}
use Rattle.address_text.proofs.groups.put_other_groups.Given as goal

abbrev pub invariant-loop-group : goal.invariant-loop-group
invariant-loop-group g l =
    let sink = g.S.Sink in
    Puts (state (sink.held l.fn.out) (sink.faults l.fn.out) l.fn.flow) (state (sink.held l.out) (sink.faults l.out) l.flow)
    (flat_map (λ n. codes ":" ++ hex n) (take l.group-index l.groups))
