use Rattle.std.proofs.Common.{◌∙◌, ap, Some}
use Rattle.std.specs.Prelude.{codes}
use Rattle.std.specs.List.{flat_map}
use Rattle.tor_io.specs.Outflow.{state}
use Rattle.tor_io.proofs.Putting.{all_finished, puts_as, puts_then}
use Rattle.neighbour_text.specs.NeighbourText.{neighbour_line, neighbourhood_text}
use Rattle.neighbour_text.proofs.writing.write_neighbourhood.Goals as goal

pub returns : goal.returns
returns g c =
    let sink = g.S.Sink in
    let old = state (sink.held c.args.out.now) (sink.faults c.args.out.now) c.through-flow.result in
    let now = state (sink.held c.put_total.new.out) (sink.faults c.put_total.new.out) c.put_total.new.flow in
    let providers = puts_as c.put_neighbours.ensures (ap (flat_map (neighbour_line (codes "provider"))) c.as_slice.ensures) in
    let peers = puts_as c.put_neighbours-2.ensures (ap (flat_map (neighbour_line (codes "peer"))) c.as_slice-2.ensures) in
    let customers = puts_as c.put_neighbours-3.ensures (ap (flat_map (neighbour_line (codes "customer"))) c.as_slice-3.ensures) in
    let out = all_finished c.finish.result old now (sink.held c.finish.new.out) (sink.faults c.finish.new.out) (neighbourhood_text c.args.of.now)
    (c.through-flow.ensures ∙ ap (λ xs. Some xs) c.requires) (puts_then providers (puts_then peers (puts_then customers c.put_total.ensures))) c.finish.ensures in
    record { all = out.0; prefix = out.1; cause = out.2 }
