use Rattle.std.proofs.Common.{◌≡◌, ◌∙◌, List, ap, map, Some}
use Rattle.std.specs.List.{flat_map}
use Rattle.tor_io.specs.Outflow.{state}
use Rattle.tor_io.proofs.Putting.{all_finished, puts_as, puts_then}
use Rattle.as_rel.specs.declared.line.RelLine.{RelLine}
use Rattle.as_ranks.specs.Cycles.{inside_of}
use Rattle.rank_text.specs.RankText.{cycle_text, cycles_text, cycles_total}
use Rattle.rank_text.proofs.cycles.write_cycles.Goals as goal

pub returns : goal.returns
returns g c = λ rel is.
    let sink = g.S.Sink in
    let cycles = c.args.cycles.now in
    let old = state (sink.held c.args.out.now) (sink.faults c.args.out.now) c.through-flow.result in
    let now = state (sink.held c.put_total.new.out) (sink.faults c.put_total.new.out) c.put_total.new.flow in
    all_finished c.finish.result old now (sink.held c.finish.new.out) (sink.faults c.finish.new.out) (cycles_text rel cycles.ases)
    (c.through-flow.ensures ∙ ap (λ xs. Some xs) c.requires.empty)
    (puts_then (c.put_all.ensures rel is) (puts_as c.put_total.ensures (ap (cycles_total cycles.ases) is))) c.finish.ensures
