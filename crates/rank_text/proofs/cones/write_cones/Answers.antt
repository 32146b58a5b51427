use Rattle.std.proofs.Common.{◌∙◌, List, ap, refl, Some}
use Rattle.tor_io.specs.Outflow.{state}
use Rattle.tor_io.proofs.Putting.{all_finished}
use Rattle.as_rel.specs.declared.line.RelLine.{RelLine}
use Rattle.as_ranks.specs.Named.{IsNetOf}
use Rattle.rank_text.specs.RankText.{cones_text}
use Rattle.rank_text.proofs.cones.write_cones.Goals as goal

pub returns : goal.returns
returns g c = λ rel is.
    let sink = g.S.Sink in
    let old = state (sink.held c.args.out.now) (sink.faults c.args.out.now) c.through-flow.result in
    let now = state (sink.held c.put_all.new.out) (sink.faults c.put_all.new.out) c.put_all.new.flow in
    let all = c.put_all.ensures rel is in
    let out = all_finished c.finish.result old now (sink.held c.finish.new.out) (sink.faults c.finish.new.out) (cones_text all.0)
    (c.through-flow.ensures ∙ ap (λ xs. Some xs) c.requires) all.2 c.finish.ensures in
    (cones_text all.0, (all.0, all.1, refl), out.0, out.1, out.2)
