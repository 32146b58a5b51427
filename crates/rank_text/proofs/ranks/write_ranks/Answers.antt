use Rattle.std.proofs.Common.{◌∙◌, ap, Some}
use Rattle.tor_io.specs.Outflow.{state}
use Rattle.tor_io.proofs.Putting.{all_finished, puts_then}
use Rattle.rank_text.specs.RankText.{ranks_text}
use Rattle.rank_text.proofs.ranks.write_ranks.Goals as goal

pub returns : goal.returns
returns g c =
    let sink = g.S.Sink in
    let old = state (sink.held c.args.out.now) (sink.faults c.args.out.now) c.through-flow.result in
    let now = state (sink.held c.put_total.new.out) (sink.faults c.put_total.new.out) c.put_total.new.flow in
    let out = all_finished c.finish.result old now (sink.held c.finish.new.out) (sink.faults c.finish.new.out) (ranks_text c.args.lines.now c.args.ranks.now)
    (c.through-flow.ensures ∙ ap (λ xs. Some xs) c.requires) (puts_then c.put_ranks.ensures c.put_total.ensures) c.finish.ensures in
    record { all = out.0; prefix = out.1; cause = out.2 }
