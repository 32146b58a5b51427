use Rattle.std.proofs.Common.{sym, subst}
use Rattle.std.specs.Prelude.{OnErr}
use Rattle.tor_io.specs.Contents.{GainsPrefix}
use Rattle.tor_output.specs.declared.output.Output.{Output}
use Rattle.tor_output.specs.Written.{written}
use Rattle.tor_output.proofs.output.Output.write_to.Goals as goal

pub returns-in-Result-clause-prefix : goal.returns-in-Result-clause-prefix
returns-in-Result-clause-prefix g c =
    let held = g.O.Sink.held in
    subst (λ (o : Output). OnErr c.put_result.result (GainsPrefix (held c.args.out.now) (held c.put_result.new.out) (written o).text)) (sym c.in-Result.is) c.put_result.ensures.prefix

pub returns-in-Paths-clause-prefix : goal.returns-in-Paths-clause-prefix
returns-in-Paths-clause-prefix g c =
    let held = g.O.Sink.held in
    subst (λ (o : Output). OnErr c.put_paths.result (GainsPrefix (held c.args.out.now) (held c.put_paths.new.out) (written o).text)) (sym c.in-Paths.is) c.put_paths.ensures.prefix
