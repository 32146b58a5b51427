use Rattle.std.proofs.Common.{None}
use Rattle.tor_words.specs.declared.job.Job.TheVariants.{Sample}
use Rattle.tor_output.specs.Written.{written}
use Rattle.tor_output.proofs.AcceptingLemmas.{none_sound}
use Rattle.tor_output.proofs.Unwritings.{made_some, sample_made}
use Rattle.tor_output.proofs.asking.output_for.Goals as goal

pub returns-in-Ok-clause-output : goal.returns-in-Ok-clause-output
returns-in-Ok-clause-output g c =
    sample_made c.args.settings.now c.in-Sample.seed c.in-Sample.is (g.H.Shelf.files c.args.shelf.now) (written c.in-Ok.output) c.in-Ok.ensures.output

pub returns-in-Ok-clause-of_some : goal.returns-in-Ok-clause-of_some
returns-in-Ok-clause-of_some g c =
    made_some c.args.settings.now (Sample c.in-Sample.seed) c.in-Sample.is None (written c.in-Ok.output) tt none_sound c.in-Ok.ensures.output
