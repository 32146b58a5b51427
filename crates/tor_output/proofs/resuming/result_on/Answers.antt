use Rattle.tor_output.proofs.Resumings.{result_on_is}
use Rattle.tor_output.proofs.resuming.result_on.Goals as goal

pub returns-in-Ok : goal.returns-in-Ok
returns-in-Ok c =
    result_on_is c.args.settings.now.top c.args.settings.now.ratio c.args.earlier c.in-Ok.rest c.args.paths c.args.counts c.result_resumed.result c.in-Ok.ensures.known
    c.result_resumed.ensures.result c.result_resumed.ensures.continues
