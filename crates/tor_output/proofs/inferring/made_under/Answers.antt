use Rattle.tor_output.proofs.Openings.{memory_opens}
use Rattle.tor_output.proofs.inferring.made_under.Goals as goal

pub returns-in-Err-made_of-clause-opens_stop : goal.returns-in-Err-made_of-clause-opens_stop
returns-in-Err-made_of-clause-opens_stop g c =
    let opens = g.H.Shelf.opens in
    memory_opens c.args.dumps.now (opens c.args.shelf.now) (opens c.dumps_taken.new.shelf) c.in-Ok.ensures.opens
