use Rattle.std.proofs.Common.{Ok, Err}
use Rattle.as_ranks.proofs.NetLemmas.{found-there}
use Rattle.as_ranks.proofs.net.place_of.Goals as goal

pub unreachable-requires : goal.unreachable-requires
unreachable-requires c = found-there c.args.ases.now c.args.number (Err c.in-Err.field-0) c.requires.rising c.requires.there c.in-Err.ensures.position

pub returns : goal.returns
returns c = found-there c.args.ases.now c.args.number (Ok c.in-Ok.place) c.requires.rising c.requires.there c.in-Ok.ensures.position
