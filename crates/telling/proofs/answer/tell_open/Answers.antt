use Rattle.telling.proofs.ReachLemmas.{not_peer, peering_so}
use Rattle.telling.proofs.answer.tell_open.Goals as goal

pub returns-in_default : goal.returns-in_default
returns-in_default c = (c.requires.line, peering_so c.args.file.now c.requires.accepted c.args.line c.requires.line.0 c.requires.is_open c.in_default.ensures)

pub walk_against-requires-clause-no_peering : goal.walk_against-requires-clause-no_peering
walk_against-requires-clause-no_peering c = not_peer c.args.line _ _ c.in-Some.ensures
