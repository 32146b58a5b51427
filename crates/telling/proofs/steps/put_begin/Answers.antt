use Rattle.tor_io.proofs.Putting.{puts_as, puts_none}
use Rattle.telling.proofs.WalkTextLemmas.{begin_read, begin_few}
use Rattle.telling.proofs.steps.put_begin.Goals as goal

pub returns-in-len2-up : goal.returns-in-len2-up
returns-in-len2-up g c = puts_as c.put_pair.ensures (begin_read c.args.word.now c.args.ases.now c.in-len2-up.len_at_least)

pub returns-in_default : goal.returns-in_default
returns-in_default g c = puts_as (puts_none _) (begin_few c.args.word.now c.args.ases.now c.in_default.len_below)
