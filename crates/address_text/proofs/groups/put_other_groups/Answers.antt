use Rattle.tor_io.proofs.Putting.{puts_then}
use Rattle.address_text.proofs.GroupLemmas.{one_group}
use Rattle.address_text.proofs.groups.put_other_groups.Goals as goal

pub loop-group-preserved : goal.loop-group-preserved
loop-group-preserved g c =
    one_group _ _ _ c.args.groups.now c.loop-group.group-index _ c.loop-group-test.true c.loop-group.invariant (puts_then c.put_byte.ensures c.put_group.ensures)
