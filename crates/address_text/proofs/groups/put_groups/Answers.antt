use Rattle.tor_io.proofs.Putting.{puts_as, puts_then}
use Rattle.address_text.proofs.GroupLemmas.{first_group}
use Rattle.address_text.proofs.groups.put_groups.Goals as goal

pub returns-in-len1-up : goal.returns-in-len1-up
returns-in-len1-up g c = puts_as (puts_then c.put_group.ensures c.put_other_groups.ensures) (first_group c.args.groups.now _ c.in-len1-up.len_at_least)
