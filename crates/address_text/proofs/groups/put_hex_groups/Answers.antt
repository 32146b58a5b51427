use Rattle.tor_io.proofs.Putting.{puts_as, puts_then}
use Rattle.address_text.proofs.GroupLemmas.{plain_groups, short_groups}
use Rattle.address_text.proofs.groups.put_hex_groups.Goals as goal

pub returns-then-len-lt2 : goal.returns-then-len-lt2
returns-then-len-lt2 g c =
    let run = c.longest_zeros-start.result in
    puts_as c.put_groups.ensures (plain_groups c.args.groups.now run.0 run.1 c.longest_zeros-start.ensures.value c.if-len-lt2.true)

pub returns : goal.returns
returns g c =
    let run = c.longest_zeros-start.result in
    puts_as (puts_then c.put_groups-2.ensures (puts_then c.put.ensures c.put_groups-3.ensures))
    (short_groups c.args.groups.now run.0 run.1 c.longest_zeros-start.ensures.value c.if-len-lt2.false)
