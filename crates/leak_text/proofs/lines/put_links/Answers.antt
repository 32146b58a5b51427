use Rattle.tor_io.proofs.Putting.{puts_as, puts_then}
use Rattle.leak_text.proofs.LineLemmas.{first_and_others}
use Rattle.leak_text.specs.LeakText.{leak_link_text}
use Rattle.leak_text.proofs.lines.put_links.Goals as goal

pub returns-in-len1-up : goal.returns-in-len1-up
returns-in-len1-up g c =
    puts_as (puts_then c.put_link.ensures c.put_other_links.ensures) (first_and_others (leak_link_text c.args.own) c.args.links.now _ c.in-len1-up.len_at_least)
