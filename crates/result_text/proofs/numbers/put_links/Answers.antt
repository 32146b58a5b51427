use Rattle.tor_io.proofs.Putting.{puts_as, puts_then}
use Rattle.result_text.specs.Text.{link}
use Rattle.result_text.proofs.Puts.{all_members}
use Rattle.result_text.proofs.numbers.put_links.Goals as goal

pub returns-in-len1-up : goal.returns-in-len1-up
returns-in-len1-up g c = puts_as (puts_then c.put_link.ensures c.put_other_links.ensures) (all_members (link c.args.version) c.args.ls.now _ c.in-len1-up.len_at_least)
