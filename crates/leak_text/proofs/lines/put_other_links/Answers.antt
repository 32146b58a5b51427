use Rattle.tor_io.proofs.Putting.{puts_then}
use Rattle.leak_text.proofs.LineLemmas.{one_behind}
use Rattle.leak_text.specs.LeakText.{leak_link_text}
use Rattle.leak_text.proofs.lines.put_other_links.Goals as goal

pub loop-link-preserved : goal.loop-link-preserved
loop-link-preserved g c =
    one_behind (leak_link_text c.args.own) _ _ _ c.args.links.now c.loop-link.link-index _ c.loop-link-test.true c.loop-link.invariant (puts_then c.put_byte.ensures c.put_link.ensures)
