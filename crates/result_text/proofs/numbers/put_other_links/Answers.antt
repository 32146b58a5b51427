use Rattle.tor_io.proofs.Putting.{puts_then}
use Rattle.result_text.specs.Text.{link}
use Rattle.result_text.proofs.Puts.{one_other}
use Rattle.result_text.proofs.numbers.put_other_links.Goals as goal

pub loop-l-preserved : goal.loop-l-preserved
loop-l-preserved g c = one_other (link c.args.version) _ _ _ c.args.ls.now c.loop-l.l-index _ c.loop-l-test.true c.loop-l.invariant (puts_then c.put_byte.ensures c.put_link.ensures)
