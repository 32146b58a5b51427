use Rattle.std.proofs.Common.{sym, ap, arith}
use Rattle.std.specs.Prelude.{flat_map}
use Rattle.std.proofs.lemmas.List.{take_all}
use Rattle.tor_io.proofs.Putting.{puts_as, puts_then}
use Rattle.drawing.specs.Svg.{link_nodes}
use Rattle.drawing.specs.Xml.{nodes_text}
use Rattle.drawing.proofs.WellFormed.{more_text}
use Rattle.drawing.proofs.printing.put_links.Goals as goal

pub loop-link-preserved : goal.loop-link-preserved
loop-link-preserved g c =
    puts_as (puts_then c.loop-link.invariant c.put_link.ensures) (sym (more_text link_nodes c.args.links.now c.loop-link.link-index _ c.loop-link-test.true))

pub returns : goal.returns
returns g c =
    puts_as c.loop-link.invariant
    (ap (λ xs. nodes_text (flat_map link_nodes xs)) (take_all c.loop-link.link-index c.args.links.now (omega (arith, c.loop-link-test.false))))
