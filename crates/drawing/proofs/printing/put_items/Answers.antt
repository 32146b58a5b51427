use Rattle.std.proofs.Common.{sym, ap, arith}
use Rattle.std.specs.Prelude.{flat_map}
use Rattle.std.proofs.lemmas.List.{take_all}
use Rattle.tor_io.proofs.Putting.{puts_as, puts_then}
use Rattle.drawing.specs.Svg.{item_nodes}
use Rattle.drawing.specs.Xml.{nodes_text}
use Rattle.drawing.proofs.WellFormed.{more_text}
use Rattle.drawing.proofs.printing.put_items.Goals as goal

pub loop-item-preserved : goal.loop-item-preserved
loop-item-preserved g c =
    puts_as (puts_then c.loop-item.invariant c.put_item.ensures) (sym (more_text (item_nodes c.args.link.now) c.args.items.now c.loop-item.item-index _ c.loop-item-test.true))

pub returns : goal.returns
returns g c =
    puts_as c.loop-item.invariant
    (ap (λ xs. nodes_text (flat_map (item_nodes c.args.link.now) xs)) (take_all c.loop-item.item-index c.args.items.now (omega (arith, c.loop-item-test.false))))
