use Rattle.std.proofs.Common.{sym, ap, arith}
use Rattle.std.specs.Prelude.{flat_map}
use Rattle.std.proofs.lemmas.List.{take_all}
use Rattle.tor_io.proofs.Putting.{puts_as, puts_then}
use Rattle.drawing.specs.Svg.{band_nodes}
use Rattle.drawing.specs.Xml.{nodes_text}
use Rattle.drawing.proofs.WellFormed.{more_text}
use Rattle.drawing.proofs.printing.put_bands.Goals as goal

pub loop-band-preserved : goal.loop-band-preserved
loop-band-preserved g c =
    puts_as (puts_then c.loop-band.invariant c.put_band.ensures) (sym (more_text band_nodes c.args.bands.now c.loop-band.band-index _ c.loop-band-test.true))

pub returns : goal.returns
returns g c =
    puts_as c.loop-band.invariant
    (ap (λ xs. nodes_text (flat_map band_nodes xs)) (take_all c.loop-band.band-index c.args.bands.now (omega (arith, c.loop-band-test.false))))
