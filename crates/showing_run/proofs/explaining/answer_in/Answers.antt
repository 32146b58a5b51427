use Rattle.std.proofs.Common.{refl}
use Rattle.run_base.specs.declared.status.Status.TheVariants.{Done}
use Rattle.run_base.proofs.Endings.{stopped, wrote, writes_made}
use Rattle.showing_run.specs.Asking.{showing}
use Rattle.showing_run.specs.Whys.{its_result, tale_text, telling}
use Rattle.showing_run.proofs.explaining.answer_in.Goals as goal

pub returns-in-Ok : goal.returns-in-Ok
returns-in-Ok g c =
    let w = c.write_tale.ensures in
    let settings = c.args.settings.now in
    let tale = c.in-Ok.tale in
    wrote (showing telling) settings g.H.Shelf g.O.Sink its_result tale c.write_tale.result c.args.shelf.now c.told_in.new.shelf c.args.out.now c.write_tale.new.out c.in-Ok.ensures.asks
    (writes_made (showing telling) settings g.O.Sink (its_result tale) c.write_tale.result c.args.out.now c.write_tale.new.out (tale_text tale) Done
    (c.in-Ok.ensures.told, refl) refl refl w.status w.done w.cut_off w.nothing w.note w.leaves_out)
    (λ e. absurd cc, λ e. absurd cc, λ e. absurd cc)

pub returns-in-Err : goal.returns-in-Err
returns-in-Err g c =
    stopped (showing telling) c.args.settings.now g.H.Shelf g.O.Sink its_result c.in-Err.stop c.answer_of_stop.result c.args.shelf.now c.told_in.new.shelf c.args.out.now
    c.in-Err.ensures.asks c.answer_of_stop.ensures
