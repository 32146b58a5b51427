use Rattle.std.proofs.Common.{refl}
use Rattle.run_base.specs.declared.status.Status.TheVariants.{Done}
use Rattle.run_base.proofs.Endings.{stopped, wrote, writes_made}
use Rattle.showing_run.specs.Asking.{showing}
use Rattle.showing_run.specs.Views.{its_result, viewing}
use Rattle.showing_run.proofs.viewing.answer_in.Goals as goal

pub returns-in-Ok : goal.returns-in-Ok
returns-in-Ok g c =
    let w = c.write_picture.ensures in
    let settings = c.args.settings.now in
    let picture = c.in-Ok.picture in
    wrote (showing viewing) settings g.H.Shelf g.O.Sink its_result picture c.write_picture.result c.args.shelf.now c.seen_in.new.shelf c.args.out.now c.write_picture.new.out c.in-Ok.ensures.asks
    (writes_made (showing viewing) settings g.O.Sink (its_result picture) c.write_picture.result c.args.out.now c.write_picture.new.out picture.text Done
    (c.in-Ok.ensures.seen, refl) refl refl w.status w.done w.cut_off w.nothing w.note w.leaves_out)
    (λ e. absurd cc, λ e. absurd cc, λ e. absurd cc)

pub returns-in-Err : goal.returns-in-Err
returns-in-Err g c =
    stopped (showing viewing) c.args.settings.now g.H.Shelf g.O.Sink its_result c.in-Err.stop c.answer_of_stop.result c.args.shelf.now c.seen_in.new.shelf c.args.out.now
    c.in-Err.ensures.asks c.answer_of_stop.ensures
