use Rattle.std.proofs.Common.{refl}
use Rattle.run_base.specs.declared.status.Status.TheVariants.{Done}
use Rattle.run_base.proofs.Endings.{stopped, wrote, writes_made}
use Rattle.leak_text.specs.LeakText.{leaks_text}
use Rattle.torleak_run.specs.Hunting.{Basis, hunting}
use Rattle.torleak_run.proofs.hunting.answer_in.Goals as goal

pub returns-in-Ok : goal.returns-in-Ok
returns-in-Ok g c =
    let w = c.write_hunted.ensures in
    let settings = c.args.settings.now in
    let leaks = c.in-Ok.leaks in
    let (basis, asks, found) = c.in-Ok.ensures in
    wrote hunting settings g.H.Shelf g.O.Sink (λ (made : Basis). made) basis c.write_hunted.result c.args.shelf.now c.hunted_of.new.shelf c.args.out.now c.write_hunted.new.out asks
    (writes_made hunting settings g.O.Sink basis c.write_hunted.result c.args.out.now c.write_hunted.new.out (leaks_text leaks) Done
    (leaks, found, refl, refl) refl refl w.status w.done w.cut_off w.nothing w.note w.leaves_out)
    (λ e. absurd cc, λ e. absurd cc, λ e. absurd cc)

pub returns-in-Err : goal.returns-in-Err
returns-in-Err g c =
    stopped hunting c.args.settings.now g.H.Shelf g.O.Sink (λ (made : Basis). made) c.in-Err.stop c.answer_of_stop.result c.args.shelf.now c.hunted_of.new.shelf c.args.out.now
    c.in-Err.ensures c.answer_of_stop.ensures
