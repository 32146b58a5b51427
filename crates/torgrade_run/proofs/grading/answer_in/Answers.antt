use Rattle.std.proofs.Common.{refl}
use Rattle.run_base.specs.declared.status.Status.TheVariants.{Done}
use Rattle.run_base.proofs.Endings.{stopped, wrote, writes_made}
use Rattle.torgrade_run.specs.Grading.{basis_of, grading, text_of}
use Rattle.torgrade_run.proofs.grading.answer_in.Goals as goal

pub returns-in-Ok : goal.returns-in-Ok
returns-in-Ok g c =
    let w = c.write_graded.ensures in
    let settings = c.args.settings.now in
    let graded = c.in-Ok.graded in
    wrote grading settings g.H.Shelf g.O.Sink basis_of graded c.write_graded.result c.args.shelf.now c.graded_of.new.shelf c.args.out.now c.write_graded.new.out
    c.in-Ok.ensures.asks
    (writes_made grading settings g.O.Sink (basis_of graded) c.write_graded.result c.args.out.now c.write_graded.new.out (text_of graded) Done
    (graded.known.cone, c.in-Ok.ensures.cone, refl, refl) refl refl w.status w.done w.cut_off w.nothing w.note w.leaves_out)
    (λ e. absurd cc, λ e. absurd cc, λ e. absurd cc)

pub returns-in-Err : goal.returns-in-Err
returns-in-Err g c =
    stopped grading c.args.settings.now g.H.Shelf g.O.Sink basis_of c.in-Err.stop c.answer_of_stop.result c.args.shelf.now c.graded_of.new.shelf c.args.out.now
    c.in-Err.ensures.asks c.answer_of_stop.ensures
