use Rattle.std.proofs.Common.{ap, refl, sym}
use Rattle.run_base.proofs.Endings.{stopped, wrote, writes_made}
use Rattle.result_file.specs.VerdictText.{verdict_text}
use Rattle.torcheck_run.specs.Checking.{checking, status_of}
use Rattle.torcheck_run.proofs.Judgements.{is_written, no_note}
use Rattle.torcheck_run.proofs.checking.answer_in.Goals as goal

pub returns-in-Ok : goal.returns-in-Ok
returns-in-Ok g c =
    let w = c.write_verdict.ensures in
    let settings = c.args.settings.now in
    let judged = c.in-Ok.judged in
    let verdict = c.verdict_in.result in
    wrote checking settings g.H.Shelf g.O.Sink (λ j. j) judged c.write_verdict.result c.args.shelf.now c.judged_of.new.shelf c.args.out.now c.write_verdict.new.out
    c.in-Ok.ensures
    (writes_made checking settings g.O.Sink judged c.write_verdict.result c.args.out.now c.write_verdict.new.out (verdict_text verdict) (status_of verdict)
    (ap verdict_text c.verdict_in.ensures, refl) (no_note verdict) (sym (ap status_of c.verdict_in.ensures)) w.status w.known w.cut_off w.nothing w.note w.leaves_out)
    (is_written judged)

pub returns-in-Err : goal.returns-in-Err
returns-in-Err g c =
    stopped checking c.args.settings.now g.H.Shelf g.O.Sink (λ j. j) c.in-Err.stop c.answer_of_stop.result c.args.shelf.now c.judged_of.new.shelf c.args.out.now
    c.in-Err.ensures c.answer_of_stop.ensures
