use Rattle.std.proofs.lemmas.Result.{IfOk-weaker}
use Rattle.showing_run.specs.Views.{its_result, viewing}
use Rattle.showing_run.proofs.Showings.{answered_asks, unmet_asks}
use Rattle.showing_run.proofs.picture.seen_in.Goals as goal

pub returns-in-Ok-clause-asks : goal.returns-in-Ok-clause-asks
returns-in-Ok-clause-asks g c =
    let e = c.in-Ok.ensures in
    let of = c.seen_of.ensures in
    answered_asks viewing c.args.settings.now g.H.Shelf its_result c.args.shelf.now c.result_met.new.shelf c.as_text.result.now c.seen_of.result c.in-Ok.file c.as_text.ensures e.met e.read_out e.opens
    e.reads_shelf of.same (IfOk-weaker c.seen_of.result _ _ (λ t is. (t.text, is)) of.seen) of.unseen

pub returns-in-Err-clause-asks : goal.returns-in-Err-clause-asks
returns-in-Err-clause-asks g c =
    let e = c.in-Err.ensures in
    unmet_asks viewing c.args.settings.now g.H.Shelf its_result c.args.shelf.now c.result_met.new.shelf c.as_text.result.now c.in-Err.stop c.as_text.ensures e.unmet e.reach e.opens e.reads_shelf
