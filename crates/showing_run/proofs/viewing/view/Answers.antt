use Rattle.run_base.proofs.Completing.{kept}
use Rattle.showing_run.specs.Asking.{showing}
use Rattle.showing_run.specs.Views.{viewing}
use Rattle.showing_run.proofs.Comings.{one_outcome}
use Rattle.showing_run.proofs.Viewings.{not_both}
use Rattle.showing_run.proofs.viewing.view.Goals as goal

pub returns : goal.returns
returns g c =
    let n = c.note_answer in
    let a = c.answer-answer in
    kept (showing viewing) c.args.words.now g.H.Shelf g.O.Sink g.E.Sink a.result n.result c.args.shelf.now a.new.shelf c.args.out.now a.new.out c.args.err.now n.new.err
    (one_outcome viewing c.one_value.ensures not_both) a.ensures n.ensures.status n.ensures.noted n.ensures.later
