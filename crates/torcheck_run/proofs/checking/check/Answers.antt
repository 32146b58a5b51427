use Rattle.run_base.proofs.Completing.{kept}
use Rattle.torcheck_run.specs.Checking.{checking}
use Rattle.torcheck_run.proofs.Comings.{one_outcome}
use Rattle.torcheck_run.proofs.checking.check.Goals as goal

pub returns-clause-promises : goal.returns-clause-promises
returns-clause-promises g c =
    let n = c.note_answer in
    let a = c.answer-answer in
    kept checking c.args.words.now g.H.Shelf g.O.Sink g.E.Sink a.result n.result c.args.shelf.now a.new.shelf c.args.out.now a.new.out c.args.err.now n.new.err
    (one_outcome c.one_value.ensures) a.ensures n.ensures.status n.ensures.noted n.ensures.later
