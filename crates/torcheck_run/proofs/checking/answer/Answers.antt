use Rattle.run_base.proofs.Endings.{refused_words}
use Rattle.torcheck_run.specs.Checking.{checking}
use Rattle.torcheck_run.proofs.checking.answer.Goals as goal

pub returns-in-Err : goal.returns-in-Err
returns-in-Err g c =
    refused_words checking c.args.words.now g.H.Shelf g.O.Sink c.in-Err.refused c.answer_of_words.result c.args.shelf.now c.args.out.now
    c.in-Err.ensures.refused c.in-Err.ensures.text c.answer_of_words.ensures
