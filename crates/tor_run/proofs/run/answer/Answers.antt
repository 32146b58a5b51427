use Rattle.run_base.proofs.Endings.{refused_words}
use Rattle.tor_output.specs.Inferring.{inferring}
use Rattle.tor_run.proofs.run.answer.Goals as goal

pub returns-in-Err : goal.returns-in-Err
returns-in-Err g c =
    refused_words inferring c.args.words.now g.H.Shelf g.O.Sink c.in-Err.refused c.answer_of_words.result c.args.shelf.now c.args.out.now
    c.in-Err.ensures.refused c.in-Err.ensures.text c.answer_of_words.ensures
