use Rattle.std.proofs.Common.{inr}
use Rattle.run_base.proofs.Endings.{refused_words}
use Rattle.torleak_run.specs.Hunting.{hunting}
use Rattle.torleak_run.proofs.hunting.answer.Goals as goal

pub returns-in-Ok : goal.returns-in-Ok
returns-in-Ok g c = inr (c.in-Ok.settings, c.in-Ok.ensures.given, c.answer_in.ensures)

pub returns-in-Err : goal.returns-in-Err
returns-in-Err g c =
    refused_words hunting c.args.words.now g.H.Shelf g.O.Sink c.in-Err.refused c.answer_of_words.result c.args.shelf.now c.args.out.now
    c.in-Err.ensures.refused c.in-Err.ensures.text c.answer_of_words.ensures
