use Rattle.run_base.proofs.Endings.{stopped}
use Rattle.torrank_run.specs.Ranking.{ranking, known_rel}
use Rattle.torrank_run.proofs.Writings.{ended}
use Rattle.torrank_run.proofs.ranking.answer_in.Goals as goal

pub returns-in-Ok : goal.returns-in-Ok
returns-in-Ok g c =
    let settings = c.args.settings.now in
    ended settings g.H.Shelf g.O.Sink c.in-Ok.ranked c.write_ranked.result c.args.shelf.now c.ranked_of.new.shelf c.args.out.now c.write_ranked.new.out
    c.in-Ok.ensures.asks (c.write_ranked.ensures settings.task c.in-Ok.ensures.found)

pub returns-in-Err : goal.returns-in-Err
returns-in-Err g c =
    stopped ranking c.args.settings.now g.H.Shelf g.O.Sink known_rel c.in-Err.stop c.answer_of_stop.result c.args.shelf.now c.ranked_of.new.shelf c.args.out.now
    c.in-Err.ensures.asks c.answer_of_stop.ensures
