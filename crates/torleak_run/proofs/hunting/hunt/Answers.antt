use Rattle.run_base.proofs.Completing.{kept}
use Rattle.torleak_run.specs.Hunting.{hunting}
use Rattle.torleak_run.proofs.Comings.{one_outcome}
use Rattle.torleak_run.proofs.hunting.hunt.Goals as goal

pub returns : goal.returns
returns g c =
    let n = c.note_answer in
    let a = c.answer-answer in
    record {
      promises = kept hunting c.args.words.now g.H.Shelf g.O.Sink g.E.Sink a.result n.result c.args.shelf.now a.new.shelf c.args.out.now a.new.out c.args.err.now n.new.err
          (one_outcome c.one_value.ensures) a.ensures n.ensures.status n.ensures.noted n.ensures.later;
    }
