use Rattle.run_base.specs.Answers.{note_in}
use Rattle.std.proofs.Common.{◌≡◌, refl}
use Rattle.run_base.proofs.Prefixes.{noted}
use Rattle.run_base.proofs.answer.note_answer.Goals as goal

pub returns-clause-noted : goal.returns-clause-noted
returns-clause-noted g c =
    let err = g.E.Sink in
    noted (λ n. n ≡ note_in c.args.answer) c.write_all.result (err.faults c.args.err.now) (err.faults c.write_all.new.sink) (err.held c.args.err.now) (err.held c.write_all.new.sink)
    c.note.result.now (note_in c.args.answer) refl c.note.ensures c.write_all.ensures.cause c.write_all.ensures.all c.write_all.ensures.prefix
