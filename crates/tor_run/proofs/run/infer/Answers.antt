use Rattle.std.proofs.Common.{◌∙◌, sym}
use Rattle.std.proofs.lemmas.Option.{IfSome_then}
use Rattle.run_base.specs.Answers.{note_in}
use Rattle.run_base.proofs.Completing.{kept}
use Rattle.tor_output.specs.Inferring.{inferring}
use Rattle.tor_output.specs.Sampling.{known_by}
use Rattle.tor_output.proofs.Comings.{one_ending}
use Rattle.tor_output.proofs.Gains.{gains}
use Rattle.tor_output.proofs.GradingLemmas.{gains_grading}
use Rattle.tor_output.proofs.Resumings.{gains_resumed}
use Rattle.tor_run.proofs.run.infer.Goals as goal

pub returns-clause-promises : goal.returns-clause-promises
returns-clause-promises g c =
    let n = c.note_answer in
    let a = c.answer-answer in
    kept inferring c.args.words.now g.H.Shelf g.O.Sink g.E.Sink a.result n.result c.args.shelf.now a.new.shelf c.args.out.now a.new.out c.args.err.now n.new.err
    (one_ending c.one_value.ensures) a.ensures n.ensures.status n.ensures.noted n.ensures.later

pub returns-clause-graded : goal.returns-clause-graded
returns-clause-graded g c = λ is asks.
    let out = g.O.Sink.held in
    let words = c.args.words.now in
    let a = c.answer-answer in
    let note = note_in a.result in
    IfSome_then (known_by words (g.H.Shelf.files c.args.shelf.now))
    (gains words g.H.Shelf g.O.Sink a.result.status note c.args.shelf.now a.new.shelf c.args.out.now a.new.out a.ensures (sym c.note_answer.ensures.status ∙ is))
    (λ files gained. gains_grading words files (out c.args.out.now) (out a.new.out) note asks gained)

pub returns-clause-resumed : goal.returns-clause-resumed
returns-clause-resumed g c = λ is asks.
    let out = g.O.Sink.held in
    let words = c.args.words.now in
    let a = c.answer-answer in
    let note = note_in a.result in
    IfSome_then (known_by words (g.H.Shelf.files c.args.shelf.now))
    (gains words g.H.Shelf g.O.Sink a.result.status note c.args.shelf.now a.new.shelf c.args.out.now a.new.out a.ensures (sym c.note_answer.ensures.status ∙ is))
    (λ files gained. gains_resumed c.bounds_law.ensures words files (out c.args.out.now) (out a.new.out) note asks gained)
