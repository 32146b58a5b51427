use Rattle.std.proofs.Common.{◌≡◌, ◌∙◌, refl, inl, inr, sym, ap, subst}
use Rattle.run_base.specs.Answers.{note_text}
use Rattle.run_base.specs.Notes.{plain_note}
use Rattle.run_base.specs.declared.answer.Answer.{Answer}
use Rattle.run_base.specs.declared.answer.Note.TheVariants as note
use Rattle.run_base.specs.declared.status.Status.TheVariants as status
use Rattle.tor_output.specs.declared.output.Output.{Output}
use Rattle.run_base.proofs.Endings.{stopped, wrote}
use Rattle.tor_output.specs.Inferring.{inferring}
use Rattle.tor_output.specs.Written.{written}
use Rattle.tor_output.proofs.Conclusions.{answers_stop, any_basis, basis_of, not_made, not_of_words, stop_of, was_made}
use Rattle.tor_output.specs.Sampling.{known_in}
use Rattle.tor_run.proofs.run.answer_in.Goals as goal

pub returns-in-Err : goal.returns-in-Err
returns-in-Err g c =
    let shelf = g.H.Shelf in
    let settings = c.args.settings.now in
    let old = c.args.shelf.now in
    let new = c.output_for.new.shelf in
    let u = c.in-Err.unwritten in
    let why = c.in-Err.ensures in
    stopped inferring settings shelf g.O.Sink any_basis (stop_of u) c.answer_to_unwritten.result old new c.args.out.now
    (not_made settings shelf u old new why.unwritten why.reach why.no_fault why.opens_stop why.sample why.reads_shelf)
    (answers_stop u c.answer_to_unwritten.result c.answer_to_unwritten.ensures (not_of_words settings (known_in settings (shelf.files old)) (shelf.steady old) u why.unwritten))

pub returns-in-Ok-write_to : goal.returns-in-Ok-write_to
returns-in-Ok-write_to g c =
    let shelf = g.H.Shelf in
    let settings = c.args.settings.now in
    let old = c.args.shelf.now in
    let output = c.in-Ok.output in
    let made = c.in-Ok.ensures in
    let put = c.in-Ok-write_to.ensures in
    let basis = basis_of settings (known_in settings (shelf.files old)) (written output) made.output made.of_some in
    let answer : Answer = record { status = status.Done; note = note.Octets c.in-Ok-write_to.note } in
    wrote inferring settings shelf g.O.Sink (λ (o : Output). basis.0) output answer old c.output_for.new.shelf c.args.out.now c.write_to.new.out
    (was_made settings shelf output basis.0 old c.output_for.new.shelf basis.1 made.opens made.read_out made.sample made.reads_shelf)
    (record {
      ends = inl refl;
      text = (written output).text;
      note = (written output).note;
      is_text = basis.2;
      done = λ is. (put.all, put.note);
      cut_off = λ is. absurd cc;
      nothing = λ is. absurd cc;
      leaves_out = record { later = put.cause.later; write_fault = λ is. absurd cc; no_lost_write = λ is. put.cause.quiet };
    })
    (λ is. absurd cc, λ is. absurd cc, λ is. absurd cc)

pub returns-in-Err-write_to : goal.returns-in-Err-write_to
returns-in-Err-write_to g c =
    let shelf = g.H.Shelf in
    let settings = c.args.settings.now in
    let old = c.args.shelf.now in
    let output = c.in-Ok.output in
    let made = c.in-Ok.ensures in
    let put = c.in-Err-write_to.ensures in
    let basis = basis_of settings (known_in settings (shelf.files old)) (written output) made.output made.of_some in
    let answer = c.plain.result in
    let fault = c.plain.ensures.status in
    wrote inferring settings shelf g.O.Sink (λ (o : Output). basis.0) output answer old c.output_for.new.shelf c.args.out.now c.write_to.new.out
    (was_made settings shelf output basis.0 old c.output_for.new.shelf basis.1 made.opens made.read_out made.sample made.reads_shelf)
    (record {
      ends = inr (inl fault);
      text = (written output).text;
      note = (written output).note;
      is_text = basis.2;
      done = λ is. let both : status.WriteFault ≡ status.Done = sym fault ∙ is in absurd cc;
      cut_off = λ is. (put.prefix, subst (λ n. note_text answer.status n ≡ plain_note status.WriteFault) (sym c.plain.ensures.note) (ap plain_note fault));
      nothing = λ is. let both : status.WriteFault ≡ status.NoMemory = sym fault ∙ is in absurd cc;
      leaves_out = record { later = put.cause.later; write_fault = λ is. put.cause.failed; no_lost_write = λ not. absurd (not fault) };
    })
    (λ is. absurd cc, λ is. absurd cc, λ is. absurd cc)
