use Rattle.std.proofs.Common.{◌≡◌, ◌++◌, length, sym, ap, ◌∙◌, subst}
use Rattle.std.specs.Prelude.{OnOk}
use Rattle.tor_io.specs.Contents.{PassesOn}
use Rattle.tor_io.specs.Counts.{HasCause}
use Rattle.tor_io.proofs.Known.{written_back}
use Rattle.tor_io.proofs.Passing.{both_written, longer, stopped_behind}
use Rattle.tor_io.proofs.buffer.Buffer.put_at_last.Goals as goal

pub returns-in-Err-clause-prefix : goal.returns-in-Err-clause-prefix
returns-in-Err-clause-prefix g c =
    let held = g.S.Sink.held in
    longer (held c.args.sink.now) (held c.flush.new.sink) c.args.self.now c.args.piece.now c.in-Err.ensures.prefix

pub returns-in-Err-clause-cause : goal.returns-in-Err-clause-cause
returns-in-Err-clause-cause g c = c.in-Err.ensures.cause

pub returns-then-piece-len-clause-all : goal.returns-then-piece-len-clause-all
returns-then-piece-len-clause-all g c =
    let held = g.S.Sink.held in
    subst (λ w. OnOk c.write_all.result (PassesOn (held c.args.sink.now) (held c.write_all.new.sink) w (c.args.self.now ++ c.args.piece.now))) (sym c.in_default.ensures.empty)
    (both_written c.write_all.result (held c.args.sink.now) (held c.flush.new.sink) (held c.write_all.new.sink) c.args.self.now c.args.piece.now
    c.in_default.ensures.all c.write_all.ensures.all)

pub returns-then-piece-len-clause-prefix : goal.returns-then-piece-len-clause-prefix
returns-then-piece-len-clause-prefix g c =
    let held = g.S.Sink.held in
    stopped_behind c.write_all.result (held c.args.sink.now) (held c.flush.new.sink) (held c.write_all.new.sink) c.args.self.now c.args.piece.now
    c.in_default.ensures.all c.write_all.ensures.prefix

pub returns-then-piece-len-clause-cause : goal.returns-then-piece-len-clause-cause
returns-then-piece-len-clause-cause g c =
    subst (λ n. HasCause n (g.S.Sink.faults c.write_all.new.sink) c.write_all.result) c.in_default.ensures.cause.quiet c.write_all.ensures.cause

pub returns-clause-all : goal.returns-clause-all
returns-clause-all g c =
    let old = c.self.inside.bytes.items in
    let new = c.copy_behind-self-inside.new.bytes in
    let many : length new ≡ length old = c.copy_behind-self-inside.ensures.length ∙ ap length c.deref_mut.ensures.value in (
      c.args.self.now,
      c.in_default.ensures.all,
      ap (λ t. c.args.self.now ++ t)
          (written_back c.copy_behind-self-inside.result c.self.inside.bytes.len new old (many ∙ sym c.self.inside.bytes.ok.0) ∙ c.copy_behind-self-inside.ensures.added),
    )

pub returns-clause-cause : goal.returns-clause-cause
returns-clause-cause g c = c.in_default.ensures.cause
