use Rattle.std.proofs.Common.{◌≡◌, ◌++◌, length, refl, sym, take, ap, ◌∙◌, arith}
use Rattle.tor_io.proofs.Known.{written_back}
use Rattle.tor_io.proofs.Passing.{only_waits}
use Rattle.tor_io.proofs.buffer.Buffer.put.Goals as goal

pub returns-then-piece-len-clause-all : goal.returns-then-piece-len-clause-all
returns-then-piece-len-clause-all g c = c.put_at_last.ensures.all

pub returns-then-piece-len-clause-prefix : goal.returns-then-piece-len-clause-prefix
returns-then-piece-len-clause-prefix g c = c.put_at_last.ensures.prefix

pub returns-then-piece-len-clause-cause : goal.returns-then-piece-len-clause-cause
returns-then-piece-len-clause-cause g c = c.put_at_last.ensures.cause

pub returns-clause-all : goal.returns-clause-all
returns-clause-all g c =
    let old = c.self.inside.bytes.items in
    let new = c.copy_behind-self-inside.new.bytes in
    let value = c.deref_mut.ensures.value in
    let many : length new ≡ length old = c.copy_behind-self-inside.ensures.length ∙ ap length value in
    only_waits (g.S.Sink.held c.args.sink.now) _ (c.args.self.now ++ c.args.piece.now)
    (written_back c.copy_behind-self-inside.result c.self.inside.bytes.len new old (many ∙ sym c.self.inside.bytes.ok.0) ∙ c.copy_behind-self-inside.ensures.added
    ∙ ap (λ t. take c.self.inside.filled t ++ c.args.piece.now) value ∙ ap (λ t. t ++ c.args.piece.now) c.self.view_is)

pub returns-clause-cause : goal.returns-clause-cause
returns-clause-cause g c = record { later = omega arith; failed = tt; quiet = refl }
