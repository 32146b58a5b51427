use Rattle.std.proofs.Common.{◌≡◌, ◌++◌, length, map, refl, sym, take, ap, ◌∙◌, arith}
use Rattle.std.specs.Prelude.{decimal}
use Rattle.std.specs.List.{join_with_byte}
use Rattle.tor_io.proofs.Known.{written_back}
use Rattle.tor_io.proofs.Passing.{only_waits}
use Rattle.tor_io.proofs.buffer.Buffer.put_joined.Goals as goal

pub returns-clause-all : goal.returns-clause-all
returns-clause-all g c =
    let old = c.self.inside.bytes.items in
    let wrote = c.write_joined-self-inside in
    let new = wrote.new.bytes in
    let value = c.deref_mut.ensures.value in
    let text = join_with_byte c.args.byte (map decimal c.args.numbers.now) in
    let many : length new ≡ length old = wrote.ensures.length ∙ ap length value in
    only_waits (g.S.Sink.held c.args.sink.now) _ (c.args.self.now ++ text)
    (written_back wrote.result c.self.inside.bytes.len new old (many ∙ sym c.self.inside.bytes.ok.0) ∙ wrote.ensures.digits
    ∙ ap (λ t. take c.self.inside.filled t ++ text) value ∙ ap (λ t. t ++ text) c.self.view_is)

pub returns-clause-cause : goal.returns-clause-cause
returns-clause-cause g c = record { later = omega arith; failed = tt; quiet = refl }
