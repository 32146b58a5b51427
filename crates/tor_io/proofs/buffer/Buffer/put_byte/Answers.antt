use Rattle.std.proofs.Common.{◌<◌, ◌++◌, ◌∷◌, [], length, refl, subst, ap, ◌∙◌, arith}
use Rattle.std.proofs.lemmas.List.{take_more_set}
use Rattle.tor_io.proofs.Passing.{only_waits}
use Rattle.tor_io.proofs.buffer.Buffer.put_byte.Goals as goal

pub returns-in-Some-clause-all : goal.returns-in-Some-clause-all
returns-in-Some-clause-all g c =
    let bytes = c.self.inside.bytes in
    let filled = c.self.inside.filled in
    let within : filled < length bytes.items = subst (λ n. filled < n) bytes.ok.0 (c.in-Some.ensures.variant.0 refl) in
    only_waits (g.S.Sink.held c.args.sink.now) _ (c.args.self.now ++ (c.args.byte ∷ []))
    (take_more_set bytes.items filled c.args.byte within ∙ ap (λ t. t ++ (c.args.byte ∷ [])) c.self.view_is)

pub returns-in-Some-clause-cause : goal.returns-in-Some-clause-cause
returns-in-Some-clause-cause g c = record { later = omega arith; failed = tt; quiet = refl }
