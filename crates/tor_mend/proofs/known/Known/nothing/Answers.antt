use Rattle.std.proofs.Common.{sym, ap, ◌∙◌}
use Rattle.std.specs.Prelude.{slice_get}
use Rattle.tor_mend.proofs.known.Known.nothing.Goals as goal

pub returns : goal.returns
returns c = λ arcs first x i at. absurd (let bad = sym at ∙ ap (λ l. slice_get l x) c.new.ensures in cc)
