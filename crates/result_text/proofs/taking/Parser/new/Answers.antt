use Rattle.std.proofs.Common.{refl}
use Rattle.result_text.proofs.Pieces.{starts_at}
use Rattle.result_text.proofs.taking.Parser.new.Goals as goal

pub returns : goal.returns
returns c = rw (c.new.ensures, c.new-3.ensures) (starts_at, refl)
