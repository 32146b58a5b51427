use Rattle.tor_words.proofs.Bounds.{bounds}
use Rattle.tor_words.proofs.laws.bounds_law.Goals as goal

pub returns : goal.returns
returns c = bounds
