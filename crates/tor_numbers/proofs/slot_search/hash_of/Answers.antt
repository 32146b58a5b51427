use Rattle.std.proofs.Common.{refl}
use Rattle.tor_numbers.specs.Slots.{hashed}
use Rattle.tor_numbers.proofs.slot_search.hash_of.Goals as goal

pub returns : goal.returns
unfolding hashed
returns c = refl
