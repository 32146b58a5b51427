use Rattle.std.proofs.Common.{subst}
use Rattle.tor_numbers.specs.Slots.{IsApart}
use Rattle.tor_numbers.proofs.PlaceLemmas.{apart_by}
use Rattle.tor_numbers.proofs.place_table.PlaceTable.len.Goals as goal

pub returns-clause-apart : goal.returns-clause-apart
returns-clause-apart c = subst IsApart c.self.view_is (apart_by c.self.inside.numbers.keys c.len.ensures.unique)
