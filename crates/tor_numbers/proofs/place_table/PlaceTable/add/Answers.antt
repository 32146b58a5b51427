use Rattle.std.proofs.Common.{subst}
use Rattle.tor_numbers.specs.Places.{GoesLastIfNew}
use Rattle.tor_numbers.proofs.PlaceLemmas.{goes_last}
use Rattle.tor_numbers.proofs.place_table.PlaceTable.add.Goals as goal

pub returns-clause-ok : goal.returns-clause-ok
returns-clause-ok c =
    subst (λ old. GoesLastIfNew c.args.number old c.insert_full.new.self.keys) c.self.view_is
    (goes_last c.args.number c.self.inside.numbers.keys c.insert_full.new.self.keys c.in_ok-place.ensures.keys)
