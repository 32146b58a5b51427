use Rattle.std.proofs.Common.{◌≡◌, Some, MatchOption, subst}
use Rattle.std.specs.Prelude.{slice_get, Contains}
use Rattle.tor_numbers.proofs.PlaceLemmas.{found_at}
use Rattle.tor_numbers.proofs.place_table.PlaceTable.place.Goals as goal

pub returns : goal.returns
returns c =
    subst (λ numbers. MatchOption c.get_index_of.result (Contains numbers c.args.number → ⊥) (λ k. slice_get numbers k ≡ Some c.args.number)) c.self.view_is
    (found_at c.args.number c.self.inside.numbers.keys c.get_index_of.result c.get_index_of.ensures.index c.get_index_of.ensures.found)
