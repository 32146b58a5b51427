use Rattle.drawing.specs.Neighbours.{near_numbers}
use Rattle.drawing.proofs.Towering.{IsRaised}
use Rattle.drawing.proofs.tower.tower_of.Given as goal

abbrev pub invariant-loop : goal.invariant-loop
invariant-loop l =
    let groups = l.groups in
    IsRaised l.edges l.most groups.providers.items
    (near_numbers l.asked groups.providers.items groups.peers.items groups.customers.items) l.counter l.tower
