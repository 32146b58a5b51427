use Rattle.std.proofs.Common.{◌↔◌, ◌≤◌, [], length, get_or}
use Rattle.peering.specs.Chains.{chain}
use Rattle.peering.specs.Peerings.{NoPeers}
use Rattle.peering.proofs.partners.Partners.are_no_peers.Given as goal

abbrev pub invariant-loop-at : goal.invariant-loop-at
invariant-loop-at l = record {
  within : l.at ≤ length l.self-inside.links.items;
  same : NoPeers l.labels (chain l.self-inside.links.items l.at) ↔ NoPeers l.labels (get_or l.self l.fn.edge []);
}

abbrev pub decreases-loop-at : goal.decreases-loop-at
decreases-loop-at l = l.at
