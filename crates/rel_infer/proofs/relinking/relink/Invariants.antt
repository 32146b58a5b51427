use Rattle.std.proofs.Common.{◌≡◌, map, take}
use Rattle.relationships.specs.GivenEvidence.{given_link}
use Rattle.rel_infer.proofs.relinking.relink.Given as goal

abbrev pub invariant-loop-link : goal.invariant-loop-link
invariant-loop-link l = l.list ≡ map (given_link l.paths l.numbers) (take l.link-index l.links)
