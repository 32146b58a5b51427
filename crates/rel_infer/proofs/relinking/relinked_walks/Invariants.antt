use Rattle.std.proofs.Common.{◌≡◌, map, take}
use Rattle.relationships.specs.GivenEvidence.{with_given_links}
use Rattle.rel_infer.proofs.relinking.relinked_walks.Given as goal

abbrev pub invariant-loop-place : goal.invariant-loop-place
invariant-loop-place l = l.relinked ≡ map (with_given_links l.paths l.numbers) (take l.place l.walks)
