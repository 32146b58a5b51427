use Rattle.std.proofs.Common.{◌≡◌, ◌<◌, ℕ, Some}
use Rattle.std.specs.Prelude.{slice_get}
use Rattle.relationships.specs.declared.walk.Link.{Link}
use Rattle.tor_mend.proofs.refusals.only_place.Given as goal

abbrev pub invariant-loop-link : goal.invariant-loop-link
invariant-loop-link l = (k : ℕ) (link : Link) → k < l.link-index → slice_get l.links k ≡ Some link → link.path ≡ l.own → l.named ≡ Some link.at
