use Rattle.std.proofs.Common.{◌≡◌, map, take}
use Rattle.route_leaks.specs.Inside.{link_named}
use Rattle.route_leaks.proofs.naming.name_links.Given as goal

abbrev pub invariant-loop-link : goal.invariant-loop-link
invariant-loop-link l = l.named ≡ map (link_named l.naming l.from) (take l.link-index l.links)
