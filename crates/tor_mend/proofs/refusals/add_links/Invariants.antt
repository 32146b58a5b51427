use Rattle.std.proofs.Common.{◌≡◌, map, take}
use Rattle.tor_mend.specs.Refusals.{relink}
use Rattle.tor_mend.proofs.refusals.add_links.Given as goal

abbrev pub invariant-loop-old : goal.invariant-loop-old
invariant-loop-old l = l.new.items ≡ map (relink l.own l.fn.link) (take l.old-index l.links)
