use Rattle.std.proofs.Common.{◌≡◌, take}
use Rattle.route_leaks.specs.Inside.{AreTriedFates}
use Rattle.route_leaks.proofs.trying.try_all.Given as goal

-- nothing has changed, and there is a fate for each path so far
abbrev pub invariant-loop-path : goal.invariant-loop-path
invariant-loop-path l = record {
  same : l.selector ≡ l.fn.selector;
  tried : AreTriedFates l.graph l.fn.selector.formula.paths l.naming (take l.path-index l.met) l.fates;
}
