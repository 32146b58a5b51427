use Rattle.std.proofs.Common.{◌≡◌, take}
use Rattle.tor_clauses.specs.Formulas.{FitsGraph}
use Rattle.path_offer.proofs.selector.add_all.Given as goal

abbrev pub invariant-loop-path : goal.invariant-loop-path
invariant-loop-path l = record {
  fits : FitsGraph l.graph l.clauses;
  paths : l.clauses.paths ≡ take l.path-index l.paths;
}
