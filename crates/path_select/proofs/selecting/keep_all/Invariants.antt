use Rattle.std.proofs.Common.{◌≡◌, take}
use Rattle.tor_clauses.specs.Formulas.{FitsGraph}
use Rattle.path_select.proofs.selecting.keep_all.Given as goal

abbrev pub invariant-loop-path : goal.invariant-loop-path
invariant-loop-path l = record {
  fits : FitsGraph l.graph l.selector.formula;
  kept : l.selector.formula.paths ≡ take l.path-index l.paths;
}
