use Rattle.std.proofs.Common.{◌∙◌, ap}
use Rattle.tor_clauses.specs.Formulas.{numbered}
use Rattle.rel_infer.proofs.resuming.inferred_on.Goals as goal

pub inferred_past-inferred-requires-clause-kept : goal.inferred_past-inferred-requires-clause-kept
inferred_past-inferred-requires-clause-kept c = ap (numbered c.args.started.graph) c.in-Ok.ensures.kept ∙ c.requires.kept

pub inferred_past-inferred-requires-clause-keeps : goal.inferred_past-inferred-requires-clause-keeps
inferred_past-inferred-requires-clause-keeps c = c.requires.keeps

pub inferred_past-inferred-requires-clause-begun : goal.inferred_past-inferred-requires-clause-begun
inferred_past-inferred-requires-clause-begun c = c.requires.begun
