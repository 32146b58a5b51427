use Rattle.std.proofs.Common.{take}
use Rattle.as_rel.specs.Providers.{IsProviderNet}
use Rattle.as_ranks.proofs.net.add_all.Given as goal

abbrev pub invariant-loop-line : goal.invariant-loop-line
invariant-loop-line l = IsProviderNet (take l.line-index l.lines) l.ases l.graph
