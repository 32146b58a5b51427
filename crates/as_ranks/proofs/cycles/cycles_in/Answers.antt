use Rattle.std.proofs.Common.{sym, subst}
use Rattle.as_ranks.specs.Cycles.{AreProviderCycles}
use Rattle.as_ranks.proofs.CycleLemmas.{named-cycles}
use Rattle.as_ranks.proofs.cycles.cycles_in.Goals as goal

pub inside_cycles-requires-clause-cycles : goal.inside_cycles-requires-clause-cycles
inside_cycles-requires-clause-cycles c =
    let w = c.in-Ok.ensures in
    subst (AreProviderCycles c.args.lines.now) (sym w.2) (named-cycles c.args.lines.now c.args.net.now.ases.items c.args.net.now.graph c.requires.net w.0 w.1)

pub returns-in-Ok-inside_cycles-clause-cycles : goal.returns-in-Ok-inside_cycles-clause-cycles
returns-in-Ok-inside_cycles-clause-cycles c =
    let w = c.in-Ok.ensures in
    subst (AreProviderCycles c.args.lines.now) (sym w.2) (named-cycles c.args.lines.now c.args.net.now.ases.items c.args.net.now.graph c.requires.net w.0 w.1)
