use Rattle.std.specs.Prelude.{IfSome}
use Rattle.tor_mend.specs.Refusals.{HasRefusedTriple}
use Rattle.tor_mend.proofs.refusals.Refusals.find.Given as goal

abbrev pub invariant-loop-next : goal.invariant-loop-next
invariant-loop-next l = IfSome l.met (HasRefusedTriple l.graph l.fn.path l.self.items.items)
