use Rattle.std.proofs.Common.{sym, subst}
use Rattle.tor_solve.specs.Classes.{IsComponents}
use Rattle.tor_solve.proofs.strong.class_all.Goals as goal

pub returns-in-Ok : goal.returns-in-Ok
returns-in-Ok g c = subst (λ z. IsComponents g.N.Index.place_of c.args.graph.now z) (sym c.new.ensures) c.in-Ok.ensures
