use Rattle.std.proofs.Common.{subst, sym, ◌∷◌, []}
use Rattle.top_givens.specs.Binding.{SettlesMore}
use Rattle.top_givens.proofs.Tops.{none_of_two}
use Rattle.top_givens.proofs.Bindings.{settles_one, settles_other}
use Rattle.top_givens.proofs.settling.settle_pair.Goals as goal

pub returns-then-holds : goal.returns-then-holds
returns-then-holds c =
    settles_other c.args.top.now c.args.a c.args.b c.args.settled.now
    (none_of_two c.args.top.now c.args.a c.args.b c.holds.result c.holds-2.result c.holds.ensures c.holds-2.ensures c.if-holds.true)

pub returns : goal.returns
returns c =
    subst (SettlesMore c.args.top.now ((c.args.a, c.args.b) ∷ []) c.args.settled.now) (sym c.in_ok-add.ensures.ok) (settles_one c.args.top.now c.args.a c.args.b c.args.settled.now)
