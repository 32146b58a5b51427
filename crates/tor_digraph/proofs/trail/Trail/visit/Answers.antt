use Rattle.std.proofs.Common.{refl, sym, subst, arith, Some}
use Rattle.std.specs.Prelude.{◌≡◌, slice_get}
use Rattle.tor_digraph.proofs.Trails.{added-stays, added-visits, kept-visits}
use Rattle.tor_digraph.proofs.trail.Trail.visit.Goals as goal

pub overflow_cast-place : goal.overflow_cast-place
overflow_cast-place c =
    let place = c.requires.place in
    let few = c.add.ensures.few in
    let below = c.add.ensures.below in
    record { fits = omega (arith, place, few, below) }

pub returns-in_err-is_new-clause-stays : goal.returns-in_err-is_new-clause-stays
returns-in_err-is_new-clause-stays c = λ k x at. subst (λ s. slice_get s.items k ≡ Some x) (sym c.in_err-is_new.ensures.err) at

pub returns-else-is_new-clause-stays : goal.returns-else-is_new-clause-stays
returns-else-is_new-clause-stays c = added-stays c.args.node c.in_ok-is_new.is_new _ _ c.in_ok-is_new.ensures.added

pub returns-else-is_new-clause-visited : goal.returns-else-is_new-clause-visited
returns-else-is_new-clause-visited c = kept-visits c.args.node c.args.place c.args.arc c.args.self.now
    (record { nodes = c.add.new.self; origins = c.args.self.now.origins }) c.in_ok-is_new.is_new c.if-is_new.false c.in_ok-is_new.ensures.added refl

pub returns-in_err-push-clause-stays : goal.returns-in_err-push-clause-stays
returns-in_err-push-clause-stays c = added-stays c.args.node c.in_ok-is_new.is_new _ _ c.in_ok-is_new.ensures.added

pub returns-in_ok-push-clause-stays : goal.returns-in_ok-push-clause-stays
returns-in_ok-push-clause-stays c = added-stays c.args.node c.in_ok-is_new.is_new _ _ c.in_ok-is_new.ensures.added

pub returns-in_ok-push-clause-visited : goal.returns-in_ok-push-clause-visited
returns-in_ok-push-clause-visited c = added-visits c.args.node c.args.place c.args.arc c.args.self.now
    (record { nodes = c.add.new.self; origins = c.push.new.self }) c.in_ok-is_new.is_new c.if-is_new.true c.in_ok-is_new.ensures.added c.in_ok-push.ensures.ok
