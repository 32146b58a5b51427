use Rattle.std.proofs.Common.{◌≡◌, sym, ◌∙◌, subst, arith}
use Rattle.std.specs.Prelude.{IfSome}
use Rattle.std.proofs.lemmas.Bool.{false≢true}
use Rattle.tor_solve.specs.Solving.{HaveOneClass}
use Rattle.tor_solve.proofs.Classing.{none_more}
use Rattle.tor_solve.proofs.later.clash.Goals as goal

pub loop-place-preserved : goal.loop-place-preserved
loop-place-preserved c =
    none_more (HaveOneClass c.args.parts.now.of) c.loop-place.place c.unwrap-edge.result
    (subst (λ o. IfSome o (λ i. i ≡ c.loop-place.place)) c.unwrap-edge.ensures c.from_place.ensures.some) c.loop-place.invariant
    (λ h. false≢true (sym c.if-has_clash.false ∙ c.has_clash.ensures.1 h))

pub returns-clause-none : goal.returns-clause-none
returns-clause-none c = λ edge below h. c.loop-place.invariant edge (omega arith) h
