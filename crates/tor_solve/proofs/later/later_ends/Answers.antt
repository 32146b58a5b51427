use Rattle.std.proofs.Common.{◌≡◌, ◌+◌, ◌∷◌, [], length, length-append, sym, ap, ◌∙◌, subst}
use Rattle.std.specs.Prelude.{IfSome}
use Rattle.tor_solve.specs.Solving.{HaveOneClass, AreLater}
use Rattle.tor_solve.proofs.Classing.{later_more}
use Rattle.tor_solve.proofs.later.later_ends.Goals as goal

pub later_end-requires-clause-apart : goal.later_end-requires-clause-apart
later_end-requires-clause-apart c =
    let at : c.unwrap-edge.result ≡ c.loop-place.place = subst (λ o. IfSome o (λ i. i ≡ c.loop-place.place)) c.unwrap-edge.ensures c.from_place.ensures.some in
    subst (λ e. HaveOneClass c.args.parts.now.of e → ⊥) (sym at) (c.requires.apart c.loop-place.place c.loop-place-test.true)

pub loop-place-preserved : goal.loop-place-preserved
loop-place-preserved c =
    let at : c.unwrap-edge.result ≡ c.loop-place.place = subst (λ o. IfSome o (λ i. i ≡ c.loop-place.place)) c.unwrap-edge.ensures c.from_place.ensures.some in
    let more = c.in_ok-push.ensures.ok in
    record {
      many = ap length more ∙ length-append c.loop-place.ends (c.later_end.result ∷ []) ∙ ap (λ n. n + 1) c.loop-place.invariant.many;
      later = subst (AreLater c.args.parts.now.of) (sym more)
          (later_more c.args.parts.now.of c.loop-place.ends c.unwrap-edge.result c.later_end.result (at ∙ sym c.loop-place.invariant.many) c.loop-place.invariant.later c.later_end.ensures);
    }
