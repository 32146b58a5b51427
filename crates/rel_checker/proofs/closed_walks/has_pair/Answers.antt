use Rattle.std.proofs.Common.{◌≡◌, ◌+◌, ◌-◌, get_or, refl, ap, ◌∙◌, arith}
use Rattle.std.proofs.lemmas.Bool.{false≢true}
use Rattle.rel_checker.proofs.ComingBacks.{HasPair-from_index, index-from_HasPair}
use Rattle.rel_checker.proofs.closed_walks.has_pair.Goals as goal

pub returns-then-ases-at-2 : goal.returns-then-ases-at-2
returns-then-ases-at-2 c =
    let ases = c.args.ases.now in
    let at = c.loop-at.at in
    let some = c.loop-at.invariant.0 in
    let e : at - 1 + 1 ≡ at = omega arith in
    (λ t. HasPair-from_index ases c.args.x c.args.y (at - 1) (omega arith) c.if-ases-at.true (ap (λ i. get_or ases i 0) e ∙ c.if-ases-at-2.true), λ h. refl)

pub returns : goal.returns
returns c = (
  λ t. absurd (false≢true t),
  λ h.
      let r = index-from_HasPair c.args.ases.now c.args.x c.args.y h in
      absurd (c.loop-at.invariant.1 r.0 (omega (arith, r.1)) r.2 r.3),
)
