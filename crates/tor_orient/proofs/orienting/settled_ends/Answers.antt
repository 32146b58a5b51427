use Rattle.std.proofs.Common.{rules, ◌≡◌, List, length, sym, ◌∙◌, subst}
use Rattle.std.proofs.lemmas.Result.{IfOk-weaker}
use Rattle.relationships.specs.declared.label.End.{End}
use Rattle.tor_orient.specs.Steps.{AreEndsOf}
use Rattle.tor_orient.proofs.orienting.settled_ends.Goals as goal

pub returns : goal.returns
returns c =
    let made = c.loop-place.ends.items in
    let many : length made ≡ c.args.count = search rules in
    IfOk-weaker c.from_slice.result (λ (o : List End). o ≡ c.as_slice.result.now) (λ (o : List End). (length o ≡ c.args.count) × AreEndsOf c.args.settled.now.items o)
    (λ o same. subst (λ (l : List End). (length l ≡ c.args.count) × AreEndsOf c.args.settled.now.items l) (sym (same ∙ c.as_slice.ensures.value)) (many, c.loop-place.invariant.1))
    c.from_slice.ensures
