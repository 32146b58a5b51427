use Rattle.std.proofs.Common.{◌≡◌, ◌+◌, ◌-◌, ◌∷◌, [], ◌++◌, ℕ, List, Some, slice_get, sym, ap, ◌∙◌, subst, arith}
use Rattle.std.specs.Prelude.{reverse}
use Rattle.relationships.specs.Evidence.{BeginsWith}
use Rattle.telling.specs.Proving.{ProveTogether}
use Rattle.telling.proofs.Chains.{LeadFrom}
use Rattle.telling.proofs.Chains as chains
use Rattle.telling.proofs.proving.whys_for.Goals as goal
use Rattle.telling.proofs.proving.whys_for.Goals.{else-first-order-via-then-first-order+else-first-order-2, else-first-order-via-else-first-order}

pub returns-then-first-order-2 : goal.returns-then-first-order-2
returns-then-first-order-2 c =
    let file = c.args.file.now in
    let k = c.loop-place.place - 1 in
    let (o, u) = c.loop-place.order in
    let walk = c.get-walk.result in
    let whys = c.loop-place.whys.items in
    let at : slice_get file.whys k ≡ Some walk = subst (λ (n : ℕ). slice_get file.whys n ≡ Some walk) c.why_id-id.ensures c.get-walk.ensures in
    let e : c.loop-place.place ≡ k + 1 = omega (arith, c.loop-place-test.true) in
    let before = subst (λ n. LeadFrom file n whys o u c.args.over c.args.under) e c.loop-place.invariant in
    let found = c.in-Some.ensures.some in
    let begins : BeginsWith walk.ases u o =
    subst (λ v. BeginsWith walk.ases u v) c.if-first-order-2.true (subst (λ v. BeginsWith walk.ases v c.in-Some.first.1) c.if-first-order.true found.0) in
    let all = chains.proved file k walk at whys o u c.args.over c.args.under found.1 before begins c.requires.met in
    let more : c.push.new.self.items ≡ whys ++ k ∷ [] = c.in_ok-push.ensures.items ∙ ap (λ (n : ℕ). whys ++ n ∷ []) c.why_id-id.ensures in
    subst (λ (l : List ℕ). ProveTogether file l c.args.over c.args.under) (sym (c.from_vec.ensures ∙ c.reverse.ensures.items ∙ ap reverse more)) all

pub loop-place-preserved-in-Some : goal.loop-place-preserved-in-Some
loop-place-preserved-in-Some c =
    let file = c.args.file.now in
    let k = c.loop-place.place - 1 in
    let (o, u) = c.loop-place.order in
    let walk = c.get-walk.result in
    let whys = c.loop-place.whys.items in
    let at : slice_get file.whys k ≡ Some walk = subst (λ (n : ℕ). slice_get file.whys n ≡ Some walk) c.why_id-id.ensures c.get-walk.ensures in
    let e : c.loop-place.place ≡ k + 1 = omega (arith, c.loop-place-test.true) in
    let before = subst (λ n. LeadFrom file n whys o u c.args.over c.args.under) e c.loop-place.invariant in
    let found = c.in-Some.ensures.some in
    let other : (c.in-Some.first.0 ≡ u) × (c.in-Some.first.1 ≡ o) → ⊥ = elim c.else-first-order.branch [
      | else-first-order-via-then-first-order+else-first-order-2 w ↦ λ p. w.if-first-order-2.false p.1
      | else-first-order-via-else-first-order w ↦ λ p. w.if-first-order.false p.0
    ] in
    let all = chains.led file k walk at whys o u c.args.over c.args.under found.1 before c.in-Some.first.0 c.in-Some.first.1 found.0 other c.requires.met in
    let more : c.push.new.self.items ≡ whys ++ k ∷ [] = c.in_ok-push.ensures.items ∙ ap (λ (n : ℕ). whys ++ n ∷ []) c.why_id-id.ensures in
    subst (λ (l : List ℕ). LeadFrom file k l c.in-Some.first.0 c.in-Some.first.1 c.args.over c.args.under) (sym more) all

pub loop-place-preserved : goal.loop-place-preserved
loop-place-preserved c =
    let file = c.args.file.now in
    let k = c.loop-place.place - 1 in
    let (o, u) = c.loop-place.order in
    let walk = c.get-walk.result in
    let whys = c.loop-place.whys.items in
    let at : slice_get file.whys k ≡ Some walk = subst (λ (n : ℕ). slice_get file.whys n ≡ Some walk) c.why_id-id.ensures c.get-walk.ensures in
    let e : c.loop-place.place ≡ k + 1 = omega (arith, c.loop-place-test.true) in
    let before = subst (λ n. LeadFrom file n whys o u c.args.over c.args.under) e c.loop-place.invariant in
    chains.passed file k walk at whys o u c.args.over c.args.under c.in_default.ensures.none before c.requires.met
