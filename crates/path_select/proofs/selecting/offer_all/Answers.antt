use Rattle.std.proofs.Common.{◌+◌, ◌≡◌, ◌<◌, ℕ, length, refl, subst, sym, ap, arith}
use Rattle.std.specs.Prelude.{IfSome}
use Rattle.relationships.specs.declared.fate.Fate.{Fate}
use Rattle.relationships.specs.Fates.{walk_of}
use Rattle.path_offer.specs.Choices.{Choice}
use Rattle.tor_mend.specs.Refusals.{AreRefused}
use Rattle.path_select.proofs.Selections.{IsSoFar, next_at, none_so_far, selects_rest}
use Rattle.tor_mend.proofs.Relinking.{none_refused}
use Rattle.path_select.proofs.selecting.offer_all.Goals as goal

same_formula : (offer : Fate) (new old : Choice) → IfSome (walk_of offer) (λ walk. new ≡ old) → IfSome (walk_of offer) (λ walk. new.formula ≡ old.formula)
same_formula Fate.Kept new old lost = tt
same_formula (Fate.Lost walk) new old lost = ap (λ (c : Choice). c.formula) lost

pub loop-place-init : goal.loop-place-init
loop-place-init c =
    let le = c.requires.begun in
    let all = c.requires.count in
    record {
      so = none_so_far c.args.graph.now c.args.selector.now.formula.paths c.args.fates.now c.len-place.result c.args.selector.now.formula
          c.len-place.ensures (omega (arith, le, all)) c.requires.fits refl;
      refused = none_refused c.args.graph.now c.args.selector.now.formula.paths c.args.fates.now c.args.refusals.now.items.items c.requires.refused;
    }

pub offer-requires-clause-next : goal.offer-requires-clause-next
offer-requires-clause-next c =
    let same : c.unwrap-path.result ≡ c.loop-place.place =
    subst (λ o. IfSome o (λ (n : ℕ). n ≡ c.loop-place.place)) c.unwrap-path.ensures c.from_place.ensures.some in
    omega (arith, same, c.loop-place.invariant.so.many)

pub loop-place-preserved : goal.loop-place-preserved
loop-place-preserved c =
    let graph = c.args.graph.now in
    let fate = c.in_ok-fate.fate in
    let test = c.loop-place-test.true in
    let lt : c.loop-place.place < length graph = omega (arith, test, c.requires.count) in
    let same : c.unwrap-path.result ≡ c.loop-place.place =
    subst (λ o. IfSome o (λ (n : ℕ). n ≡ c.loop-place.place)) c.unwrap-path.ensures c.from_place.ensures.some in
    let refused = c.in_ok-fate.ensures.refused in
    let e = c.in_ok-fate.ensures.offered in
    let added = sym c.in_ok-add.ensures in
    let next = next_at graph c.args.selector.now.formula.paths c.args.fates.now c.loop-place.place c.loop-place.fates c.loop-place.selector.formula c.loop-place.invariant.so lt
    c.unwrap-path.result same fate c.offer.new.selector.formula e.fits e.exact e.kept (same_formula fate c.offer.new.selector c.loop-place.selector e.lost) e.walk in
    record {
      so = subst (λ fates. IsSoFar graph c.args.selector.now.formula.paths c.args.fates.now (c.loop-place.place + 1) fates c.offer.new.selector.formula) added next;
      refused = subst (λ fates. AreRefused graph c.offer.new.selector.formula.paths fates c.offer.new.refusals.items.items) added refused;
    }

pub returns : goal.returns
returns c =
    let end = c.loop-place-test.false in
    let le = c.loop-place.auto.place-end in
    selects_rest c.args.graph.now c.args.selector.now c.loop-place.selector c.args.fates.now c.loop-place.place c.args.count c.loop-place.fates (omega (arith, end, le))
    c.loop-place.invariant.so
