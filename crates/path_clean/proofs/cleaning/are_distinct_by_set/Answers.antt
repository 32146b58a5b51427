use Rattle.std.proofs.Common.{◌≡◌, ◌-◌, ◌<◌, Bool, true, false, not, cond, ◌||◌, get_or, refl, sym, ap₂, ◌∙◌, arith}
use Rattle.std.specs.Ordering.{nat_cmp, eq_by_cmp}
use Rattle.std.specs.Cmp.{unsigned_tied}
use Rattle.std.specs.BTreeSet.{contains}
use Rattle.path_clean.proofs.Distinct.{twice, once, one_more}
use Rattle.path_clean.proofs.cleaning.are_distinct_by_set.Goals as goal

true_from : (b : Bool) → false ≡ not b → b ≡ true
true_from true e = refl
true_from false e = absurd cc

false_from : (b : Bool) → true ≡ not b → b ≡ false
false_from true e = absurd cc
false_from false e = refl

either : (b c : Bool) → cond b true c ≡ (b || c)
either true c = refl
either false c = refl

pub returns-then-not-branch : goal.returns-then-not-branch
returns-then-not-branch c =
    let path = c.args.path.now in
    let at = c.numbers.at in
    let key = get_or path (at - 1) 0 in
    let some : 0 < at = omega (arith, c.numbers-test.true) in
    let has : contains nat_cmp c.numbers.seen key ≡ true = true_from _ (sym c.if-not-branch.true ∙ c.in_ok-insert.ensures.added) in
    sym (twice path at some c.numbers.invariant.0 (sym (c.numbers.invariant.2 key) ∙ has))

pub numbers-preserved : goal.numbers-preserved
numbers-preserved c =
    let path = c.args.path.now in
    let at = c.numbers.at in
    let key = get_or path (at - 1) 0 in
    let some : 0 < at = omega (arith, c.numbers-test.true) in
    let lacks : contains nat_cmp c.numbers.seen key ≡ false = false_from _ (sym c.if-not-branch.false ∙ c.in_ok-insert.ensures.added) in (
      omega (arith, c.numbers.invariant.0),
      once path at some c.numbers.invariant.0 (sym (c.numbers.invariant.2 key) ∙ lacks) c.numbers.invariant.1,
      λ q. c.in_ok-insert.ensures.updates.0 q ∙ either (eq_by_cmp nat_cmp key q) (contains nat_cmp c.numbers.seen q)
          ∙ ap₂ (λ a b. a || b) (unsigned_tied key q) (c.numbers.invariant.2 q) ∙ sym (one_more path at q some c.numbers.invariant.0),
    )
