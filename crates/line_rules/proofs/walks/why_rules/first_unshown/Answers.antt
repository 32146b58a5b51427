use Rattle.relationships.specs.GivenEvidence.{ShowsWith}
use Rattle.result_rules.specs.File.{its_givens, its_kept}
use Rattle.result_rules.specs.declared.rule.Rule.TheVariants.{OrdersShown}
use Rattle.line_rules.proofs.Passing.{asks_more}
use Rattle.line_rules.proofs.ShownOrders.{orders_more, asks_shown}
use Rattle.line_rules.proofs.walks.why_rules.first_unshown.Goals as goal

pub returns-in_default : goal.returns-in_default
returns-in_default c =
    let k = asks_shown c.args.file.now c.loop-place.place c.walk_at-walk.result c.walk_at-walk.ensures c.loop-place.shown c.loop-place.invariant.orders in
    record {
      within = k.0;
      breach = λ asks. let (a, b, s) = k.1.1 asks in c.in_default.ensures.none a b s;
      before = c.loop-place.invariant.met;
    }

pub loop-place-preserved : goal.loop-place-preserved
loop-place-preserved c =
    let k = asks_shown c.args.file.now c.loop-place.place c.walk_at-walk.result c.walk_at-walk.ensures c.loop-place.shown c.loop-place.invariant.orders in
    let shows : ShowsWith (its_givens c.args.file.now) (its_kept c.args.file.now) c.loop-place.shown c.walk_at-walk.result c.in-Some.over c.in-Some.under = c.in-Some.ensures.some in
    record {
      met = asks_more c.args.file.now OrdersShown c.loop-place.place c.loop-place.invariant.met (k.1.0 (c.in-Some.over, c.in-Some.under, shows));
      orders = orders_more c.args.file.now c.loop-place.place c.walk_at-walk.result c.walk_at-walk.ensures c.loop-place.shown c.push.new.self c.in-Some.over c.in-Some.under
          c.loop-place.invariant.orders c.in_ok-push.ensures.ok shows.ends;
    }
