use Rattle.std.proofs.Common.{◌≡◌, length, Some, refl, ap, subst, arith}
use Rattle.std.specs.Prelude.{slice_get}
use Rattle.std.proofs.lemmas.Option.{slice_get_read, slice_get_within}
use Rattle.tor_clauses.proofs.Leadings.{way_arc}
use Rattle.tor_clauses.proofs.walking.follow_way.Goals as goal

pub step-requires : goal.step-requires
step-requires c =
    let items = c.as_slice-arc-items.result.now in
    let here : slice_get items c.loop-arc.arc-index ≡ Some c.arc-item.result = slice_get_read items (length items) c.loop-arc.arc-index c.arc-item.result refl c.loop-arc-test.true c.arc-item.is in
    let at : slice_get c.args.way.now.arcs c.loop-arc.arc-index ≡ Some c.arc-item.result =
    subst (λ l. slice_get l c.loop-arc.arc-index ≡ Some c.arc-item.result) c.as_slice-arc-items.ensures here in
    let way = c.requires in
    let arc = way_arc c.args.fitted.now.formula.net.arcs way.0 way.1 c.args.way.now.nodes c.args.way.now.arcs c.loop-arc.arc-index c.arc-item.result way.2 at in
    slice_get_within c.args.fitted.now.formula.net.arcs c.arc-item.result (arc.0, arc.1) arc.4

pub loop-arc-preserved : goal.loop-arc-preserved
loop-arc-preserved c =
    let items = c.as_slice-arc-items.result.now in
    let here : slice_get items c.loop-arc.arc-index ≡ Some c.arc-item.result = slice_get_read items (length items) c.loop-arc.arc-index c.arc-item.result refl c.loop-arc-test.true c.arc-item.is in
    let at : slice_get c.args.way.now.arcs c.loop-arc.arc-index ≡ Some c.arc-item.result =
    subst (λ l. slice_get l c.loop-arc.arc-index ≡ Some c.arc-item.result) c.as_slice-arc-items.ensures here in
    record {
      leads = λ from to n way next a b start.
          let arc = way_arc c.args.fitted.now.formula.net.arcs from to c.args.way.now.nodes c.args.way.now.arcs c.loop-arc.arc-index c.arc-item.result way at in
          c.in_ok-step.ensures.leads arc.0 n (way.between c.loop-arc.arc-index c.arc-item.result arc.0 n at arc.2 next) a b
          (c.loop-arc.invariant.leads from to arc.0 way arc.2 a b start);
      kept = λ u v p. c.in_ok-step.ensures.kept u v (c.loop-arc.invariant.kept u v p);
    }

pub returns-clause-leads : goal.returns-clause-leads
returns-clause-leads c = λ from to way a b start.
    let all : length c.args.way.now.arcs ≡ c.loop-arc.arc-index = omega (arith, ap length c.as_slice-arc-items.ensures, c.loop-arc-test.false, c.loop-arc.auto.arc-index-end) in
    c.loop-arc.invariant.leads from to to way (subst (λ k. slice_get c.args.way.now.nodes k ≡ Some to) all way.last) a b start
