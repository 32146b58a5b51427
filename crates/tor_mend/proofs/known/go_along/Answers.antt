use Rattle.std.proofs.Common.{◌≡◌, ◌-◌, Some, length, refl, ap, sym, ◌∙◌, subst, arith}
use Rattle.std.specs.Prelude.{slice_get}
use Rattle.std.proofs.lemmas.Option.{slice_get_read, slice_get_within}
use Rattle.tor_clauses.specs.Rounds.{IsLed}
use Rattle.tor_clauses.proofs.Leadings.{way_arc}
use Rattle.tor_clauses.proofs.Ways.{some_same}
use Rattle.tor_mend.proofs.known.go_along.Goals as goal

pub loop-place-init : goal.loop-place-init
loop-place-init c = record {
  within = let fits = c.requires.fits in omega (arith, fits);
  leads = λ from to x n led begins at start way. subst (IsLed c.args.fitted.now.formula.net.arcs c.args.way.now start) (some_same (sym begins ∙ at)) way;
}

pub go-requires : goal.go-requires
go-requires c =
    let items = c.as_slice-arcs.result.now in
    let arcs = c.args.fitted.now.formula.net.arcs in
    let along = c.args.along.now in
    let place = c.loop-place.place in
    let arc = c.index-arcs-place.result in
    let lt = c.loop-place-test.true in
    let here : slice_get items place ≡ Some arc = slice_get_read items (length items) place arc refl (omega (arith, lt)) c.index-arcs-place.is in
    let at : slice_get along.arcs place ≡ Some arc = subst (λ l. slice_get l place ≡ Some arc) c.as_slice-arcs.ensures here in
    let r = way_arc arcs c.requires.led.0 c.requires.led.1 along.nodes along.arcs place arc c.requires.led.2 at in
    slice_get_within arcs arc (r.0, r.1) r.4

pub loop-place-preserved : goal.loop-place-preserved
loop-place-preserved c =
    let items = c.as_slice-arcs.result.now in
    let arcs = c.args.fitted.now.formula.net.arcs in
    let along = c.args.along.now in
    let place = c.loop-place.place in
    let arc = c.index-arcs-place.result in
    let lt = c.loop-place-test.true in
    let long = ap length c.as_slice-arcs.ensures in
    let here : slice_get items place ≡ Some arc = slice_get_read items (length items) place arc refl (omega (arith, lt)) c.index-arcs-place.is in
    let at : slice_get along.arcs place ≡ Some arc = subst (λ l. slice_get l place ≡ Some arc) c.as_slice-arcs.ensures here in
    record {
      within = omega (arith, lt, long);
      leads = λ from to x n led begins next start way.
          let r = way_arc arcs from to along.nodes along.arcs place arc led at in
          c.in_ok-go.ensures r.0 n (led.between place arc r.0 n at r.2 next) start (c.loop-place.invariant.leads from to x r.0 led begins r.2 start way);
    }

pub returns : goal.returns
returns c = λ from to x y led begins ends start way.
    let long = ap length c.as_slice-arcs.ensures in
    let within = c.loop-place.invariant.within in
    let past = c.loop-place-test.false in
    let all : length c.args.along.now.arcs - c.args.skip ≡ c.loop-place.place = omega (arith, long, within, past) in
    c.loop-place.invariant.leads from to x y led begins (subst (λ k. slice_get c.args.along.now.nodes k ≡ Some y) all ends) start way
