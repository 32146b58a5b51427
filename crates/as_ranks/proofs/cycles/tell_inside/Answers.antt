use Rattle.std.proofs.Common.{◌≡◌, ◌∙◌, sym, ap, subst}
use Rattle.std.specs.Prelude.{slice_get, IfSome}
use Rattle.as_ranks.specs.Cycles.{inside_of}
use Rattle.as_ranks.proofs.CycleLemmas.{maps-more}
use Rattle.as_ranks.proofs.cycles.tell_inside.Goals as goal

pub loop-place-preserved : goal.loop-place-preserved
loop-place-preserved c =
    let place : c.unwrap.result ≡ c.loop-place.place = subst (λ o. IfSome o (λ i. i ≡ c.loop-place.place)) c.unwrap.ensures c.from_place.ensures.some in
    maps-more (inside_of c.args.lines.now) c.args.cycles.now c.loop-place.inside c.push_row.new.self c.loop-place.place c.row-ases.result.now c.as_slice.result.now
    (ap (slice_get c.args.cycles.now) (sym place) ∙ c.row-ases.ensures) (c.as_slice.ensures ∙ c.in_ok-follow_cycle.ensures) c.loop-place.invariant c.in-Ok.ensures.added
