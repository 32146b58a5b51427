use Rattle.std.proofs.Common.{◌≡◌, ◌∙◌, map, sym, ap, subst}
use Rattle.std.specs.Prelude.{slice_get, slice_index, IfSome}
use Rattle.as_ranks.proofs.CycleLemmas.{maps-more}
use Rattle.as_ranks.proofs.cycles.name_rows.Goals as goal

pub loop-place-preserved : goal.loop-place-preserved
loop-place-preserved c =
    let place : c.unwrap-id.result ≡ c.loop-place.place = subst (λ o. IfSome o (λ i. i ≡ c.loop-place.place)) c.unwrap-id.ensures c.from_place.ensures.some in
    maps-more (map (slice_index c.args.names.now)) c.args.nodes.now c.loop-place.ases c.push_row.new.self c.loop-place.place c.row.result.now c.as_slice.result.now
    (ap (slice_get c.args.nodes.now) (sym place) ∙ c.row.ensures) (c.as_slice.ensures ∙ c.in_ok-name_row.ensures) c.loop-place.invariant c.in-Ok.ensures.added
