use Rattle.std.proofs.Common.{◌≡◌, ◌∙◌, ◌++◌, List, Some, ap, map, subst, sym}
use Rattle.std.specs.Prelude.{slice_get, IfSome}
use Rattle.std.proofs.lemmas.Option.{same_Some}
use Rattle.tor_arena.proofs.Gets.{slice_get-map}
use Rattle.tor_io.proofs.Putting.{puts_as, puts_then}
use Rattle.as_rel.specs.declared.line.RelLine.{RelLine}
use Rattle.as_ranks.specs.Cycles.{inside_of}
use Rattle.rank_text.specs.RankText.{cycle_line, cycle_text, inside_line}
use Rattle.std.specs.List.{flat_map}
use Rattle.rank_text.proofs.Items.{item_more}
use Rattle.rank_text.proofs.cycles.put_all.Goals as goal

pub loop-place-preserved : goal.loop-place-preserved
loop-place-preserved g c = λ rel is.
    let rows = c.args.cycles.now.ases in
    let at = c.loop-place.place in
    let id : c.unwrap-id.result ≡ at = subst (λ o. IfSome o (λ i. i ≡ at)) c.unwrap-id.ensures c.from_place.ensures.some in
    let row : slice_get rows at ≡ Some c.row.result.now = ap (slice_get rows) (sym id) ∙ c.row.ensures in
    let insides : slice_get (map (inside_of rel) rows) at ≡ Some c.row-in-loop-place.result.now =
    ap (slice_get (map (inside_of rel) rows)) (sym id) ∙ ap (λ (ls : List (List RelLine)). slice_get ls c.unwrap-id.result) (sym is) ∙ c.row-in-loop-place.ensures in
    let inside : c.row-in-loop-place.result.now ≡ inside_of rel c.row.result.now =
    same_Some c.row-in-loop-place.result.now (inside_of rel c.row.result.now) (sym insides ∙ slice_get-map (inside_of rel) rows at c.row.result.now row) in
    item_more (cycle_text rel) rows at c.row.result.now row (c.loop-place.invariant rel is)
    (puts_as (puts_then c.put_ases.ensures c.put_insides.ensures) (ap (λ ls. cycle_line c.row.result.now ++ flat_map inside_line ls) inside))
