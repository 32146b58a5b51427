use Rattle.std.proofs.Common.{rules, ◌≡◌, ap, ap₂, ◌∙◌}
use Rattle.relationships.specs.Flat.{walk_with}
use Rattle.relationships.specs.GivenEvidence.{given_link, with_given_links}
use Rattle.std.proofs.Common.{map}
use Rattle.rel_infer.proofs.Relinked.{walk_more}
use Rattle.rel_infer.proofs.relinking.relinked_walks.Goals as goal

pub loop-place-preserved : goal.loop-place-preserved
loop-place-preserved c =
    let n = c.args.paths in
    let numbers = c.args.numbers.now in
    let same : c.unwrap.result ≡ c.loop-place.place = search rules in
    let links = c.as_slice.ensures ∙ c.in_ok-relink.ensures ∙ ap (map (given_link n numbers)) c.links.ensures in
    walk_more (with_given_links n numbers) c.args.walks.now c.loop-place.place c.unwrap.result c.get-walk.result (walk_with c.ases.result.now c.as_slice.result.now)
    c.loop-place.relinked c.push.new.self same c.get-walk.ensures c.loop-place.invariant c.in_ok-push.ensures.added (ap₂ walk_with c.ases.ensures links)
