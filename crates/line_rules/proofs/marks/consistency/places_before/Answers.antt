use Rattle.line_rules.proofs.TestingLemmas.{places_more}
use Rattle.line_rules.proofs.marks.consistency.places_before.Goals as goal

pub loop-place-preserved : goal.loop-place-preserved
loop-place-preserved c =
    let so_far = c.loop-place.invariant in
    let more = places_more c.loop-place.places c.push.new.self c.loop-place.place so_far.many so_far.inside so_far.all c.in_ok-push.ensures.ok in
    record { many = more.0; inside = more.1; all = more.2 }
