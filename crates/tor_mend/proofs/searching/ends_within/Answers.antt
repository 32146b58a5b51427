use Rattle.std.proofs.Common.{◌∙◌, arith}
use Rattle.std.proofs.lemmas.Option.{slice_get_within}
use Rattle.tor_arena.proofs.Gets.{slice_get-some}
use Rattle.tor_mend.proofs.searching.ends_within.Goals as goal

pub loop-next-preserved : goal.loop-next-preserved
loop-next-preserved c =
    let old = slice_get-some c.loop-next.trail.nodes.items c.loop-next.next (omega (arith, c.loop-next-test.true, c.len.ensures)) in
    let lt = slice_get_within c.scan_some.new.trail.nodes.items c.loop-next.next old.0 (c.scan_some.ensures.stays c.loop-next.next old.0 old.1) in
    record { count = c.scan_some.ensures.count; within = omega (arith, lt) }

pub loop-next-init : goal.loop-next-init
loop-next-init c = record { count = c.begin.ensures.count ∙ c.requires.count; within = omega arith }

pub loop-next-smaller : goal.loop-next-smaller
loop-next-smaller c = omega (arith, c.loop-next-test.true, c.len.type_inv)

pub overflow_add-next : goal.overflow_add-next
overflow_add-next c = record { fits = omega (arith, c.loop-next-test.true, c.len.type_inv) }
