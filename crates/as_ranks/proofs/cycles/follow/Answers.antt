use Rattle.std.proofs.Common.{get_or, sym, subst, arith}
use Rattle.std.proofs.lemmas.Option.{slice_get-get_or}
use Rattle.as_rel.specs.declared.line.RelKind.TheVariants.{Transit}
use Rattle.as_rel.specs.declared.line.RelLine.{RelLine}
use Rattle.as_ranks.proofs.FollowLemmas.{AreFollowed, followed-first, followed-next, followed-last}
use Rattle.as_ranks.proofs.cycles.follow.Goals as goal

abbrev none : RelLine
none = record { first = 0; second = 0; kind = Transit }

pub loop-at-init : goal.loop-at-init
loop-at-init c = λ ases linked. subst (AreFollowed c.args.lines.now ases c.args.start) (sym c.clear.ensures) (followed-first c.args.lines.now ases c.args.start linked.first)

pub loop-at-smaller : goal.loop-at-smaller
loop-at-smaller c =
    let at = c.loop-at.at in
    let test = c.loop-at-test.true in
    let many = c.requires.many in
    let less = c.requires.on at (get_or c.args.next.now at 0) (slice_get-get_or c.args.next.now at 0 (omega (arith, test, many))) in
    omega (arith, less, test)

pub loop-at-preserved : goal.loop-at-preserved
loop-at-preserved c = λ ases linked.
    let lines = c.args.lines.now in
    let next = c.args.next.now in
    let at = c.loop-at.at in
    let test = c.loop-at-test.true in
    let many = c.requires.many in
    followed-next lines ases c.args.start at (get_or next at 0) (get_or lines at none) c.loop-at.row c.push.new.self next linked (slice_get-get_or lines at none test)
    (slice_get-get_or next at 0 (omega (arith, test, many))) c.in_ok-push.ensures.ok (c.loop-at.invariant ases linked)

pub returns : goal.returns
returns c = λ ases linked. followed-last c.args.lines.now ases c.loop-at.at c.loop-at.row c.loop-at-test.false (c.loop-at.invariant ases linked)
