use Rattle.std.proofs.Common.{suc, ◌+◌, ◌<◌, ◌≤◌, ◌⊎◌, inl, inr, length, sym, arith}
use Rattle.tor_io.proofs.Putting.{puts_as, puts_none}
use Rattle.telling.proofs.WalkTextLemmas.{lesser}
use Rattle.telling.proofs.TextLemmas.{no_goings, going_more, all_goings}
use Rattle.telling.proofs.writing.put_goings.Goals as goal

pub loop-at-init : goal.loop-at-init
loop-at-init g c = puts_as (puts_none _) (sym (no_goings c.args.path.now))

pub loop-at-preserved : goal.loop-at-preserved
loop-at-preserved g c =
    let path = c.args.path.now in
    let goings = c.args.goings.now in
    let at = c.loop-at.at in
    let least = lesser (length goings) c.saturating_sub.result c.min-count.ensures in
    let low : at < length goings = omega (arith, c.loop-at-test.true, least.0) in
    let in_front : at + 1 < length path = omega (arith, c.loop-at-test.true, least.1, c.saturating_sub.ensures) in
    going_more _ _ _ path goings at _ low in_front c.loop-at.invariant c.put_going.ensures

pub returns : goal.returns
returns g c =
    let path = c.args.path.now in
    let goings = c.args.goings.now in
    let at = c.loop-at.at in
    let least = lesser (length goings) c.saturating_sub.result c.min-count.ensures in
    let all : (length goings ≤ at) ⊎ (length path ≤ suc at) = elim least.2 [
      | inl l ↦ inl (omega (arith, l, c.loop-at-test.false))
      | inr l ↦ inr (omega (arith, l, c.loop-at-test.false, c.saturating_sub.ensures))
    ] in
    puts_as c.loop-at.invariant (all_goings path goings at all)
