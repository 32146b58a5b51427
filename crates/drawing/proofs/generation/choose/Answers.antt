use Rattle.std.proofs.Common.{◌+◌, sym, subst, arith}
use Rattle.tor_numbers.specs.Slots.{IsInserted}
use Rattle.drawing.proofs.Choosing.{IsChoosing, choosing_none, choosing_one, choosing_left, choosing_all}
use Rattle.drawing.proofs.generation.choose.Goals as goal
use Rattle.drawing.proofs.generation.choose.Goals.{then-branch+in_ok-push, else-branch}

pub loop-neighbour-init : goal.loop-neighbour-init
loop-neighbour-init c = choosing_none c.args.nearer.now c.args.found.now c.args.chosen.now.items c.requires.none

pub loop-neighbour-preserved : goal.loop-neighbour-preserved
loop-neighbour-preserved c =
    let l = c.loop-neighbour in
    let old = c.args.nearer.now in
    let found = c.args.found.now in
    let new = c.insert.new.self in
    let is = subst (λ m. IsInserted (m + 2) l.nearer new c.in_ok-insert.field-0) c.from.ensures c.in_ok-insert.ensures.ok in
    elim c.if-branch.branch [
      | then-branch+in_ok-push w ↦
          subst (λ v. IsChoosing old found (l.neighbour-index + 1) v.items new) (sym w.chosen-is)
          (choosing_one old found l.neighbour-index _ l.chosen.items w.push.new.self.items l.nearer new c.loop-neighbour-test.true c.requires.sorted l.invariant
          (subst (IsInserted _ l.nearer new) w.if-branch.true is) w.in_ok-push.ensures.items)
      | else-branch w ↦
          subst (λ v. IsChoosing old found (l.neighbour-index + 1) v.items new) (sym w.chosen-is)
          (choosing_left old found l.neighbour-index _ l.chosen.items l.nearer new c.loop-neighbour-test.true c.requires.sorted l.invariant
          (subst (IsInserted _ l.nearer new) w.if-branch.false is))
    ]

pub returns : goal.returns
returns c =
    let l = c.loop-neighbour in
    choosing_all c.args.nearer.now c.args.found.now l.neighbour-index l.chosen.items l.nearer (omega (arith, c.loop-neighbour-test.false)) l.invariant
