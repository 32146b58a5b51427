use Rattle.std.proofs.Common.{rules, ◌<◌, List, ℕ, length, subst, arith}
use Rattle.line_rules.specs.Testing.{AreTried}
use Rattle.line_rules.proofs.TestingLemmas.{way_begins, way_tried, way_more}
use Rattle.line_rules.proofs.marks.consistency.Testing.try_all.Goals as goal

pub loop-alloc-init : goal.loop-alloc-init
loop-alloc-init c =
    let places = c.in_ok-waiting.ensures in
    way_begins c.args.file.now c.args.flips.now.implied c.args.end c.args.self.now c.in_ok-waiting.waiting c.requires.end c.requires.batch c.requires.round c.requires.failing
    places.many places.inside places.all

pub loop-alloc-preserved : goal.loop-alloc-preserved
loop-alloc-preserved c =
    let file = c.args.file.now in
    let implied = c.args.flips.now.implied in
    let waiting = c.loop-alloc.waiting in
    let left = c.in_ok-left.left in
    let tried = subst (λ (l : List ℕ). AreTried file implied l c.loop-alloc.self c.try_batch.new.self left) c.as_slice.ensures c.in_ok-left.ensures in
    let less : length left < length waiting = search rules in
    way_tried file implied c.args.end 1 1 c.args.self.now.failing c.loop-alloc.self c.try_batch.new.self waiting left c.loop-alloc.invariant tried (omega (arith, less))

pub try_batch-requires-clause-room : goal.try_batch-requires-clause-room
try_batch-requires-clause-room c =
    let rounds = c.loop-alloc.invariant.rounds in
    let few = c.requires.lines in
    omega (arith, rounds, few, c.requires.end)

pub loop-alloc-smaller : goal.loop-alloc-smaller
loop-alloc-smaller c = let less : length c.in_ok-left.left < length c.loop-alloc.waiting = search rules in less

pub returns-then-len : goal.returns-then-len
returns-then-len c =
    let file = c.args.file.now in
    let implied = c.args.flips.now.implied in
    let waiting = c.loop-alloc.waiting in
    let left = c.in_ok-left.left in
    let tried = subst (λ (l : List ℕ). AreTried file implied l c.loop-alloc.self c.try_batch.new.self left) c.as_slice.ensures c.in_ok-left.ensures in
    way_tried file implied c.args.end 1 2 c.args.self.now.failing c.loop-alloc.self c.try_batch.new.self waiting left c.loop-alloc.invariant tried (omega (arith, tried.few))

pub returns : goal.returns
returns c = way_more c.args.file.now c.args.flips.now.implied c.args.end c.args.self.now.failing c.loop-alloc.self c.loop-alloc.waiting c.loop-alloc.invariant

pub try_batch-requires-clause-laid : goal.try_batch-requires-clause-laid
try_batch-requires-clause-laid c = c.requires.laid

pub try_batch-requires-clause-inside : goal.try_batch-requires-clause-inside
try_batch-requires-clause-inside c = rw c.as_slice.ensures c.loop-alloc.invariant.inside

pub try_batch-requires-clause-rounds : goal.try_batch-requires-clause-rounds
try_batch-requires-clause-rounds c = c.loop-alloc.invariant.bears
