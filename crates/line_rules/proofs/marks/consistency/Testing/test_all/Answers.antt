use Rattle.std.proofs.Common.{rules, ◌≡◌, inl, inr, List, ℕ, length, sym, ap, ◌∙◌, subst, arith}
use Rattle.std.proofs.lemmas.List.{length-map}
use Rattle.relationships.specs.Evidence.{IsTriple}
use Rattle.line_rules.specs.Flipping.{flipped, flipped_orders, served_lines}
use Rattle.line_rules.specs.Testing.{IsBatchTested}
use Rattle.line_rules.proofs.Buildings.{inside_implied}
use Rattle.line_rules.proofs.TestingLemmas.{rows_of, way_next, way_done}
use Rattle.line_rules.proofs.marks.consistency.Testing.test_all.Goals as goal

pub turned-requires-clause-inside : goal.turned-requires-clause-inside
turned-requires-clause-inside c =
    inside_implied (flipped_orders c.args.file.now.edges) (IsTriple (served_lines c.args.file.now)) c.args.flips.now.implied c.args.flips.now.conflicting c.requires.laid.built

pub test_batch-left-requires-clause-rows : goal.test_batch-left-requires-clause-rows
test_batch-left-requires-clause-rows c =
    rows_of c.args.file.now c.args.flips.now.implied c.args.flips.now.conflicting c.in_ok-implying.implying c.requires.laid.built c.in_ok-implying.ensures

pub loop-alloc-preserved : goal.loop-alloc-preserved
loop-alloc-preserved c =
    let file = c.args.file.now in
    let implied = c.args.flips.now.implied in
    let conflicting = c.args.flips.now.conflicting in
    let implying = c.in_ok-implying.implying in
    let waiting = c.loop-alloc.waiting in
    let some : length waiting ≡ 0 → ⊥ = search rules in
    way_next file implied conflicting implying (rows_of file implied conflicting implying c.requires.laid.built c.in_ok-implying.ensures) c.args.end c.args.self.now.failing
    c.loop-alloc.self c.test_batch-left.new.self waiting c.in-Ok.left c.loop-alloc.invariant some
    (subst (λ (l : List ℕ). IsBatchTested file implied conflicting implying l c.loop-alloc.self c.test_batch-left.new.self c.in-Ok.left) c.as_slice.ensures c.in-Ok.ensures)

pub returns : goal.returns
returns c =
    let none : length c.loop-alloc.waiting ≡ 0 = search rules in
    way_done c.args.file.now c.args.flips.now.implied c.args.end c.args.self.now.failing c.loop-alloc.self c.loop-alloc.waiting c.loop-alloc.invariant none

pub test_batch-left-requires-clause-room : goal.test_batch-left-requires-clause-room
test_batch-left-requires-clause-room c =
    let rounds = c.loop-alloc.invariant.rounds in
    let few = c.requires.lines in
    let same = ap length c.as_slice.ensures in
    omega (arith, rounds, few, same, c.requires.end)

pub loop-alloc-smaller : goal.loop-alloc-smaller
loop-alloc-smaller c =
    let waiting = c.loop-alloc.waiting in
    let some : length waiting ≡ 0 → ⊥ = search rules in
    let same = ap length c.as_slice.ensures in
    elim c.in-Ok.ensures.fewer [ inl none ↦ absurd (some (sym same ∙ none)) | inr less ↦ omega (arith, less, same) ]

pub returns-then-is_empty : goal.returns-then-is_empty
returns-then-is_empty c =
    let waiting = c.in_ok-waiting.waiting in
    let none : length waiting ≡ 0 = search rules in
    way_done c.args.file.now c.args.flips.now.implied c.args.end c.args.self.now.failing c.try_all.new.self waiting c.in_ok-waiting.ensures none

pub try_all-requires-clause-lines : goal.try_all-requires-clause-lines
try_all-requires-clause-lines c = c.requires.lines

pub try_all-requires-clause-laid : goal.try_all-requires-clause-laid
try_all-requires-clause-laid c = c.requires.laid

pub try_all-requires-clause-end : goal.try_all-requires-clause-end
try_all-requires-clause-end c = c.requires.end

pub try_all-requires-clause-batch : goal.try_all-requires-clause-batch
try_all-requires-clause-batch c = c.requires.batch

pub try_all-requires-clause-round : goal.try_all-requires-clause-round
try_all-requires-clause-round c = c.requires.round

pub try_all-requires-clause-failing : goal.try_all-requires-clause-failing
try_all-requires-clause-failing c = c.requires.failing

pub turned-requires-clause-few : goal.turned-requires-clause-few
turned-requires-clause-few c =
    let many = c.requires.laid.built.implied_many in
    omega (arith, many, length-map c.args.file.now.edges flipped, c.requires.laid.few)

pub loop-alloc-init : goal.loop-alloc-init
loop-alloc-init c = c.in_ok-waiting.ensures

pub test_batch-left-requires-clause-laid : goal.test_batch-left-requires-clause-laid
test_batch-left-requires-clause-laid c = c.requires.laid

pub test_batch-left-requires-clause-inside : goal.test_batch-left-requires-clause-inside
test_batch-left-requires-clause-inside c = rw c.as_slice.ensures c.loop-alloc.invariant.inside

pub test_batch-left-requires-clause-rounds : goal.test_batch-left-requires-clause-rounds
test_batch-left-requires-clause-rounds c = c.loop-alloc.invariant.bears

pub test_batch-left-requires-clause-failing : goal.test_batch-left-requires-clause-failing
test_batch-left-requires-clause-failing c = c.loop-alloc.invariant.failing
