use Rattle.std.proofs.Common.{◌<◌, length, refl, arith}
use Rattle.std.proofs.lemmas.Option.{slice_get-get_or}
use Rattle.line_rules.proofs.RuledOut.{begun}
use Rattle.line_rules.proofs.TestingLemmas.{batch_begins, batch_next, batch_done}
use Rattle.line_rules.proofs.marks.consistency.Testing.test_batch.Goals as goal

pub loop-at-init : goal.loop-at-init
loop-at-init c =
    let implied = c.args.flips.now.implied in
    let conflicting = c.args.flips.now.conflicting in
    let implying = c.args.implying.now in
    let first = c.args.self.now in
    let none = c.begin.ensures.begun (length implied) c.requires.rounds in
    batch_begins c.args.file.now implied conflicting implying c.requires.rows c.args.places.now first _ c.new-waiting.result none c.requires.failing refl c.begin.ensures.round
    (begun implied conflicting implying c.requires.rows c.begin.new.self none) c.new-waiting.ensures

pub loop-at-preserved : goal.loop-at-preserved
loop-at-preserved c =
    let places = c.args.places.now in
    let at = c.loop-at.at in
    let test = c.loop-at-test.true in
    let end = c.loop-at.auto.at-end in
    let within : at < length places = omega (arith, test, end) in
    batch_next c.args.file.now c.args.flips.now.implied c.args.flips.now.conflicting c.args.implying.now places c.args.self.now at c.loop-at.self c.test.new.self
    c.loop-at.waiting c.let_wait.new.waiting _ c.in_ok-done.done c.loop-at.invariant (slice_get-get_or places at _ within) (c.requires.inside at _ within) c.in_ok-done.ensures c.in_ok-let_wait.ensures

pub returns : goal.returns
returns c =
    let test = c.loop-at-test.false in
    let end = c.loop-at.auto.at-end in
    batch_done c.args.file.now c.args.flips.now.implied c.args.flips.now.conflicting c.args.implying.now c.args.places.now c.args.self.now c.loop-at.at c.loop-at.self c.loop-at.waiting
    (omega (arith, test, end)) c.loop-at.invariant

pub begin-requires : goal.begin-requires
begin-requires c = omega (arith, c.requires.room)

pub test-requires-clause-laid : goal.test-requires-clause-laid
test-requires-clause-laid c = c.requires.laid

pub test-requires-clause-rows : goal.test-requires-clause-rows
test-requires-clause-rows c = c.requires.rows

pub test-requires-clause-there : goal.test-requires-clause-there
test-requires-clause-there c =
    let test = c.loop-at-test.true in
    let end = c.loop-at.auto.at-end in
    let within : c.loop-at.at < length c.args.places.now = omega (arith, test, end) in
    c.requires.inside c.loop-at.at _ within

pub test-requires-clause-batch : goal.test-requires-clause-batch
test-requires-clause-batch c = c.loop-at.invariant.batch

pub test-requires-clause-room : goal.test-requires-clause-room
test-requires-clause-room c =
    let test = c.loop-at-test.true in
    let end = c.loop-at.auto.at-end in
    let within : c.loop-at.at < length c.args.places.now = omega (arith, test, end) in
    let rounds = c.loop-at.invariant.rounds in
    omega (arith, rounds, within, c.requires.room)
