use Rattle.std.proofs.Common.{◌<◌, length, refl, arith}
use Rattle.std.proofs.lemmas.Option.{slice_get-get_or}
use Rattle.line_rules.proofs.TestingLemmas.{tries_begin, tries_next, tries_done}
use Rattle.line_rules.proofs.marks.consistency.Testing.try_batch.Goals as goal

pub loop-at-init : goal.loop-at-init
loop-at-init c =
    let implied = c.args.flips.now.implied in
    tries_begin c.args.file.now implied c.args.flips.now.conflicting c.args.places.now c.args.self.now _ c.new-waiting.result (c.begin.ensures.begun (length implied) c.requires.rounds) refl
    c.begin.ensures.round c.new-waiting.ensures

pub loop-at-preserved : goal.loop-at-preserved
loop-at-preserved c =
    let places = c.args.places.now in
    let at = c.loop-at.at in
    let test = c.loop-at-test.true in
    let end = c.loop-at.auto.at-end in
    let within : at < length places = omega (arith, test, end) in
    tries_next c.args.file.now c.args.flips.now.implied c.args.flips.now.conflicting places c.args.self.now at c.loop-at.self c.try_line.new.self c.loop-at.waiting c.let_wait.new.waiting
    _ c.in_ok-done.done c.loop-at.invariant (slice_get-get_or places at _ within) (c.requires.inside at _ within) c.in_ok-done.ensures c.in_ok-let_wait.ensures

pub returns : goal.returns
returns c =
    let test = c.loop-at-test.false in
    let end = c.loop-at.auto.at-end in
    tries_done c.args.file.now c.args.flips.now.implied c.args.flips.now.conflicting c.args.places.now c.args.self.now c.loop-at.at c.loop-at.self c.loop-at.waiting
    (omega (arith, test, end)) c.loop-at.invariant

pub begin-requires : goal.begin-requires
begin-requires c = omega (arith, c.requires.room)

pub try_line-requires-clause-laid : goal.try_line-requires-clause-laid
try_line-requires-clause-laid c = c.requires.laid

pub try_line-requires-clause-there : goal.try_line-requires-clause-there
try_line-requires-clause-there c =
    let test = c.loop-at-test.true in
    let end = c.loop-at.auto.at-end in
    let within : c.loop-at.at < length c.args.places.now = omega (arith, test, end) in
    c.requires.inside c.loop-at.at _ within

pub try_line-requires-clause-rounds : goal.try_line-requires-clause-rounds
try_line-requires-clause-rounds c = c.loop-at.invariant.rounds

pub try_line-requires-clause-round : goal.try_line-requires-clause-round
try_line-requires-clause-round c = let round = c.loop-at.invariant.round in omega (arith, round)

pub try_line-requires-clause-batch : goal.try_line-requires-clause-batch
try_line-requires-clause-batch c = c.loop-at.invariant.together
