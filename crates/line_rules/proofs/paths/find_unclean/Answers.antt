use Rattle.std.proofs.Common.{◌+◌, length, sym, ap, subst, arith}
use Rattle.std.proofs.lemmas.Bool.{both_ways}
use Rattle.line_rules.proofs.Lines.{line-here}
use Rattle.line_rules.proofs.Soundness.{AreSound, sound-more, unsound-first}
use Rattle.line_rules.proofs.paths.find_unclean.Goals as goal

pub returns-then-not-branch : goal.returns-then-not-branch
returns-then-not-branch c =
    let l = line-here c.args.file.now c.loop-place.place c.path_line_at-line.result c.path_line_at-line.ensures in
    unsound-first c.args.file.now c.loop-place.place c.loop-place.numbers c.path_line_at-line.result c.loop-place.invariant l
    (λ t. both_ways c.in_ok-is_sound.field-0 c.if-not-branch.true (c.in_ok-is_sound.ensures.1 t))

pub loop-place-preserved : goal.loop-place-preserved
loop-place-preserved c =
    let l = line-here c.args.file.now c.loop-place.place c.path_line_at-line.result c.path_line_at-line.ensures in
    subst (λ n. AreSound c.args.file.now (c.loop-place.place + 1) (c.loop-place.numbers + n)) (sym (ap length c.path.ensures))
    (sound-more c.args.file.now c.loop-place.place c.loop-place.numbers c.path_line_at-line.result c.loop-place.invariant l (c.in_ok-is_sound.ensures.0 c.if-not-branch.false))

pub returns : goal.returns
returns c =
    let all = c.loop-place-test.false in
    let long = c.len-place-end.ensures.length in
    λ k lt. c.loop-place.invariant.before k (omega (arith, all, long, lt))
