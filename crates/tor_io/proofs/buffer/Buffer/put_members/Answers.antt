use Rattle.std.proofs.Common.{◌++◌, map, ◌∙◌}
use Rattle.std.specs.Prelude.{decimal}
use Rattle.std.specs.List.{join_with_byte}
use Rattle.tor_io.specs.Contents.{GainsPrefix}
use Rattle.tor_io.proofs.Passing.{at_error}
use Rattle.tor_io.proofs.Members.{member_passed, member_stopped}
use Rattle.tor_io.proofs.buffer.Buffer.put_members.Goals as goal

pub returns-in_err-put_member-clause-prefix : goal.returns-in_err-put_member-clause-prefix
returns-in_err-put_member-clause-prefix g c =
    let held = g.S.Sink.held in
    at_error c.from_residual.result
    (GainsPrefix (held c.args.sink.now) (held c.put_member.new.sink) (c.args.self.now ++ join_with_byte c.args.byte (map decimal c.args.numbers.now)))
    (member_stopped c.args.byte c.args.numbers.now c.loop-place.place (held c.args.sink.now) (held c.loop-place.sink) (held c.put_member.new.sink) c.args.self.now c.loop-place.self
    c.loop-place-test.true c.loop-place.invariant.passed c.in_err-put_member.ensures.prefix)

pub loop-place-preserved : goal.loop-place-preserved
loop-place-preserved g c =
    let held = g.S.Sink.held in
    record {
      passed = member_passed c.args.byte c.args.numbers.now c.loop-place.place (held c.args.sink.now) (held c.loop-place.sink) (held c.put_member.new.sink) c.args.self.now c.loop-place.self
          c.put_member.new.self c.loop-place-test.true c.loop-place.invariant.passed c.in_ok-put_member.ensures.all;
      quiet = c.in_ok-put_member.ensures.cause.quiet ∙ c.loop-place.invariant.quiet;
    }
