use Rattle.std.proofs.Common.{rules, ◌≡◌, length, sym, subst}
use Rattle.line_rules.specs.Testing.{end_before}
use Rattle.line_rules.proofs.TestingLemmas.{idle_failing, is_end, IsEnd, all_tested}
use Rattle.line_rules.proofs.marks.consistency.Testing.find.Goals as goal

pub test_all-requires-clause-failing : goal.test_all-requires-clause-failing
test_all-requires-clause-failing c = idle_failing c.args.file.now c.requires.laid.whole c.args.self.now.failing c.requires.idle

pub returns : goal.returns
returns c =
    let file = c.args.file.now in
    let idle = c.args.self.now.failing in
    let is : c.end_before-end.result ≡ end_before idle (length file.probes) = search rules in
    all_tested file c.requires.laid.whole idle c.end_before-end.result c.test_all.new.self.failing c.requires.idle
    (subst (IsEnd file c.requires.laid.whole idle) (sym is) (is_end file c.requires.laid.whole idle c.requires.idle)) c.in_ok-test_all.ensures

pub test_all-requires-clause-lines : goal.test_all-requires-clause-lines
test_all-requires-clause-lines c = c.requires.lines

pub test_all-requires-clause-laid : goal.test_all-requires-clause-laid
test_all-requires-clause-laid c = c.requires.laid

pub test_all-requires-clause-batch : goal.test_all-requires-clause-batch
test_all-requires-clause-batch c = c.requires.batch

pub test_all-requires-clause-round : goal.test_all-requires-clause-round
test_all-requires-clause-round c = c.requires.round
