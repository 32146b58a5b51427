use Rattle.std.proofs.Common.{get_or}
use Rattle.std.proofs.lemmas.Option.{slice_get-get_or}
use Rattle.as_rel.specs.declared.line.RelKind.TheVariants.{Transit}
use Rattle.as_rel.specs.declared.line.RelLine.{RelLine}
use Rattle.as_ranks.proofs.NetLemmas.{first-named, second-named, line-more}
use Rattle.as_ranks.proofs.net.add_all.Goals as goal

abbrev none : RelLine
none = record { first = 0; second = 0; kind = Transit }

pub add_line-requires-clause-first : goal.add_line-requires-clause-first
add_line-requires-clause-first c =
    let lines = c.args.lines.now in
    let k = c.loop-line.line-index in
    first-named lines c.args.ases.now k (get_or lines k none) c.requires.named (slice_get-get_or lines k none c.loop-line-test.true)

pub add_line-requires-clause-second : goal.add_line-requires-clause-second
add_line-requires-clause-second c =
    let lines = c.args.lines.now in
    let k = c.loop-line.line-index in
    second-named lines c.args.ases.now k (get_or lines k none) c.requires.named (slice_get-get_or lines k none c.loop-line-test.true)

pub loop-line-preserved : goal.loop-line-preserved
loop-line-preserved c =
    line-more c.args.lines.now c.loop-line.line-index none c.args.ases.now c.loop-line.graph c.add_line.new.graph c.loop-line-test.true c.loop-line.invariant c.in_ok-add_line.ensures
