use Rattle.std.proofs.Common.{get_or}
use Rattle.std.proofs.lemmas.Option.{slice_get-get_or}
use Rattle.as_rel.specs.declared.line.RelKind.TheVariants.{Transit}
use Rattle.as_rel.specs.declared.line.RelLine.{RelLine}
use Rattle.as_ranks.proofs.NetLemmas.{first-named, second-named}
use Rattle.as_ranks.proofs.LinkLemmas.{classes-more}
use Rattle.as_ranks.proofs.cycles.add_classes.Goals as goal

abbrev none : RelLine
none = record { first = 0; second = 0; kind = Transit }

pub class_of_line-requires-clause-first : goal.class_of_line-requires-clause-first
class_of_line-requires-clause-first c =
    let lines = c.args.lines.now in
    let k = c.loop-line.line-index in
    first-named lines c.args.ases.now k (get_or lines k none) c.requires.named (slice_get-get_or lines k none c.loop-line-test.true)

pub class_of_line-requires-clause-second : goal.class_of_line-requires-clause-second
class_of_line-requires-clause-second c =
    let lines = c.args.lines.now in
    let k = c.loop-line.line-index in
    second-named lines c.args.ases.now k (get_or lines k none) c.requires.named (slice_get-get_or lines k none c.loop-line-test.true)

pub loop-line-preserved : goal.loop-line-preserved
loop-line-preserved c =
    classes-more c.args.parts.now c.args.ases.now c.args.lines.now c.loop-line.line-index c.class_of_line.result none c.loop-line.of.items c.push.new.self.items c.loop-line-test.true
    c.in_ok-push.ensures.items c.class_of_line.ensures.is_class c.class_of_line.ensures.below c.loop-line.invariant
