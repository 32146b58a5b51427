use Rattle.std.proofs.Common.{get_or, ap, ◌∙◌, arith}
use Rattle.std.specs.Prelude.{slice_get}
use Rattle.std.proofs.lemmas.Option.{slice_get-get_or, slice_get_within}
use Rattle.as_rel.specs.declared.line.RelKind.TheVariants.{Transit}
use Rattle.as_rel.specs.declared.line.RelLine.{RelLine}
use Rattle.as_ranks.proofs.NetLemmas.{first-named, second-named}
use Rattle.as_ranks.proofs.TallyLemmas.{small-first, small-second, mid-long, tally-step}
use Rattle.as_ranks.proofs.ranking.add_ranks.Goals as goal

abbrev none : RelLine
none = record { first = 0; second = 0; kind = Transit }

pub node_of-requires-clause-there : goal.node_of-requires-clause-there
node_of-requires-clause-there c =
    let lines = c.args.lines.now in
    let k = c.loop-line.line-index in
    first-named lines c.args.ases.now k (get_or lines k none) c.requires.named (slice_get-get_or lines k none c.loop-line-test.true)

pub node_of-requires-in-loop-line-clause-there : goal.node_of-requires-in-loop-line-clause-there
node_of-requires-in-loop-line-clause-there c =
    let lines = c.args.lines.now in
    let k = c.loop-line.line-index in
    second-named lines c.args.ases.now k (get_or lines k none) c.requires.named (slice_get-get_or lines k none c.loop-line-test.true)

pub count_line-requires-clause-small : goal.count_line-requires-clause-small
count_line-requires-clause-small c =
    let at_x = ap (slice_get c.args.ases.now) c.place-first.ensures.place ∙ c.node_of.ensures.at in
    let at_y = ap (slice_get c.args.ases.now) c.place-second.ensures.place ∙ c.node_of-in-loop-line.ensures.at in
    let old = c.loop-line.ranks.items in
    small-first c.args.lines.now c.args.ases.now c.args.cones.now c.loop-line.line-index none c.place-first.result c.place-second.result old old old c.requires.names c.requires.named.rising
    c.loop-line-test.true c.requires.few_lines c.loop-line.invariant at_x at_y

pub count_line-requires-in-loop-line-clause-place : goal.count_line-requires-in-loop-line-clause-place
count_line-requires-in-loop-line-clause-place c =
    let at_x = ap (slice_get c.args.ases.now) c.place-first.ensures.place ∙ c.node_of.ensures.at in
    let at_y = ap (slice_get c.args.ases.now) c.place-second.ensures.place ∙ c.node_of-in-loop-line.ensures.at in
    let old = c.loop-line.ranks.items in
    let mid = c.count_line.new.ranks.items in
    let long = mid-long c.args.lines.now c.args.ases.now c.args.cones.now c.loop-line.line-index none c.place-first.result c.place-second.result old mid mid c.requires.names
    c.requires.named.rising c.loop-line-test.true c.requires.few_lines c.loop-line.invariant at_x at_y c.count_line.ensures in
    let within = slice_get_within c.args.ases.now c.place-second.result (get_or c.args.lines.now c.loop-line.line-index none).second at_y in
    let many = c.loop-line.invariant.many in
    omega (arith, within, many, long)

pub count_line-requires-in-loop-line-clause-small : goal.count_line-requires-in-loop-line-clause-small
count_line-requires-in-loop-line-clause-small c =
    let at_x = ap (slice_get c.args.ases.now) c.place-first.ensures.place ∙ c.node_of.ensures.at in
    let at_y = ap (slice_get c.args.ases.now) c.place-second.ensures.place ∙ c.node_of-in-loop-line.ensures.at in
    let mid = c.count_line.new.ranks.items in
    small-second c.args.lines.now c.args.ases.now c.args.cones.now c.loop-line.line-index none c.place-first.result c.place-second.result c.loop-line.ranks.items mid mid c.requires.names
    c.requires.named.rising c.loop-line-test.true c.requires.few_lines c.loop-line.invariant at_x at_y c.count_line.ensures

pub loop-line-preserved : goal.loop-line-preserved
loop-line-preserved c =
    let at_x = ap (slice_get c.args.ases.now) c.place-first.ensures.place ∙ c.node_of.ensures.at in
    let at_y = ap (slice_get c.args.ases.now) c.place-second.ensures.place ∙ c.node_of-in-loop-line.ensures.at in
    tally-step c.args.lines.now c.args.ases.now c.args.cones.now c.loop-line.line-index none c.place-first.result c.place-second.result c.loop-line.ranks.items
    c.count_line.new.ranks.items c.count_line-in-loop-line.new.ranks.items c.requires.names c.requires.named.rising c.loop-line-test.true c.requires.few_lines c.loop-line.invariant
    at_x at_y c.count_line.ensures c.count_line-in-loop-line.ensures
