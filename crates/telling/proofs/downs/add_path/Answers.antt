use Rattle.std.proofs.Common.{◌≤◌, ◌<◌, length, arith}
use Rattle.result_rules.specs.File.{its_labels}
use Rattle.telling.proofs.DownLemmas.{downs_next, downs_all, downs_short, still_then, place_next}
use Rattle.telling.proofs.downs.add_path.Goals as goal

pub returns-then-path-lt3-clause-all : goal.returns-then-path-lt3-clause-all
returns-then-path-lt3-clause-all c =
    let lt : length c.args.path.now < 3 = omega (arith, c.if-path-lt3.true) in
    downs_short (its_labels c.args.file.now) c.args.all.now.edges c.args.path.now c.args.downs.now.graph.arcs lt

pub loop-at-preserved : goal.loop-at-preserved
loop-at-preserved c =
    let (two, downs, still, to, first) = c.loop-at.invariant in
    let more = c.in_ok-add_at.ensures in
    let old = c.loop-at.downs.graph.arcs in
    let new = c.add_at.new.downs.graph.arcs in (
      omega (arith, two),
      more.downs,
      still_then c.args.downs.now.graph.arcs old new still more.still,
      downs_next (its_labels c.args.file.now) c.args.all.now.edges c.args.path.now old new c.loop-at.at more.still more.here to,
      place_next c.args.all.now.edges c.args.path.now c.loop-at.at c.place-second.result two c.place-second.ensures.found,
    )

pub returns-clause-all : goal.returns-clause-all
returns-clause-all c =
    let le : length c.args.path.now ≤ c.loop-at.at = omega (arith, c.loop-at-test.false) in
    downs_all (its_labels c.args.file.now) c.args.all.now.edges c.args.path.now c.loop-at.downs.graph.arcs c.loop-at.at le c.loop-at.invariant.3
