use Rattle.std.proofs.Common.{◌≤◌, length, arith}
use Rattle.telling.proofs.DownLemmas.{lines_next, lines_all}
use Rattle.telling.proofs.downs.add_lines.Goals as goal

pub loop-place-init : goal.loop-place-init
loop-place-init c = (c.requires.downs, λ k lt. absurd (omega (arith, lt)))

pub loop-place-preserved : goal.loop-place-preserved
loop-place-preserved c =
    let (downs, to) = c.loop-place.invariant in
    let more = c.in_ok-add_line.ensures in
    (more.downs, lines_next c.args.file.now c.args.all.now.edges c.loop-place.downs.graph.arcs c.add_line.new.downs.graph.arcs c.loop-place.place more.still more.all to)

pub returns-clause-all : goal.returns-clause-all
returns-clause-all c =
    let le : length c.args.file.now.paths ≤ c.loop-place.place = omega (arith, c.loop-place-test.false, c.len-place-end.ensures.length) in
    lines_all c.args.file.now c.args.all.now.edges c.loop-place.downs.graph.arcs c.loop-place.place le c.loop-place.invariant.1
