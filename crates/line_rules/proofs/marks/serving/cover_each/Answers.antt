use Rattle.std.proofs.Common.{◌≤◌, take, length, subst, sym, ap, arith}
use Rattle.std.proofs.lemmas.List.{length-map, take_all}
use Rattle.result_rules.specs.File.{its_probes}
use Rattle.line_rules.specs.Flipping.{flipped_orders, served_lines}
use Rattle.line_rules.specs.Serving.{GainsAt, IsCovered}
use Rattle.tor_arena.proofs.Gets.{read_of}
use Rattle.line_rules.proofs.Firsts.{first_more, gains_at, probes_more, order_of}
use Rattle.line_rules.proofs.marks.serving.cover_each.Goals as goal

pub loop-k-preserved : goal.loop-k-preserved
loop-k-preserved c =
    let file = c.args.file.now in
    let k = c.loop-k.k in
    let earlier = take k (its_probes file) in
    let at = read_of c.as_slice-probe-items.result.now file.probes k _ c.as_slice-probe-items.ensures c.loop-k-test.true in
    let covered = c.in_ok-gains.ensures.covered earlier c.loop-k.invariant.covered in
    let gains = c.in_ok-gains.ensures.gains earlier c.loop-k.invariant.covered in
    record {
      many = c.in_ok-gains.ensures.many;
      closed = c.in_ok-gains.ensures.closed;
      covered = subst (λ l. IsCovered (served_lines file) (flipped_orders file.edges) l c.cover_one.new.rounds.items 1) (sym (probes_more file k _ at)) covered;
      idle = rw c.first_failing-idle.ensures (first_more (GainsAt file) k c.loop-k.idle _ c.loop-k.invariant.idle (gains_at file k _ _ at gains));
    }

pub returns-clause-covered : goal.returns-clause-covered
returns-clause-covered c =
    let file = c.args.file.now in
    let all : length (its_probes file) ≤ c.loop-k.k = omega (arith, c.loop-k-test.false, length-map file.probes order_of, ap length c.as_slice-probe-items.ensures) in
    subst (λ l. IsCovered (served_lines file) (flipped_orders file.edges) l c.loop-k.rounds.items 1) (take_all c.loop-k.k (its_probes file) all) c.loop-k.invariant.covered

pub cover_one-requires-clause-laid : goal.cover_one-requires-clause-laid
cover_one-requires-clause-laid c = c.requires.laid

pub cover_one-requires-clause-many : goal.cover_one-requires-clause-many
cover_one-requires-clause-many c = c.loop-k.invariant.many

pub cover_one-requires-clause-closed : goal.cover_one-requires-clause-closed
cover_one-requires-clause-closed c = c.loop-k.invariant.closed

pub returns-clause-many : goal.returns-clause-many
returns-clause-many c = c.loop-k.invariant.many
