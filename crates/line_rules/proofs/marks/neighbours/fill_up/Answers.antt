use Rattle.std.proofs.Common.{◌∷◌, [], ◌++◌, inl, inr, ap, ◌∙◌, arith}
use Rattle.line_rules.proofs.FilledRows.{filled_same, filled_more, filled_all, one_longer}
use Rattle.line_rules.proofs.marks.neighbours.fill_up.Goals as goal

pub loop-alloc-init : goal.loop-alloc-init
loop-alloc-init c = record {
  filled = filled_same c.args.rows.now.items;
  least = omega arith;
  few = inl (omega arith);
}

pub loop-alloc-smaller : goal.loop-alloc-smaller
loop-alloc-smaller c =
    let long = one_longer c.loop-alloc.rows.items c.push.new.self.items (c.in-Ok.ensures.added ∙ ap (λ r. c.loop-alloc.rows.items ++ r ∷ []) c.new.ensures) in
    let test = c.loop-alloc-test.true in
    let len = c.len.ensures in
    omega (arith, long, test, len)

pub loop-alloc-preserved : goal.loop-alloc-preserved
loop-alloc-preserved c =
    let old = c.args.rows.now.items in
    let rows = c.loop-alloc.rows.items in
    let so = c.loop-alloc.invariant in
    let is = c.in-Ok.ensures.added ∙ ap (λ r. rows ++ r ∷ []) c.new.ensures in
    let long = one_longer rows c.push.new.self.items is in
    let test = c.loop-alloc-test.true in
    let len = c.len.ensures in
    let least = so.least in
    record {
      filled = filled_more old rows c.push.new.self.items so.filled so.least is;
      least = omega (arith, long, least);
      few = inr (omega (arith, long, test, len));
    }

pub returns-clause-filled : goal.returns-clause-filled
returns-clause-filled c =
    let so = c.loop-alloc.invariant in
    let test = c.loop-alloc-test.false in
    let len = c.len.ensures in
    filled_all c.args.rows.now.items c.loop-alloc.rows.items c.args.count so.filled so.least so.few (omega (arith, test, len))

pub returns-clause-few : goal.returns-clause-few
returns-clause-few c = c.loop-alloc.invariant.few
