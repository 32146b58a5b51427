use Rattle.any_order.proofs.Lackings.{count_departs, same_counts, lack_departs}
use Rattle.any_order.proofs.checking.check_against_any_order.Goals as goal

pub returns-then-line-le-LAST_COUNT : goal.returns-then-line-le-LAST_COUNT
returns-then-line-le-LAST_COUNT c = record {
  verdict = count_departs c.args.file.now c.args.table.now.rows c.args.asides.now c.in-No.line c.in-No.rule c.in-No.ensures.verdict c.if-line-le-LAST_COUNT.true;
}

pub returns-in-Some : goal.returns-in-Some
returns-in-Some c = record {
  verdict =
      let differs = c.in-No.ensures.verdict in
      let same = same_counts c.args.file.now c.args.table.now.rows c.args.asides.now c.in-No.line c.in-No.rule differs c.if-line-le-LAST_COUNT.false in
      lack_departs c.args.file.now c.args.table.now.rows c.args.asides.now c.in-Some.place c.path_line.result c.in-No.rule same c.in-Some.ensures.1 c.path_line.ensures differs.named;
}

pub returns-in-None : goal.returns-in-None
returns-in-None c = record {
  verdict = (
    same_counts c.args.file.now c.args.table.now.rows c.args.asides.now c.in-No.line c.in-No.rule c.in-No.ensures.verdict c.if-line-le-LAST_COUNT.false,
    c.in-None.ensures,
  );
}
