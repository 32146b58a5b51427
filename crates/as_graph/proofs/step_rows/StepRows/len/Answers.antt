use Rattle.std.proofs.Common.{◌≡◌, ◌∙◌, ◌-◌, ap, sym, arith, length}
use Rattle.as_graph.proofs.PartedRows.{length-rows_between}
use Rattle.as_graph.proofs.step_rows.StepRows.len.Goals as goal

pub returns : goal.returns
returns c =
    let n : length c.args.self.now ≡ length c.self.inside.bounds.items - 1 = ap length (sym c.self.view_is) ∙ length-rows_between c.self.inside.steps.items c.self.inside.bounds.items in
    let many = c.len.ensures in
    omega (arith, n, many)
