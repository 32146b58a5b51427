use Rattle.std.proofs.Common.{◌≡◌, ◌∙◌, ◌-◌, ap, sym, arith, length}
use Rattle.tor_arena.proofs.RowLemmas.{length-rows_between}
use Rattle.tor_arena.proofs.rows.Rows.len.Goals as goal

pub returns-clause-length : goal.returns-clause-length
returns-clause-length g c =
    let n : length c.args.self.now ≡ length c.self.inside.bounds.items - 1 = ap length (sym c.self.view_is) ∙ length-rows_between c.self.inside.items.items c.self.inside.bounds.items in
    let less = c.saturating_sub.ensures in
    let many = c.len.ensures in
    omega (arith, n, less, many)

pub returns-clause-below : goal.returns-clause-below
returns-clause-below g c =
    let n : length c.args.self.now ≡ length c.self.inside.bounds.items - 1 = ap length (sym c.self.view_is) ∙ length-rows_between c.self.inside.items.items c.self.inside.bounds.items in
    let few = c.self.invariant.0 in
    omega (arith, n, few)
