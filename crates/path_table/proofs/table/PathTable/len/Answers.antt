use Rattle.std.proofs.Common.{length, ap, arith}
use Rattle.path_table.proofs.TableLemmas.{length-counted_by}
use Rattle.path_table.proofs.table.PathTable.len.Goals as goal

pub returns-clause-length : goal.returns-clause-length
returns-clause-length c =
    let many = length-counted_by c.self.inside.paths.rows c.self.inside.counts.items c.self.invariant.same in
    let seen = ap (λ t. length t.rows) c.self.view_is in
    let same = c.self.invariant.same in
    omega (arith, many, seen, same)

pub returns-clause-few : goal.returns-clause-few
returns-clause-few c =
    let many = length-counted_by c.self.inside.paths.rows c.self.inside.counts.items c.self.invariant.same in
    let seen = ap (λ t. length t.rows) c.self.view_is in
    let limit = ap (λ t. t.limit) c.self.view_is in
    let few = c.self.invariant.few in
    omega (arith, many, seen, limit, few)
