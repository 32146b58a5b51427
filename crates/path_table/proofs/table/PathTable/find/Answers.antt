use Rattle.std.proofs.Common.{◌∙◌, ap}
use Rattle.path_table.specs.Table.{place_of}
use Rattle.path_table.proofs.TableLemmas.{found-at}
use Rattle.path_table.proofs.table.PathTable.find.Goals as goal

pub returns : goal.returns
returns c =
    found-at c.self.inside.paths.rows c.self.inside.counts.items c.args.path.now c.find.result c.self.invariant.same c.self.invariant.once
    c.find.ensures.found c.find.ensures.absent ∙ ap (λ t. place_of t.rows c.args.path.now) c.self.view_is
