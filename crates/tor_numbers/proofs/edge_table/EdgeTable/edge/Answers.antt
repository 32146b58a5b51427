use Rattle.std.proofs.Common.{◌∙◌, sym, ap, Some}
use Rattle.std.specs.Prelude.{slice_index_or}
use Rattle.relationships.specs.Graph.{Edge}
use Rattle.tor_numbers.proofs.EdgeLists.{edge_read, number_read, is_number}
use Rattle.tor_numbers.proofs.edge_table.EdgeTable.edge.Goals as goal

pub edge_numbered-requires : goal.edge_numbered-requires
edge_numbered-requires c =
    is_number c.self.inside.numbers c.args.place (slice_index_or c.numbers.result.now c.args.place 0) c.self.invariant.1
    (number_read c.self.inside.numbers c.numbers.result.now c.args.self.now c.args.place c.numbers.ensures c.self.view_is c.requires)

pub returns : goal.returns
returns c =
    edge_read c.self.inside.numbers c.numbers.result.now c.args.self.now c.args.place c.numbers.ensures c.self.view_is c.requires ∙
    ap (λ (e : Edge). Some e) (sym c.edge_numbered.ensures)
