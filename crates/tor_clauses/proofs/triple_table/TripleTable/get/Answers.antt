use Rattle.std.proofs.Common.{Some, sym, ap, ◌∙◌}
use Rattle.tor_arena.proofs.Gets.{slice_get-some}
use Rattle.tor_clauses.proofs.PlacedTriples.{read_triple}
use Rattle.tor_clauses.proofs.triple_table.TripleTable.get.Goals as goal

pub returns : goal.returns
returns c =
    let t = slice_get-some c.args.self.now.triples c.args.place c.requires in
    t.1 ∙ ap Some (sym (read_triple t.0 c.place_of-stands.result c.literals-first.result.0 c.literals-first.result.1 (c.place_of-stands.ensures t.0 t.1) (c.literals-first.ensures t.0 t.1)))
