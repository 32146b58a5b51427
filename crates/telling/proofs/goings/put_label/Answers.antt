use Rattle.std.proofs.Common.{◌≡◌, ℕ, Some, slice_get, refl, sym, ap, ◌∙◌, arith}
use Rattle.std.proofs.lemmas.Option.{slice_get_within, get_or_from_slice_get, same_Some}
use Rattle.relationships.specs.Graph.{edge_of, is_same}
use Rattle.telling.proofs.PathLemmas.{labels_put, labels_pass, same_itself}
use Rattle.telling.proofs.goings.put_label.Goals as goal

pub returns-in_default-clause-put : goal.returns-in_default-clause-put
returns-in_default-clause-put c file k accepts at have =
    labels_pass file accepts k c.args.line.now at c.args.table.now c.args.labels.now.items c.in_default.ensures.found have

pub returns-clause-put : goal.returns-clause-put
returns-clause-put c file k accepts at have =
    let table = c.args.table.now in
    let place = c.in-Some.place in
    let line = c.args.line.now in
    let e = edge_of line.low line.high in
    let here : slice_get table place ≡ Some e = c.in-Some.ensures.found in
    let lt = slice_get_within table place e here in
    let only : (j : ℕ) → slice_get table j ≡ Some e → j ≡ place = λ j is.
    let inside = slice_get_within table j e is in
    let same = ap (is_same e) (get_or_from_slice_get table j e (0, 0) is) ∙ same_itself e in
    same_Some j place (sym ((c.in-Some.ensures.only j inside).0 same)) in
    labels_put file accepts k line at table c.args.labels.now.items _ place refl (omega (arith, lt, c.requires.many)) here only have
