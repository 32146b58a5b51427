use Rattle.std.proofs.Common.{get_or, arith}
use Rattle.std.proofs.lemmas.Option.{slice_get-get_or}
use Rattle.as_ranks.proofs.cycles.name_cycles.Goals as goal

pub name_rows-done-requires-clause-inside : goal.name_rows-done-requires-clause-inside
name_rows-done-requires-clause-inside c = λ i row at k d lt.
    let there = (c.in_ok-nodes.ensures.each i row at).there (get_or row k d) (k, slice_get-get_or row k d lt) in
    let aligned = c.requires.aligned in
    let len = c.as_slice.ensures.len in
    omega (arith, there, aligned, len)
