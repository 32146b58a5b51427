use Rattle.std.proofs.Common.{◌∙◌, ◌<◌, ◌≤◌, Some, length, get_or, option_map, slice_get, ap, sym, subst, arith}
use Rattle.std.proofs.lemmas.List.{get_or_default}
use Rattle.path_table.proofs.TableLemmas.{length-counted_by, times-counted_by, some-at}
use Rattle.path_table.proofs.table.PathTable.times.Goals as goal

pub index-requires : goal.index-requires
index-requires c =
    let many = length-counted_by c.self.inside.paths.rows c.self.inside.counts.items c.self.invariant.same in
    let seen = ap (λ t. length t.rows) c.self.view_is in
    let same = c.self.invariant.same in
    let there = c.requires in
    let place = c.place.ensures.place in
    omega (arith, many, seen, same, there, place)

pub returns-clause-times : goal.returns-clause-times
returns-clause-times c =
    let paths = c.self.inside.paths.rows in
    let times = c.self.inside.counts.items in
    let many = length-counted_by paths times c.self.invariant.same in
    let seen = ap (λ t. length t.rows) c.self.view_is in
    let same = c.self.invariant.same in
    let there = c.requires in
    let place = c.place.ensures.place in
    let lt : c.args.id < length paths = omega (arith, many, seen, there) in
    let within : c.place.result < length times = omega (arith, many, seen, same, there, place) in
    ap (λ t. option_map (λ row. row.times) (slice_get t.rows c.args.id)) (sym c.self.view_is) ∙ times-counted_by paths times c.args.id same lt
    ∙ ap (λ n. Some n) (ap (λ k. get_or times k 0) (sym place) ∙ sym (c.index.ensures ∙ get_or_default times c.place.result c.index.result.now 0 within))

pub returns-clause-some : goal.returns-clause-some
returns-clause-some c =
    let times = c.self.inside.counts.items in
    let many = length-counted_by c.self.inside.paths.rows times c.self.invariant.same in
    let seen = ap (λ t. length t.rows) c.self.view_is in
    let same = c.self.invariant.same in
    let there = c.requires in
    let place = c.place.ensures.place in
    let within : c.place.result < length times = omega (arith, many, seen, same, there, place) in
    subst (λ n. 1 ≤ n) (sym (c.index.ensures ∙ get_or_default times c.place.result c.index.result.now 0 within)) (some-at times c.place.result c.self.invariant.some within)
