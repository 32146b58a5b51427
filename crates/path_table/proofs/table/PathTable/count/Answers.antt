use Rattle.std.proofs.Common.{◌≡◌, ◌∙◌, ◌<◌, length, set, ap, sym, subst, arith}
use Rattle.std.proofs.lemmas.List.{get_or_default}
use Rattle.tor_arena.specs.Growth.{one_more}
use Rattle.path_table.specs.Inside.{counted_by, IsTable}
use Rattle.path_table.specs.Table.{place_of, with_path}
use Rattle.path_table.proofs.TableLemmas.{again, again-at, there-at, IsTable-again, seen_as}
use Rattle.path_table.proofs.table.PathTable.count.Goals as goal

pub index_mut-times-requires : goal.index_mut-times-requires
index_mut-times-requires c =
    let seen = seen_as c.self.inside.max_paths c.self.inside.numbers c.self.inside.paths.rows c.self.inside.counts.items c.args.self.now c.self.invariant c.self.view_is in
    let rows = seen.rows in
    let there = c.requires in
    let place = c.place.ensures.place in
    omega (arith, rows, there, place)

pub invariant_of-self : goal.invariant_of-self
invariant_of-self c =
    let paths = c.self.inside.paths.rows in
    let times = c.self.inside.counts.items in
    let seen = seen_as c.self.inside.max_paths c.self.inside.numbers paths times c.args.self.now c.self.invariant c.self.view_is in
    let rows = seen.rows in
    let there = c.requires in
    let place = c.place.ensures.place in
    let within : c.place.result < length times = omega (arith, rows, there, place) in
    let was = c.index_mut-times.ensures.value ∙ get_or_default times c.place.result c.index_mut-times.result.now 0 within in
    let counted : set times c.place.result c.saturating_add.result ≡ again times c.args.id =
    ap (set times c.place.result) (c.saturating_add.ensures ∙ ap one_more was) ∙ ap (again times) place in
    subst (IsTable c.self.inside.max_paths c.self.inside.numbers paths) (sym counted) (IsTable-again c.self.inside.max_paths c.self.inside.numbers paths times c.args.id c.self.invariant)

pub returns-clause-counted : goal.returns-clause-counted
returns-clause-counted c =
    let paths = c.self.inside.paths.rows in
    let times = c.self.inside.counts.items in
    let seen = seen_as c.self.inside.max_paths c.self.inside.numbers paths times c.args.self.now c.self.invariant c.self.view_is in
    let rows = seen.rows in
    let there = c.requires in
    let place = c.place.ensures.place in
    let within : c.place.result < length times = omega (arith, rows, there, place) in
    let was = c.index_mut-times.ensures.value ∙ get_or_default times c.place.result c.index_mut-times.result.now 0 within in
    let counted : set times c.place.result c.saturating_add.result ≡ again times c.args.id =
    ap (set times c.place.result) (c.saturating_add.ensures ∙ ap one_more was) ∙ ap (again times) place in
    λ path is.
    let at = there-at paths times path c.args.id c.self.invariant.same (ap (λ t. place_of t.rows path) c.self.view_is ∙ is) in
    let row = again-at paths times path c.args.id c.self.invariant.same c.self.invariant.once at.within at.row in
    ap (counted_by paths) counted ∙ row.rows ∙ ap (λ t. with_path t.rows path) c.self.view_is
