use Rattle.std.proofs.Common.{◌≡◌, ◌∙◌, ◌+◌, ◌-◌, ◌<◌, suc, List, ap, ap₂, sym, arith, rules, length, take, slice_index}
use Rattle.std.proofs.lemmas.List.{get_or_default, length-take-le}
use Rattle.tor_arena.specs.RowLists.{rows_between}
use Rattle.tor_arena.proofs.RowLemmas.{bound-le, length-rows_between, parted-cut, rows_between-cut}
use Rattle.tor_arena.proofs.rows.Rows.cut_to.Goals as goal

pub index-requires : goal.index-requires
index-requires g c =
    let n : length c.args.self.now ≡ length c.self.inside.bounds.items - 1 = ap length (sym c.self.view_is) ∙ length-rows_between c.self.inside.items.items c.self.inside.bounds.items in
    let there = c.requires in
    let some : 0 < length c.self.inside.bounds.items = search rules in
    omega (arith, n, there, some)

pub overflow_add-rows : goal.overflow_add-rows
overflow_add-rows g c =
    let n : length c.args.self.now ≡ length c.self.inside.bounds.items - 1 = ap length (sym c.self.view_is) ∙ length-rows_between c.self.inside.items.items c.self.inside.bounds.items in
    let there = c.requires in
    let few = c.self.invariant.0 in
    let short = g.met.I.Index.is_short in
    record { fits = omega (arith, n, there, few, short) }

pub invariant_of-self : goal.invariant_of-self
invariant_of-self g c =
    let items = c.self.inside.items.items in
    let bounds = c.self.inside.bounds.items in
    let rows = c.args.rows in
    let n : length c.args.self.now ≡ length bounds - 1 = ap length (sym c.self.view_is) ∙ length-rows_between items bounds in
    let there = c.requires in
    let few = c.self.invariant.0 in
    let some : 0 < length bounds = search rules in
    let lt : rows < length bounds = omega (arith, n, there, some) in
    let next : rows + 1 ≡ suc rows = omega arith in
    let end : c.index.result.now ≡ slice_index bounds rows = c.index.ensures ∙ get_or_default bounds rows c.index.result.now 0 lt in
    let new_bounds : c.truncate.new.self.items ≡ take (suc rows) bounds = ◌∙◌ {b = take (rows + 1) bounds} c.truncate.ensures.items (ap (λ k. take k bounds) next) in
    let new_items : c.truncate-2.new.self.items ≡ take (slice_index bounds rows) items = ◌∙◌ {b = take c.index.result.now items} c.truncate-2.ensures.items (ap (λ k. take k items) end) in
    let short : length (take (slice_index bounds rows) items) ≡ slice_index bounds rows =
    length-take-le (slice_index bounds rows) items (bound-le bounds (length items) rows c.self.invariant.1 lt) in
    let fewer : length (take (suc rows) bounds) ≡ suc rows = length-take-le (suc rows) bounds (omega (arith, lt)) in
    rw (new_items, new_bounds, short) (
      omega (arith, n, there, few, fewer),
      parted-cut bounds (length items) rows c.self.invariant.1 lt,
    )

pub returns : goal.returns
returns g c =
    let items = c.self.inside.items.items in
    let bounds = c.self.inside.bounds.items in
    let rows = c.args.rows in
    let n : length c.args.self.now ≡ length bounds - 1 = ap length (sym c.self.view_is) ∙ length-rows_between items bounds in
    let there = c.requires in
    let some : 0 < length bounds = search rules in
    let lt : rows < length bounds = omega (arith, n, there, some) in
    let next : rows + 1 ≡ suc rows = omega arith in
    let end : c.index.result.now ≡ slice_index bounds rows = c.index.ensures ∙ get_or_default bounds rows c.index.result.now 0 lt in
    let new_bounds : c.truncate.new.self.items ≡ take (suc rows) bounds = ◌∙◌ {b = take (rows + 1) bounds} c.truncate.ensures.items (ap (λ k. take k bounds) next) in
    let new_items : c.truncate-2.new.self.items ≡ take (slice_index bounds rows) items = ◌∙◌ {b = take c.index.result.now items} c.truncate-2.ensures.items (ap (λ k. take k items) end) in
    ap₂ (λ (is : List g.row.T.Denot) bs. rows_between is bs) new_items new_bounds ∙ rows_between-cut items bounds rows c.self.invariant.1 lt
    ∙ ap (take rows) c.self.view_is
