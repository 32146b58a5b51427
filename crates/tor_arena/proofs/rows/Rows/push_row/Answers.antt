use Rattle.std.proofs.Common.{◌≡◌, ◌∙◌, ◌+◌, ◌-◌, ◌<◌, ap, ap₂, sym, arith, rules, length, length-append, List, [], ◌∷◌, ◌++◌}
use Rattle.tor_arena.specs.RowLists.{rows_between, with_end}
use Rattle.tor_arena.proofs.RowLemmas.{length-with_end, length-rows_between, parted-push, rows_between-push}
use Rattle.tor_arena.proofs.rows.Rows.push_row.Goals as goal

pub invariant_of-self-2 : goal.invariant_of-self-2
invariant_of-self-2 g c =
    let items = c.self.inside.items.items in
    let bounds = c.self.inside.bounds.items in
    let row = c.args.row.now in
    let new_items : c.put_items.new.items.items ≡ items ++ row = search rules in
    let end : c.in-Some-end_behind.end ≡ length items + length row = search rules in
    let new_bounds : c.put_end.new.bounds.items ≡ with_end bounds (length items + length row) = search rules in
    let n : length c.args.self.now ≡ length bounds - 1 = ap length (sym c.self.view_is) ∙ length-rows_between items bounds in
    let below : c.len.result < g.I.Index.LIMIT = search rules in
    let rows = c.len.ensures.length in
    let many : length (items ++ row) ≡ length items + length row = length-append items row in
    let more = length-with_end bounds (length items + length row) in
    rw (new_items, new_bounds, many) (
      omega (arith, n, below, rows, more),
      parted-push bounds (length items) (length row) c.self.invariant.1,
    )

pub returns-clause-added : goal.returns-clause-added
returns-clause-added g c =
    let items = c.self.inside.items.items in
    let bounds = c.self.inside.bounds.items in
    let row = c.args.row.now in
    let new_items : c.put_items.new.items.items ≡ items ++ row = search rules in
    let end : c.in-Some-end_behind.end ≡ length items + length row = search rules in
    let new_bounds : c.put_end.new.bounds.items ≡ with_end bounds (length items + length row) = search rules in
    ap₂ (λ (is : List g.row.T.Denot) bs. rows_between is bs) new_items new_bounds ∙ rows_between-push items row bounds c.self.invariant.1
    ∙ ap (λ rs. rs ++ row ∷ []) c.self.view_is
