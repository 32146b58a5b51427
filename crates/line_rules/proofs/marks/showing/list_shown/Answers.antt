use Rattle.std.proofs.Common.{◌≤◌, ◌++◌, false, take, length, replicate, subst, sym, ap, ◌∙◌, arith}
use Rattle.std.proofs.lemmas.List.{length-replicate, take_all}
use Rattle.result_rules.specs.File.{shown_orders}
use Rattle.line_rules.specs.Serving.{IsShownBy}
use Rattle.tor_arena.proofs.Gets.{take_get}
use Rattle.line_rules.proofs.Showings.{orders_more, shown-none}
use Rattle.line_rules.proofs.marks.showing.list_shown.Goals as goal

pub loop-place-preserved : goal.loop-place-preserved
loop-place-preserved c =
    let file = c.args.file.now in
    let i = c.loop-place.place in
    let item = c.walk_at-walk.ensures in
    let shown = rw c.as_slice.ensures at c.show_last.ensures.shown in
    record {
      many = c.show_last.ensures.many ∙ ap length c.as_slice.ensures;
      shown = subst (λ l. IsShownBy file.edges l c.show_last.new.shown.items) (sym (ap shown_orders (take_get file.whys i c.walk_at-walk.result item)
          ∙ orders_more (take i file.whys) c.walk_at-walk.result))
          (shown (shown_orders (take i file.whys)) c.loop-place.invariant.shown);
    }

pub returns-clause-shown : goal.returns-clause-shown
returns-clause-shown c =
    let file = c.args.file.now in
    let all : length file.whys ≤ c.loop-place.place = omega (arith, c.loop-place-test.false, c.len-place-end.ensures.length) in
    subst (λ l. IsShownBy file.edges (shown_orders l) c.loop-place.shown.items) (take_all c.loop-place.place file.whys all) c.loop-place.invariant.shown

pub show_last-requires-clause-table : goal.show_last-requires-clause-table
show_last-requires-clause-table c = rw c.as_slice.ensures c.requires.table

pub show_last-requires-clause-few : goal.show_last-requires-clause-few
show_last-requires-clause-few c = rw c.as_slice.ensures c.requires.few

pub show_last-requires-clause-apart : goal.show_last-requires-clause-apart
show_last-requires-clause-apart c = rw c.as_slice.ensures c.requires.apart

pub show_last-requires-clause-many : goal.show_last-requires-clause-many
show_last-requires-clause-many c = rw c.as_slice.ensures c.loop-place.invariant.many

pub returns-clause-many : goal.returns-clause-many
returns-clause-many c = c.loop-place.invariant.many

pub loop-place-init : goal.loop-place-init
loop-place-init c =
    let edges = c.args.file.now.edges in
    let begun = c.in_ok-push_copies.ensures.ok ∙ ap (λ l. l ++ replicate c.len.result false) c.new-shown.ensures in
    record {
      many = ap length begun ∙ length-replicate c.len.result false ∙ c.len.ensures;
      shown = shown-none edges c.push_copies.new.self.items c.len.result begun;
    }

pub walk_at-walk-requires : goal.walk_at-walk-requires
walk_at-walk-requires c = omega (arith, c.loop-place-test.true, c.len-place-end.ensures.length)
