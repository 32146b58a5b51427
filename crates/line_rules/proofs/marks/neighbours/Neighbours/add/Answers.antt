use Rattle.std.proofs.Common.{◌≡◌, ◌+◌, length, sym, ap, ◌∙◌, arith}
use Rattle.std.proofs.lemmas.Result.{on_ok_weaker}
use Rattle.line_rules.specs.Neighbours.{with_next}
use Rattle.line_rules.proofs.FilledRows.{many_filled, filled_next}
use Rattle.line_rules.proofs.marks.neighbours.Neighbours.add.Goals as goal

pub returns : goal.returns
returns c =
    let rows = c.self.inside.rows.items in
    let count = c.self.inside.count in
    let all : length c.args.self.now ≡ count = ap length (sym c.self.view_is) ∙ many_filled rows count c.self.invariant in
    let lt = c.requires in
    let place = c.place.ensures.place in
    on_ok_weaker c.push.result
    (λ added. filled_next rows c.fill_up.new.rows.items (c.place.result + 1) count c.args.from c.args.to c.get_mut.result.now c.push.new.self
    c.in_ok-fill_up.ensures.filled (omega (arith, place, lt, all)) c.self.invariant c.get_mut.ensures.value added ∙ ap (λ l. with_next l c.args.from c.args.to) c.self.view_is)
    c.push.ensures.ok
