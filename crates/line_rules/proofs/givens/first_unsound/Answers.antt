use Rattle.std.proofs.Common.{◌<◌, length, get_or, arith}
use Rattle.std.specs.List.{list_any}
use Rattle.std.proofs.lemmas.Option.{slice_get_within}
use Rattle.tor_arena.proofs.Gets.{read_of}
use Rattle.relationships.specs.declared.given.Given.{Given}
use Rattle.relationships.specs.Graph.{edge_of, is_same}
use Rattle.result_rules.specs.File.{its_givens}
use Rattle.line_rules.specs.GivenHeads.{IsNewGivenAt}
use Rattle.line_rules.proofs.GivenFirsts.{was_there, was_not_there, not_new, is_new, known_more}
use Rattle.line_rules.proofs.Lines.{before-more}
use Rattle.line_rules.proofs.givens.first_unsound.Goals as goal

abbrev no_given : Given
no_given = record { over = 0; under = 0 }

pub returns-then-not-branch : goal.returns-then-not-branch
returns-then-not-branch c =
    let items = c.givens_of-given-items.result.now in
    let givens = its_givens c.args.file.now in
    let g = get_or items c.loop-place.place no_given in
    let lt : c.loop-place.place < length items = omega (arith, c.loop-place-test.true) in
    let at = read_of items givens c.loop-place.place no_given c.givens_of-given-items.ensures lt in
    let there = was_there (list_any (is_same (edge_of g.over g.under)) c.loop-place.table) c.in_ok-add.field-0.is_new c.in_ok-add.ensures.is_new c.if-not-branch.true in (
      slice_get_within givens c.loop-place.place g at,
      not_new c.args.file.now c.loop-place.place g at c.loop-place.table c.loop-place.invariant.known there,
      c.loop-place.invariant.new,
    )

pub loop-place-preserved : goal.loop-place-preserved
loop-place-preserved c =
    let items = c.givens_of-given-items.result.now in
    let givens = its_givens c.args.file.now in
    let g = get_or items c.loop-place.place no_given in
    let lt : c.loop-place.place < length items = omega (arith, c.loop-place-test.true) in
    let at = read_of items givens c.loop-place.place no_given c.givens_of-given-items.ensures lt in
    let absent = was_not_there (list_any (is_same (edge_of g.over g.under)) c.loop-place.table) c.in_ok-add.field-0.is_new c.in_ok-add.ensures.is_new c.if-not-branch.false in
    record {
      new = before-more (IsNewGivenAt c.args.file.now) c.loop-place.place c.loop-place.invariant.new
          (is_new c.args.file.now c.loop-place.place g at c.loop-place.table c.loop-place.invariant.known c.if-given.false absent);
      known = known_more c.args.file.now c.loop-place.place g at c.loop-place.table c.loop-place.invariant.known c.add.new.self absent c.in_ok-add.ensures.ok;
    }
