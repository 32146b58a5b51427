use Rattle.std.proofs.Common.{◌≡◌, ◌<◌, List, length, Some, slice_get, get_or, ◌∙◌, ap, arith, length-append, ℕ}
use Rattle.std.proofs.lemmas.Option.{slice_get_read, slice_get_within}
use Rattle.std.proofs.lemmas.List.Elements.{Contains-get_or}
use Rattle.tor_arena.proofs.Gets.{Contains-from_has}
use Rattle.line_rules.proofs.Rounds.{search-start, search-more, search-end}
use Rattle.line_rules.proofs.marks.searching.reach.Goals as goal

-- the edge at this place among those found
found_at : (found xs : List ℕ) (next n k : ℕ) → xs ≡ found → n ≡ length found → next < n → k ≡ get_or xs next k → slice_get found next ≡ Some k
found_at found xs next n k e m lt is = slice_get_read found n next k m lt (is ∙ ap (λ l. get_or l next k) e)

pub loop-next-init : goal.loop-next-init
loop-next-init c =
    search-start c.args.rows.now c.args.start c.args.round c.args.rounds.now.items c.visit.new.rounds.items c.clear.new.self c.visit.new.found c.clear.ensures c.in_ok-visit.ensures

pub of-requires : goal.of-requires
of-requires c =
    let at = found_at c.loop-next.found c.as_slice.result.now c.loop-next.next c.len.result c.index-as_slice-next.result c.as_slice.ensures c.len.ensures c.loop-next-test.true
    c.index-as_slice-next.is in
    let r = c.loop-next.invariant.reached c.index-as_slice-next.result (Contains-from_has c.loop-next.found c.index-as_slice-next.result (c.loop-next.next, at)) in
    omega (arith, slice_get_within c.loop-next.rounds.items c.index-as_slice-next.result c.args.round r.2, c.loop-next.invariant.many, c.requires.many)

pub visit_each-requires : goal.visit_each-requires
visit_each-requires c = λ k d lt.
    let within = c.requires.inside c.index-as_slice-next.result (get_or c.of.result.now k d) (c.of.result.now, c.of.ensures, Contains-get_or c.of.result.now k d lt) in
    omega (arith, within, c.loop-next.invariant.many, c.requires.many)

pub loop-next-preserved : goal.loop-next-preserved
loop-next-preserved c =
    let at = found_at c.loop-next.found c.as_slice.result.now c.loop-next.next c.len.result c.index-as_slice-next.result c.as_slice.ensures c.len.ensures c.loop-next-test.true
    c.index-as_slice-next.is in
    search-more c.args.rows.now c.args.start c.args.round c.loop-next.next c.index-as_slice-next.result c.args.rounds.now.items c.loop-next.rounds.items c.visit_each.new.rounds.items
    c.loop-next.found c.visit_each.new.found c.of.result.now
    c.loop-next.invariant at c.of.ensures c.in_ok-visit_each.ensures

pub loop-next-smaller : goal.loop-next-smaller
loop-next-smaller c =
    let m = c.in_ok-visit_each.ensures in
    omega (arith, m.fewer, ap length m.more, length-append c.loop-next.found m.added, c.loop-next-test.true, c.len.ensures)

pub returns : goal.returns
returns c =
    search-end c.args.rows.now c.args.start c.args.round c.loop-next.next c.args.rounds.now.items c.loop-next.rounds.items c.loop-next.found c.requires.closed c.loop-next.invariant
    (omega (arith, c.loop-next-test.false, c.len.ensures))
