use Rattle.std.proofs.Common.{◌≡◌, ◌+◌, ◌≤◌, ◌∙◌, ◌++◌, ◌∷◌, [], fold, length, sym, ap, subst, arith}
use Rattle.relationships.specs.Graph.{edges_on}
use Rattle.line_rules.specs.PathSteps.{AreCodedSteps}
use Rattle.tor_numbers.specs.Edges.{with_edge}
use Rattle.line_rules.proofs.EdgeListing.{IsListing, listing-few, listing-room, listing-more, listing-ends}
use Rattle.line_rules.proofs.edges.edge_rules.add_paths.Goals as goal

pub add_steps-requires-clause-room : goal.add_steps-requires-clause-room
add_steps-requires-clause-room c =
    let line = c.path_line_at-line.result in
    let room = listing-room c.args.file.now c.loop-place.place c.loop-place.table c.loop-place.rows line c.requires.clean c.loop-place.invariant c.path_line_at-line.ensures in
    let same = ap length c.path.ensures in
    omega (arith, room, same)

pub add_row-requires : goal.add_row-requires
add_row-requires c =
    listing-few c.args.file.now.paths c.loop-place.place c.loop-place.table c.loop-place.rows c.loop-place.invariant
    (omega (arith, c.loop-place-test.true, c.len-place-end.ensures.length)) c.len-place-end.ensures.few

pub loop-place-preserved : goal.loop-place-preserved
loop-place-preserved c =
    let file = c.args.file.now in
    let place = c.loop-place.place in
    let line = c.path_line_at-line.result in
    let table : c.add_steps.new.table ≡ fold with_edge c.loop-place.table (edges_on line.path) =
    c.in_ok-add_steps.ensures.edges ∙ ap (λ p. fold with_edge c.loop-place.table (edges_on p)) c.path.ensures in
    let steps = subst (λ p. AreCodedSteps c.add_steps.new.table p c.add_steps.new.steps) c.path.ensures c.in_ok-add_steps.ensures.steps in
    let rows : c.add_row.new.rows ≡ c.loop-place.rows ++ c.add_steps.new.steps ∷ [] =
    c.in_ok-add_row.ensures ∙ ap (λ steps. c.loop-place.rows ++ steps ∷ []) c.as_slice.ensures in
    subst (IsListing file.paths (place + 1) c.add_steps.new.table) (sym rows)
    (listing-more file place c.loop-place.table c.add_steps.new.table c.loop-place.rows line c.add_steps.new.steps c.loop-place.invariant c.path_line_at-line.ensures table steps)

pub returns : goal.returns
returns c =
    let all : length c.args.file.now.paths ≤ c.loop-place.place = omega (arith, c.loop-place-test.false, c.len-place-end.ensures.length) in
    let ends = listing-ends c.args.file.now c.loop-place.place c.loop-place.table c.loop-place.rows c.loop-place.invariant all in
    record { edges = ends.0; steps = ends.1 }
