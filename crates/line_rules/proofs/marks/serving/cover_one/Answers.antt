use Rattle.std.proofs.Common.{length, get_or, sym, ap, ◌∙◌, arith, subst, Contains}
use Rattle.std.proofs.lemmas.Bool.{false≢true}
use Rattle.std.proofs.lemmas.List.{length-map}
use Rattle.std.proofs.lemmas.List.Elements.{Contains-get_or}
use Rattle.std.proofs.lemmas.Option.{slice_get_within}
use Rattle.relationships.specs.Evidence.{IsTriple}
use Rattle.line_rules.specs.Flipping.{flipped, flipped_orders, served_lines}
use Rattle.line_rules.proofs.Buildings.{inside_implied, flipping_within}
use Rattle.line_rules.proofs.Rounds.{closed-reach}
use Rattle.line_rules.proofs.Servings.{covered-none, covered-more, gains_of, finds_of, gains_flipped}
use Rattle.line_rules.proofs.marks.serving.cover_one.Goals as goal

pub returns-in_default-clause-covered : goal.returns-in_default-clause-covered
returns-in_default-clause-covered c = λ earlier covered.
    let lines = c.args.file.now.edges in
    covered-none lines (served_lines c.args.file.now) c.args.flips.now.implied c.args.flips.now.conflicting c.requires.laid.built c.requires.laid.proper c.requires.laid.settled
    earlier (c.args.probe.now.over, c.args.probe.now.under) c.args.rounds.now.items 1 (rw c.as_slice-lines.ensures at c.in_default.ensures) covered

pub returns-in_default-clause-gains : goal.returns-in_default-clause-gains
returns-in_default-clause-gains c = λ earlier covered.
    let lines = c.args.file.now.edges in (
      λ t. absurd (false≢true t),
      λ g. absurd (gains_flipped lines (served_lines c.args.file.now) c.args.flips.now.implied c.args.flips.now.conflicting c.requires.laid.built c.requires.laid.proper c.requires.laid.settled
          earlier (c.args.probe.now.over, c.args.probe.now.under) (rw c.as_slice-lines.ensures at c.in_default.ensures) g),
    )

pub reach-requires-clause-start : goal.reach-requires-clause-start
reach-requires-clause-start c =
    flipping_within (flipped_orders c.args.file.now.edges) (IsTriple (served_lines c.args.file.now)) c.args.flips.now.implied c.args.flips.now.conflicting c.in-Some.start
    c.args.probe.now.over c.args.probe.now.under
    c.requires.laid.built (rw c.as_slice-lines.ensures at c.in-Some.ensures)

pub reach-requires-clause-inside : goal.reach-requires-clause-inside
reach-requires-clause-inside c =
    inside_implied (flipped_orders c.args.file.now.edges) (IsTriple (served_lines c.args.file.now)) c.args.flips.now.implied c.args.flips.now.conflicting c.requires.laid.built

pub has_open-requires : goal.has_open-requires
has_open-requires c = λ k d lt.
    let found = subst (λ l. Contains l (get_or c.as_slice.result.now k d)) c.as_slice.ensures (Contains-get_or c.as_slice.result.now k d lt) in
    let visited = (c.in_ok-reach.ensures.noted (get_or c.as_slice.result.now k d)).0 found in
    let within = slice_get_within c.reach.new.rounds.items (get_or c.as_slice.result.now k d) 1 visited.0 in
    omega (arith, within, c.in_ok-reach.ensures.many, c.requires.many, ap length c.as_slice-lines.ensures)

pub returns-clause-closed : goal.returns-clause-closed
returns-clause-closed c =
    closed-reach c.args.flips.now.implied c.in-Some.start 1 c.args.rounds.now.items c.reach.new.rounds.items c.reach.new.found c.requires.closed c.in_ok-reach.ensures

pub returns-clause-covered : goal.returns-clause-covered
returns-clause-covered c = λ earlier covered.
    let lines = c.args.file.now.edges in
    covered-more lines (served_lines c.args.file.now) c.args.flips.now.implied c.args.flips.now.conflicting c.requires.laid.built c.requires.laid.proper c.requires.laid.settled
    earlier (c.args.probe.now.over, c.args.probe.now.under) c.in-Some.start 1 c.args.rounds.now.items c.reach.new.rounds.items c.reach.new.found
    (rw c.as_slice-lines.ensures at c.in-Some.ensures) c.in_ok-reach.ensures covered

pub returns-clause-gains : goal.returns-clause-gains
returns-clause-gains c = λ earlier covered.
    let lines = c.args.file.now.edges in
    let flips = rw c.as_slice-lines.ensures at c.in-Some.ensures in
    let has = rw (c.as_slice-lines.ensures, c.as_slice.ensures) at c.has_open.ensures in (
      λ t. gains_of lines (served_lines c.args.file.now) c.args.flips.now.implied c.args.flips.now.conflicting c.requires.laid.built c.requires.laid.proper c.requires.laid.settled
          earlier (c.args.probe.now.over, c.args.probe.now.under) c.in-Some.start 1 c.args.rounds.now.items c.reach.new.rounds.items c.reach.new.found flips c.in_ok-reach.ensures covered (has.0 t),
      λ g. has.1 (finds_of lines (served_lines c.args.file.now) c.args.flips.now.implied c.args.flips.now.conflicting c.requires.laid.built c.requires.laid.proper c.requires.laid.settled
          earlier (c.args.probe.now.over, c.args.probe.now.under) c.in-Some.start 1 c.args.rounds.now.items c.reach.new.rounds.items c.reach.new.found flips c.in_ok-reach.ensures covered g),
    )

pub start_of-requires-clause-table : goal.start_of-requires-clause-table
start_of-requires-clause-table c = rw c.as_slice-lines.ensures c.requires.laid.listed

pub start_of-requires-clause-few : goal.start_of-requires-clause-few
start_of-requires-clause-few c = rw c.as_slice-lines.ensures c.requires.laid.few

pub start_of-requires-clause-apart : goal.start_of-requires-clause-apart
start_of-requires-clause-apart c = rw c.as_slice-lines.ensures c.requires.laid.apart

pub reach-requires-clause-many : goal.reach-requires-clause-many
reach-requires-clause-many c = c.requires.many ∙ sym (c.requires.laid.built.implied_many ∙ length-map c.args.file.now.edges flipped)

pub reach-requires-clause-closed : goal.reach-requires-clause-closed
reach-requires-clause-closed c = c.requires.closed

pub returns-in_default-clause-many : goal.returns-in_default-clause-many
returns-in_default-clause-many c = c.requires.many

pub returns-in_default-clause-closed : goal.returns-in_default-clause-closed
returns-in_default-clause-closed c = c.requires.closed

pub returns-clause-many : goal.returns-clause-many
returns-clause-many c = c.in_ok-reach.ensures.many ∙ c.requires.many
