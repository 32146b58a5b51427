use Rattle.std.proofs.Common.{not, get_or, refl, sym, ap, ◌∙◌, arith, subst, Contains}
use Rattle.std.proofs.lemmas.Bool.{false≢true}
use Rattle.std.proofs.lemmas.List.Elements.{Contains-get_or}
use Rattle.std.proofs.lemmas.Option.{slice_get_within}
use Rattle.line_rules.proofs.Consistencies.{agreeing_exactly, batch-more}
use Rattle.line_rules.proofs.RuledOut.{agrees_within, taken_back}
use Rattle.line_rules.proofs.marks.batch.Batch.try_join.Goals as goal

pub has_clash-requires-clause-found : goal.has_clash-requires-clause-found
has_clash-requires-clause-found c = λ k d lt.
    let found = subst (λ l. Contains l (get_or c.as_slice.result.now k d)) c.as_slice.ensures (Contains-get_or c.as_slice.result.now k d lt) in
    let visited = (c.in_ok-reach.ensures.noted (get_or c.as_slice.result.now k d)).0 found in
    let within = slice_get_within c.reach.new.rounds.items (get_or c.as_slice.result.now k d) c.args.self.now.round visited.0 in
    omega (arith, within, c.in_ok-reach.ensures.many, c.requires.many, c.requires.same)

pub returns-then-not-has_clash-clause-batch : goal.returns-then-not-has_clash-clause-batch
returns-then-not-has_clash-clause-batch c =
    let implied = c.args.flips.now.implied in
    let conflicting = c.args.flips.now.conflicting in
    let old = c.args.self.now in
    let new = c.reach.new.rounds.items in
    let found = c.reach.new.found in
    let reach = c.in_ok-reach.ensures in
    let agrees = agreeing_exactly implied conflicting c.args.start old.round old.rounds.items new found c.has_clash.result c.requires.both_ways c.requires.batch.agreeing
    reach (rw c.as_slice.ensures at c.has_clash.ensures) in
    batch-more implied conflicting c.args.start old.round old.rounds.items new found c.requires.batch reach (agrees.0 (ap not c.if-not-has_clash.true))

pub returns-then-not-has_clash-clause-agrees : goal.returns-then-not-has_clash-clause-agrees
returns-then-not-has_clash-clause-agrees c = λ t.
    let implied = c.args.flips.now.implied in
    let conflicting = c.args.flips.now.conflicting in
    let old = c.args.self.now in
    let new = c.reach.new.rounds.items in
    let found = c.reach.new.found in
    let reach = c.in_ok-reach.ensures in
    let agrees = agreeing_exactly implied conflicting c.args.start old.round old.rounds.items new found c.has_clash.result c.requires.both_ways c.requires.batch.agreeing
    reach (rw c.as_slice.ensures at c.has_clash.ensures) in
    agrees_within implied conflicting c.args.start old.round old.rounds.items new found reach (agrees.0 (ap not c.if-not-has_clash.true))

pub size_of-requires-clause-found : goal.size_of-requires-clause-found
size_of-requires-clause-found c = λ k d lt.
    let found = subst (λ l. Contains l (get_or c.as_slice-2.result.now k d)) c.as_slice-2.ensures (Contains-get_or c.as_slice-2.result.now k d lt) in
    let visited = (c.in_ok-reach.ensures.noted (get_or c.as_slice-2.result.now k d)).0 found in
    let within = slice_get_within c.reach.new.rounds.items (get_or c.as_slice-2.result.now k d) c.args.self.now.round visited.0 in
    omega (arith, within, c.in_ok-reach.ensures.many, c.requires.many)

pub forget-requires : goal.forget-requires
forget-requires c = λ k d lt.
    let found = subst (λ l. Contains l (get_or c.as_slice-3.result.now k d)) c.as_slice-3.ensures (Contains-get_or c.as_slice-3.result.now k d lt) in
    let visited = (c.in_ok-reach.ensures.noted (get_or c.as_slice-3.result.now k d)).0 found in
    slice_get_within c.reach.new.rounds.items (get_or c.as_slice-3.result.now k d) c.args.self.now.round visited.0

pub returns-clause-batch : goal.returns-clause-batch
returns-clause-batch c =
    taken_back c.args.flips.now.implied c.args.flips.now.conflicting c.args.start c.args.self.now.round c.args.self.now.rounds.items c.reach.new.rounds.items c.forget.new.rounds.items
    c.reach.new.found c.requires.round c.in_ok-reach.ensures (rw c.as_slice-3.ensures at c.forget.ensures) c.requires.batch

pub reach-requires-clause-start : goal.reach-requires-clause-start
reach-requires-clause-start c = c.requires.start

pub reach-requires-clause-many : goal.reach-requires-clause-many
reach-requires-clause-many c = c.requires.many

pub reach-requires-clause-inside : goal.reach-requires-clause-inside
reach-requires-clause-inside c = c.requires.inside

pub reach-requires-clause-closed : goal.reach-requires-clause-closed
reach-requires-clause-closed c = c.requires.batch.closed

pub has_clash-requires-clause-inside : goal.has_clash-requires-clause-inside
has_clash-requires-clause-inside c = c.requires.conflicts

pub has_clash-requires-clause-many : goal.has_clash-requires-clause-many
has_clash-requires-clause-many c = c.in_ok-reach.ensures.many ∙ c.requires.many ∙ sym c.requires.same

pub size_of-requires-clause-same : goal.size_of-requires-clause-same
size_of-requires-clause-same c = c.requires.same

pub returns-then-not-has_clash-clause-round : goal.returns-then-not-has_clash-clause-round
returns-then-not-has_clash-clause-round c = refl

pub returns-then-not-has_clash-clause-ruled : goal.returns-then-not-has_clash-clause-ruled
returns-then-not-has_clash-clause-ruled c = refl

pub returns-then-not-has_clash-clause-many : goal.returns-then-not-has_clash-clause-many
returns-then-not-has_clash-clause-many c = c.in_ok-reach.ensures.many ∙ c.requires.many

pub returns-clause-round : goal.returns-clause-round
returns-clause-round c = refl

pub returns-clause-ruled : goal.returns-clause-ruled
returns-clause-ruled c = refl

pub returns-clause-many : goal.returns-clause-many
returns-clause-many c = c.forget.ensures.many ∙ c.in_ok-reach.ensures.many ∙ c.requires.many

pub returns-clause-agrees : goal.returns-clause-agrees
returns-clause-agrees c = λ t. absurd (false≢true t)
