use Rattle.std.proofs.Common.{not, get_or, ap, sym, ◌∙◌, arith, subst, refl, Contains}
use Rattle.std.proofs.lemmas.Bool.{false≢true}
use Rattle.std.proofs.lemmas.List.Elements.{Contains-get_or}
use Rattle.std.proofs.lemmas.Option.{slice_get_within}
use Rattle.line_rules.proofs.Consistencies.{agreeing_exactly, latest-reach, batch-more}
use Rattle.line_rules.proofs.RuledOut.{agrees_together, agrees_within, out_more}
use Rattle.line_rules.proofs.marks.batch.Batch.join.Goals as goal

pub has_clash-requires-clause-found : goal.has_clash-requires-clause-found
has_clash-requires-clause-found c = λ k d lt.
    let found = subst (λ l. Contains l (get_or c.as_slice.result.now k d)) c.as_slice.ensures (Contains-get_or c.as_slice.result.now k d lt) in
    let visited = (c.in_ok-reach.ensures.noted (get_or c.as_slice.result.now k d)).0 found in
    let within = slice_get_within c.reach.new.rounds.items (get_or c.as_slice.result.now k d) c.args.self.now.round visited.0 in
    omega (arith, within, c.in_ok-reach.ensures.many, c.requires.batch.many, c.requires.rows.same)

pub returns-then-has_clash-clause-rounds : goal.returns-then-has_clash-clause-rounds
returns-then-has_clash-clause-rounds c =
    let old = c.args.self.now in
    record {
      many = c.in_ok-reach.ensures.many ∙ c.requires.batch.many;
      ruled_many = c.requires.batch.ruled_many;
      latest = latest-reach c.args.flips.now.implied c.args.start old.round old.rounds.items c.reach.new.rounds.items c.reach.new.found c.requires.batch.together.latest c.in_ok-reach.ensures;
      ruled_latest = c.requires.batch.out.latest;
    }

pub returns-then-has_clash-clause-agrees : goal.returns-then-has_clash-clause-agrees
returns-then-has_clash-clause-agrees c =
    let implied = c.args.flips.now.implied in
    let conflicting = c.args.flips.now.conflicting in
    let old = c.args.self.now in
    let new = c.reach.new.rounds.items in
    let reach = c.in_ok-reach.ensures in
    let exactly = agreeing_exactly implied conflicting c.args.start old.round old.rounds.items new c.reach.new.found c.has_clash.result c.requires.rows.both_ways c.requires.batch.together.agreeing
    reach (rw c.as_slice.ensures at c.has_clash.ensures) in (
      λ t. absurd (false≢true t),
      λ alone.
          let agrees = exactly.1 (agrees_together implied conflicting c.args.implying.now c.requires.rows c.args.start old.round old.rounds.items new c.reach.new.found old.ruled.items
          c.requires.batch.together c.requires.batch.out c.requires.free reach alone) in
          absurd (false≢true (sym (ap not c.if-has_clash.true) ∙ agrees)),
    )

pub rule_out_around-requires-clause-found : goal.rule_out_around-requires-clause-found
rule_out_around-requires-clause-found c = λ k d lt.
    let found = subst (λ l. Contains l (get_or c.as_slice-2.result.now k d)) c.as_slice-2.ensures (Contains-get_or c.as_slice-2.result.now k d lt) in
    let visited = (c.in_ok-reach.ensures.noted (get_or c.as_slice-2.result.now k d)).0 found in
    let within = slice_get_within c.reach.new.rounds.items (get_or c.as_slice-2.result.now k d) c.args.self.now.round visited.0 in
    omega (arith, within, c.in_ok-reach.ensures.many, c.requires.batch.many)

pub returns-clause-rounds : goal.returns-clause-rounds
returns-clause-rounds c =
    let old = c.args.self.now in
    record {
      many = c.in_ok-reach.ensures.many ∙ c.requires.batch.many;
      ruled_many = c.in_ok-rule_out_around.ensures.many ∙ c.requires.batch.ruled_many;
      latest = latest-reach c.args.flips.now.implied c.args.start old.round old.rounds.items c.reach.new.rounds.items c.reach.new.found c.requires.batch.together.latest c.in_ok-reach.ensures;
      ruled_latest = c.in_ok-rule_out_around.ensures.latest;
    }

pub returns-clause-batch : goal.returns-clause-batch
returns-clause-batch c = λ t.
    let implied = c.args.flips.now.implied in
    let conflicting = c.args.flips.now.conflicting in
    let implying = c.args.implying.now in
    let old = c.args.self.now in
    let new = c.reach.new.rounds.items in
    let found = c.reach.new.found in
    let reach = c.in_ok-reach.ensures in
    let agrees = agreeing_exactly implied conflicting c.args.start old.round old.rounds.items new found c.has_clash.result c.requires.rows.both_ways c.requires.batch.together.agreeing
    reach (rw c.as_slice.ensures at c.has_clash.ensures) in
    record {
      many = reach.many ∙ c.requires.batch.many;
      ruled_many = c.in_ok-rule_out_around.ensures.many ∙ c.requires.batch.ruled_many;
      together = batch-more implied conflicting c.args.start old.round old.rounds.items new found c.requires.batch.together reach (agrees.0 (ap not c.if-has_clash.false));
      out = out_more implied conflicting implying c.requires.rows c.args.start old.round old.rounds.items new found old.ruled.items c.rule_out_around.new.ruled.items c.requires.batch.out reach
          (rw c.as_slice-2.ensures at c.in_ok-rule_out_around.ensures);
    }

pub returns-clause-agrees : goal.returns-clause-agrees
returns-clause-agrees c =
    let implied = c.args.flips.now.implied in
    let conflicting = c.args.flips.now.conflicting in
    let old = c.args.self.now in
    let new = c.reach.new.rounds.items in
    let found = c.reach.new.found in
    let reach = c.in_ok-reach.ensures in
    let agrees = agreeing_exactly implied conflicting c.args.start old.round old.rounds.items new found c.has_clash.result c.requires.rows.both_ways c.requires.batch.together.agreeing
    reach (rw c.as_slice.ensures at c.has_clash.ensures) in (
      λ t. agrees_within implied conflicting c.args.start old.round old.rounds.items new found reach (agrees.0 (ap not c.if-has_clash.false)),
      λ alone. refl,
    )

pub reach-requires-clause-start : goal.reach-requires-clause-start
reach-requires-clause-start c = c.requires.start

pub reach-requires-clause-many : goal.reach-requires-clause-many
reach-requires-clause-many c = c.requires.batch.many

pub reach-requires-clause-inside : goal.reach-requires-clause-inside
reach-requires-clause-inside c = c.requires.rows.inside

pub reach-requires-clause-closed : goal.reach-requires-clause-closed
reach-requires-clause-closed c = c.requires.batch.together.closed

pub has_clash-requires-clause-inside : goal.has_clash-requires-clause-inside
has_clash-requires-clause-inside c = c.requires.rows.conflicts

pub has_clash-requires-clause-many : goal.has_clash-requires-clause-many
has_clash-requires-clause-many c = c.in_ok-reach.ensures.many ∙ c.requires.batch.many ∙ sym c.requires.rows.same

pub returns-then-has_clash-clause-round : goal.returns-then-has_clash-clause-round
returns-then-has_clash-clause-round c = refl

pub returns-then-has_clash-clause-batch : goal.returns-then-has_clash-clause-batch
returns-then-has_clash-clause-batch c = λ t. absurd (false≢true t)

pub rule_out_around-requires-clause-rows : goal.rule_out_around-requires-clause-rows
rule_out_around-requires-clause-rows c = c.requires.rows

pub rule_out_around-requires-clause-many : goal.rule_out_around-requires-clause-many
rule_out_around-requires-clause-many c = c.requires.batch.ruled_many

pub rule_out_around-requires-clause-closed : goal.rule_out_around-requires-clause-closed
rule_out_around-requires-clause-closed c = c.requires.batch.out.closed

pub rule_out_around-requires-clause-latest : goal.rule_out_around-requires-clause-latest
rule_out_around-requires-clause-latest c = c.requires.batch.out.latest

pub returns-clause-round : goal.returns-clause-round
returns-clause-round c = refl
