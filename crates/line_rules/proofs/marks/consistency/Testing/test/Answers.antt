use Rattle.std.proofs.Common.{◌<◌, inl, inr, length, refl, sym, ap, ◌∙◌, arith}
use Rattle.std.proofs.lemmas.Bool.{false≢true, both_ways}
use Rattle.relationships.specs.Evidence.{IsTriple}
use Rattle.tor_arena.proofs.Gets.{read_of}
use Rattle.line_rules.specs.Flipping.{flipped_orders, served_lines}
use Rattle.line_rules.proofs.Buildings.{flipping_within}
use Rattle.line_rules.proofs.Consistencies.{flips_if_agrees, agrees_if_flips, unvisited_below}
use Rattle.line_rules.proofs.Firsts.{fails_here}
use Rattle.line_rules.proofs.RuledOut.{begun}
use Rattle.line_rules.proofs.TestingLemmas.{flips_at, test_fails}
use Rattle.line_rules.proofs.marks.consistency.Testing.test.Goals as goal

pub returns-in_default : goal.returns-in_default
returns-in_default c =
    let file = c.args.file.now in
    let laid = c.requires.laid in
    let at = read_of c.as_slice.result.now file.probes c.args.place _ c.as_slice.ensures (omega (arith, c.requires.there, ap length c.as_slice.ensures)) in
    let none = rw c.as_slice-2.ensures at c.in_default.ensures in
    test_fails file c.args.flips.now.implied c.args.flips.now.conflicting c.args.implying.now c.args.place c.args.self.now _
    (λ b. false≢true (sym c.if-is_behind.false ∙ c.is_behind.ensures.1 b)) c.requires.there
    (fails_here file laid.whole c.args.flips.now.implied c.args.flips.now.conflicting laid.built laid.proper laid.settled c.args.place _ at (λ h. none h.0.0 h.0.1))
    c.requires.batch (omega arith) refl

pub rules_out-requires : goal.rules_out-requires
rules_out-requires c =
    let within : c.in-Some.start < length c.args.flips.now.implied =
    flipping_within (flipped_orders c.args.file.now.edges) (IsTriple (served_lines c.args.file.now)) c.args.flips.now.implied c.args.flips.now.conflicting c.in-Some.start _ _
    c.requires.laid.built (rw c.as_slice-2.ensures at c.in-Some.ensures) in
    omega (arith, within, c.requires.batch.ruled_many)

pub returns-then-rules_out : goal.returns-then-rules_out
returns-then-rules_out c =
    let batch = c.args.self.now.batch in
    record {
      batch = c.requires.batch;
      failing = λ h. h;
      keeps = λ k h. h;
      tested = λ t. absurd (false≢true t);
      round = inr (λ t. false≢true t, refl);
      first = λ fresh. absurd (unvisited_below batch.ruled.items batch.round fresh c.in-Some.start (c.rules_out.ensures.0 c.if-rules_out.true));
    }

pub join-requires-clause-start : goal.join-requires-clause-start
join-requires-clause-start c =
    flipping_within (flipped_orders c.args.file.now.edges) (IsTriple (served_lines c.args.file.now)) c.args.flips.now.implied c.args.flips.now.conflicting c.in-Some.start _ _
    c.requires.laid.built (rw c.as_slice-2.ensures at c.in-Some.ensures)

pub returns-then-not-branch : goal.returns-then-not-branch
returns-then-not-branch c =
    let file = c.args.file.now in
    let laid = c.requires.laid in
    let implied = c.args.flips.now.implied in
    let conflicting = c.args.flips.now.conflicting in
    let at = read_of c.as_slice.result.now file.probes c.args.place _ c.as_slice.ensures (omega (arith, c.requires.there, ap length c.as_slice.ensures)) in
    let flips = rw c.as_slice-2.ensures at c.in-Some.ensures in
    let joined = c.in_ok-join.ensures in
    let round = c.begin.ensures.round in
    test_fails file implied conflicting c.args.implying.now c.args.place c.args.self.now _
    (λ b. false≢true (sym c.if-is_behind.false ∙ c.is_behind.ensures.1 b)) c.requires.there
    (fails_here file laid.whole implied conflicting laid.built laid.proper laid.settled c.args.place _ at
    (λ h. both_ways c.in_ok-join.field-0 c.if-not-branch.true
    (joined.agrees.1 (agrees_if_flips (flipped_orders file.edges) (served_lines file) implied conflicting laid.built laid.proper laid.settled c.in-Some.start _ _ flips h.1))))
    (begun implied conflicting c.args.implying.now c.requires.rows c.begin.new.self (c.begin.ensures.begun (length implied) joined.rounds))
    (omega (arith, round, joined.round)) refl

pub returns-else-not-branch : goal.returns-else-not-branch
returns-else-not-branch c =
    let file = c.args.file.now in
    let laid = c.requires.laid in
    let at = read_of c.as_slice.result.now file.probes c.args.place _ c.as_slice.ensures (omega (arith, c.requires.there, ap length c.as_slice.ensures)) in
    let flips = rw c.as_slice-2.ensures at c.in-Some.ensures in
    let joined = c.in_ok-join.ensures in
    record {
      batch = joined.batch c.if-not-branch.false;
      failing = λ h. h;
      keeps = λ k h. h;
      tested = λ t. inl (flips_at file c.args.place _ at (flips_if_agrees (flipped_orders file.edges) (served_lines file) c.args.flips.now.implied c.args.flips.now.conflicting
          laid.built laid.proper laid.settled c.in-Some.start _ _ flips (joined.agrees.0 c.if-not-branch.false)));
      round = inl (refl, omega (arith, joined.round));
      first = λ h. refl;
    }

pub start_of-requires-clause-table : goal.start_of-requires-clause-table
start_of-requires-clause-table c = rw c.as_slice-2.ensures c.requires.laid.listed

pub start_of-requires-clause-few : goal.start_of-requires-clause-few
start_of-requires-clause-few c = rw c.as_slice-2.ensures c.requires.laid.few

pub start_of-requires-clause-apart : goal.start_of-requires-clause-apart
start_of-requires-clause-apart c = rw c.as_slice-2.ensures c.requires.laid.apart

pub join-requires-clause-rows : goal.join-requires-clause-rows
join-requires-clause-rows c = c.requires.rows

pub join-requires-clause-batch : goal.join-requires-clause-batch
join-requires-clause-batch c = c.requires.batch

pub join-requires-clause-free : goal.join-requires-clause-free
join-requires-clause-free c = λ came. false≢true (sym c.if-rules_out.false ∙ c.rules_out.ensures.1 came)

pub begin-requires : goal.begin-requires
begin-requires c = omega (arith, c.requires.room, c.in_ok-join.ensures.round)

pub returns-then-is_behind : goal.returns-then-is_behind
returns-then-is_behind c = record {
  batch = c.requires.batch;
  failing = λ h. h;
  keeps = λ k h. h;
  tested = λ t. inr (c.is_behind.ensures.0 c.if-is_behind.true);
  round = inl (refl, omega arith);
  first = λ h. refl;
}
