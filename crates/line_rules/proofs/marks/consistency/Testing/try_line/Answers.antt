use Rattle.std.proofs.Common.{◌≡◌, ◌≤◌, ℕ, List, inl, inr, length, refl, sym, ap, ◌∙◌, subst, arith, All}
use Rattle.std.proofs.lemmas.Bool.{false≢true}
use Rattle.relationships.specs.Evidence.{IsTriple}
use Rattle.tor_arena.proofs.Gets.{read_of}
use Rattle.line_rules.specs.Flipping.{flipped_orders, served_lines}
use Rattle.line_rules.proofs.Buildings.{inside_implied, inside_conflicting, flipping_within}
use Rattle.line_rules.proofs.Consistencies.{mutual_conflicts, flips_if_agrees}
use Rattle.line_rules.proofs.TestingLemmas.{flips_at}
use Rattle.line_rules.proofs.marks.consistency.Testing.try_line.Goals as goal

pub try_join-requires-clause-start : goal.try_join-requires-clause-start
try_join-requires-clause-start c =
    flipping_within (flipped_orders c.args.file.now.edges) (IsTriple (served_lines c.args.file.now)) c.args.flips.now.implied c.args.flips.now.conflicting c.in-Some.start _ _
    c.requires.laid.built (rw c.as_slice-2.ensures at c.in-Some.ensures)

pub try_join-requires-clause-inside : goal.try_join-requires-clause-inside
try_join-requires-clause-inside c =
    inside_implied (flipped_orders c.args.file.now.edges) (IsTriple (served_lines c.args.file.now)) c.args.flips.now.implied c.args.flips.now.conflicting c.requires.laid.built

pub try_join-requires-clause-conflicts : goal.try_join-requires-clause-conflicts
try_join-requires-clause-conflicts c =
    inside_conflicting (flipped_orders c.args.file.now.edges) (IsTriple (served_lines c.args.file.now)) c.args.flips.now.implied c.args.flips.now.conflicting c.requires.laid.built

pub try_join-requires-clause-both_ways : goal.try_join-requires-clause-both_ways
try_join-requires-clause-both_ways c =
    mutual_conflicts (flipped_orders c.args.file.now.edges) (served_lines c.args.file.now) c.args.flips.now.implied c.args.flips.now.conflicting c.requires.laid.built

pub returns : goal.returns
returns c =
    let file = c.args.file.now in
    let laid = c.requires.laid in
    let old = c.args.self.now.batch in
    let new = c.try_join.new.self in
    let at = read_of c.as_slice.result.now file.probes c.args.place _ c.as_slice.ensures (omega (arith, c.requires.there, ap length c.as_slice.ensures)) in
    let flips = rw c.as_slice-2.ensures at c.in-Some.ensures in
    let joined = c.in_ok-joined.ensures in
    record {
      rounds = record {
        many = joined.many;
        ruled_many = subst (λ (l : List ℕ). length l ≡ length c.args.flips.now.implied) (sym joined.ruled) c.requires.rounds.ruled_many;
        latest = joined.batch.latest;
        ruled_latest = subst (λ r. All (λ m. m ≤ r) new.ruled.items) (sym joined.round) (subst (λ (l : List ℕ). All (λ m. m ≤ old.round) l) (sym joined.ruled) c.requires.rounds.ruled_latest);
      };
      together = joined.batch;
      failing = refl;
      round = joined.round;
      tested = λ t. inl (flips_at file c.args.place _ at (flips_if_agrees (flipped_orders file.edges) (served_lines file) c.args.flips.now.implied c.args.flips.now.conflicting
          laid.built laid.proper laid.settled c.in-Some.start _ _ flips (joined.agrees t)));
    }

pub start_of-requires-clause-table : goal.start_of-requires-clause-table
start_of-requires-clause-table c = rw c.as_slice-2.ensures c.requires.laid.listed

pub start_of-requires-clause-few : goal.start_of-requires-clause-few
start_of-requires-clause-few c = rw c.as_slice-2.ensures c.requires.laid.few

pub start_of-requires-clause-apart : goal.start_of-requires-clause-apart
start_of-requires-clause-apart c = rw c.as_slice-2.ensures c.requires.laid.apart

pub try_join-requires-clause-many : goal.try_join-requires-clause-many
try_join-requires-clause-many c = c.requires.rounds.many

pub try_join-requires-clause-same : goal.try_join-requires-clause-same
try_join-requires-clause-same c = c.requires.laid.built.conflicting_many ∙ sym c.requires.laid.built.implied_many

pub try_join-requires-clause-round : goal.try_join-requires-clause-round
try_join-requires-clause-round c = c.requires.round

pub try_join-requires-clause-batch : goal.try_join-requires-clause-batch
try_join-requires-clause-batch c = c.requires.batch

pub returns-then-is_behind : goal.returns-then-is_behind
returns-then-is_behind c = record {
  rounds = c.requires.rounds;
  together = c.requires.batch;
  failing = refl;
  round = refl;
  tested = λ t. inr (c.is_behind.ensures.0 c.if-is_behind.true);
}

pub returns-in_default : goal.returns-in_default
returns-in_default c = record {
  rounds = c.requires.rounds;
  together = c.requires.batch;
  failing = refl;
  round = refl;
  tested = λ t. absurd (false≢true t);
}
