use Rattle.std.proofs.lemmas.Bool.{both_ways}
use Rattle.result_rules.specs.declared.rule.Rule.TheVariants.{LostRefuted}
use Rattle.line_rules.proofs.LostLines.{asks_lost}
use Rattle.line_rules.proofs.Passing.{asks_more}
use Rattle.rel_checker.proofs.walk_rules.find_unrefuted.Goals as goal

pub returns-then-not-is_lost_rightly : goal.returns-then-not-is_lost_rightly
returns-then-not-is_lost_rightly c =
    let k = asks_lost c.args.file.now c.loop-place.place c.path_line_at-line.result c.path_line_at-line.ensures in
    record {
      within = k.0;
      breach = λ asks. both_ways c.is_lost_rightly.result c.if-not-is_lost_rightly.true (c.is_lost_rightly.ensures.1 (k.1.1 asks));
      before = c.loop-place.invariant;
    }

pub loop-place-preserved : goal.loop-place-preserved
loop-place-preserved c =
    let k = asks_lost c.args.file.now c.loop-place.place c.path_line_at-line.result c.path_line_at-line.ensures in
    asks_more c.args.file.now LostRefuted c.loop-place.place c.loop-place.invariant (k.1.0 (c.is_lost_rightly.ensures.0 c.if-not-is_lost_rightly.false))
