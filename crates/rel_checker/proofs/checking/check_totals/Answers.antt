use Rattle.std.proofs.Common.{refl, sym, ◌∙◌, arith}
use Rattle.std.proofs.lemmas.Bool.{false≢true}
use Rattle.rel_checker.proofs.TotalLemmas.{same_totals}
use Rattle.result_rules.specs.declared.rule.Rule.TheVariants.{TotalsRight}
use Rattle.rel_checker.proofs.Settling.{judged, refused}
use Rattle.rel_checker.proofs.checking.check_totals.Goals as goal

pub returns-else-eq : goal.returns-else-eq
returns-else-eq c =
    judged c.args.file.now c.no.result c.last_line.result 10 c.no.ensures
    (refused c.args.file.now TotalsRight 9 0 c.last_line.result 10 refl c.requires.met
    (record {
      within = omega arith;
      breach = λ e. false≢true (c.if-eq.ensures ∙ same_totals c.args.file.now.totals c.right_totals.result (e ∙ sym c.right_totals.ensures));
      before = λ j lt. absurd (omega arith);
    }) refl c.last_line.ensures)
