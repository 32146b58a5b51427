-- What meets the rules line by line meets those on paths and edges, and is valid.
use Rattle.std.proofs.Common.{◌∙◌}
use Rattle.tor_arena.proofs.Gets.{Contains-map}
use Rattle.relationships.specs.GivenEvidence.{MeetsAgreeingRules}
use Rattle.relationships.proofs.AgreeingRules.{agreeing_rules_law}
use Rattle.relationships.proofs.Serving.{all_differ_if_distinct}
use Rattle.result_text.specs.declared.file.ResultFile.{ResultFile}
use Rattle.result_rules.specs.declared.rule.Rule.TheVariants.{HeadSound, PathsCleaned, LostRefuted, EdgesListed, LabelsServe, OrdersShown, MarksBorneOut}
use Rattle.result_rules.specs.File.{its_givens, its_paths, its_walks, claim_on, its_claims, shown_orders, its_probes}
use Rattle.result_rules.specs.Rules.{Accepts}
use Rattle.result_rules.specs.Valid.{AcceptanceLaw}
use Rattle.result_rules.proofs.Accepted.{paths_apart, edges_listed, claimed_edges, kept_valley_free}
use Rattle.result_rules.proofs.GivenLines.{name_two, name_once, labels_agree, lost_unserved}
use Rattle.result_rules.proofs.MarkLaws.{marks_are_borne_out, probes_serve}
use Rattle.result_rules.proofs.WalkLaws.{lost_are_refuted, orders_are_shown}

rules_met : (file : ResultFile) → Accepts file →
    MeetsAgreeingRules (its_givens file) (its_paths file) (its_walks file) (its_claims file) file.whys (its_probes file)
rules_met file accepts = record {
  two = name_two file (accepts HeadSound);
  once = name_once file (accepts HeadSound);
  neighbours_differ = all_differ_if_distinct (its_paths file) (paths_apart file (accepts PathsCleaned));
  lost = lost_are_refuted file (accepts LostRefuted);
  each_edge = claimed_edges file.edges ∙ edges_listed file (accepts EdgesListed);
  agrees = labels_agree file (accepts HeadSound) (accepts EdgesListed) (accepts LabelsServe);
  valley_free = kept_valley_free file (accepts LabelsServe);
  marks = record {
    orders = shown_orders file.whys;
    shown = orders_are_shown file (accepts OrdersShown);
    marks = marks_are_borne_out file (accepts MarksBorneOut);
    probes_serve = probes_serve file (accepts MarksBorneOut);
  };
}

pub acceptance_law : AcceptanceLaw
acceptance_law file accepts =
    let law = agreeing_rules_law (its_givens file) (its_paths file) (its_walks file) (its_claims file) file.whys (its_probes file) (rules_met file accepts) in
    record {
      valley_free = kept_valley_free file (accepts LabelsServe);
      agrees = labels_agree file (accepts HeadSound) (accepts EdgesListed) (accepts LabelsServe);
      lost = lost_unserved file (accepts HeadSound) (accepts LostRefuted);
      kept = law.0;
      forced = λ line i. law.1 (claim_on line) (Contains-map claim_on file.edges line i);
      no_peering = λ line i. law.2 (claim_on line) (Contains-map claim_on file.edges line i);
    }
