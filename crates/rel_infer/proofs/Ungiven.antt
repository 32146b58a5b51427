-- Where nothing is given, what is inferred under givens is what is inferred.
use Rattle.std.proofs.Common.{◌≢◌, ◌≤◌, ℕ, List, [], Option, None, map, arith, IsTrue}
use Rattle.std.proofs.lemmas.List.Elements.{All-nil}
use Rattle.tor_arena.specs.Limits.{max_ratio}
use Rattle.relationships.specs.declared.given.Given.{Given}
use Rattle.relationships.specs.declared.walk.Walk.{Walk}
use Rattle.relationships.specs.Relationship.{Labelling, labels_of}
use Rattle.relationships.specs.Graph.{degree}
use Rattle.relationships.specs.Evidence.{paths_of}
use Rattle.relationships.specs.Checking.{kept_of, claimed_labels}
use Rattle.relationships.specs.Givens.{AgreesWith, LabelsSay, names_edge}
use Rattle.relationships.proofs.Edges.{peering_law}
use Rattle.relationships.proofs.GivenWalks.{no_givens_law}
use Rattle.relationships.proofs.GivenPeerings.{given_relabelling_law}
use Rattle.path_clean.specs.declared.cleaned.Sets.{Sets}
use Rattle.path_clean.specs.Counts.{CauseCounts}
use Rattle.path_table.specs.Rows.{Counted}
use Rattle.result_text.specs.declared.file.EdgeLine.{EdgeLine}
use Rattle.result_text.specs.declared.file.ResultFile.{ResultFile}
use Rattle.result_rules.specs.File.{its_paths, its_walks, its_probes, claim_on}
use Rattle.result_rules.specs.Rules.{Accepts}
use Rattle.rel_infer.specs.GivenResults.{IsResultWith}
use Rattle.rel_infer.specs.GivenInference.{AreLabelsWith, IsInferredWith, LeaveNoneOutWith}
use Rattle.rel_infer.specs.Results.{AreLabels, IsInferred, IsResultOf}
use Rattle.rel_infer.specs.Peers.{PeerEitherWay, LeaveNoneOut}
use Rattle.rel_infer.specs.SelfAcceptance.{AreTableRows}
use Rattle.rel_infer.proofs.SelfAcceptance.{its_acceptance}

none_given : (paths : List (List ℕ)) (L : Labelling) → AgreesWith [] paths L
none_given paths L = All-nil (λ (g : Given). IsTrue (names_edge paths g) → LabelsSay L g)

labels_alone : (ratio : ℕ) (paths kept : List (List ℕ)) (L : Labelling) → AreLabelsWith [] ratio paths kept L → AreLabels ratio paths kept L
labels_alone ratio paths kept L a = record {
  order = a.order;
  settling = a.settling;
  providers = a.providers;
  preferred = a.preferred;
  relabelled = (given_relabelling_law [] paths kept (degree paths) ratio a.providers L (none_given paths (labels_of a.providers))).1 a.relabelled;
}

labels_too : (ratio : ℕ) (paths kept : List (List ℕ)) (L : Labelling) → AreLabels ratio paths kept L → AreLabelsWith [] ratio paths kept L
labels_too ratio paths kept L a = record {
  order = a.order;
  settling = a.settling;
  providers = a.providers;
  preferred = a.preferred;
  relabelled = (given_relabelling_law [] paths kept (degree paths) ratio a.providers L (none_given paths (labels_of a.providers))).0 a.relabelled;
}

module _ (ratio : ℕ) (paths : List (List ℕ)) (walks : List (Option Walk)) (lines : List EdgeLine) (whys : List Walk) (probes : List (ℕ × ℕ)) where
  abbrev L : Labelling
  L = claimed_labels (map claim_on lines)

  abbrev kept : List (List ℕ)
  kept = paths_of (kept_of paths walks)

  pub inferred_alone : IsInferredWith [] ratio paths walks lines whys probes → IsInferred ratio paths walks lines whys probes
  inferred_alone i = record {
    kept = i.kept;
    lost = (no_givens_law.2 1 [] paths walks).0 i.lost;
    edges_listed = i.edges_listed;
    labels = labels_alone ratio paths kept L i.labels;
    valley_free = i.valley_free;
    supports = i.supports;
    forced = i.forced;
    evidence = (no_givens_law.3 (kept_of paths walks) (map claim_on lines) whys probes).0 i.evidence;
  }

  pub inferred_too : IsInferred ratio paths walks lines whys probes → IsInferredWith [] ratio paths walks lines whys probes
  inferred_too i = record {
    kept = i.kept;
    lost = (no_givens_law.2 1 [] paths walks).1 i.lost;
    edges_listed = i.edges_listed;
    labels = labels_too ratio paths kept L i.labels;
    agrees = none_given paths L;
    valley_free = i.valley_free;
    supports = i.supports;
    forced = i.forced;
    evidence = (no_givens_law.3 (kept_of paths walks) (map claim_on lines) whys probes).1 i.evidence;
  }

  pub alone_either_way : IsInferredWith [] ratio paths walks lines whys probes → PeerEitherWay paths walks lines
  alone_either_way i = peering_law L kept i.valley_free

  pub alone_none_left : LeaveNoneOutWith [] ratio paths walks lines → LeaveNoneOut ratio paths walks lines
  alone_none_left h = λ k d within not_peer held alike stays. h k d within (λ i g lt same. absurd (omega (arith, lt))) not_peer held alike stays

  pub none_left_too : LeaveNoneOut ratio paths walks lines → LeaveNoneOutWith [] ratio paths walks lines
  none_left_too h = λ k d within no_name not_peer held alike stays. h k d within not_peer held alike stays

module _ (sets : Sets) (ratio : ℕ) (rows : List Counted) (counts : CauseCounts) (file : ResultFile) where
  pub result_alone : IsResultWith None sets ratio rows counts file → IsResultOf sets ratio rows counts file
  result_alone r = record {
    its_sets = r.its_sets;
    its_ratio = r.its_ratio;
    its_counts = r.its_counts;
    its_givens = r.its_givens;
    paths = r.paths;
    inferred = inferred_alone ratio (its_paths file) (its_walks file) file.edges file.whys (its_probes file) r.inferred;
    totals = r.totals;
  }

  pub result_too : IsResultOf sets ratio rows counts file → IsResultWith None sets ratio rows counts file
  result_too r = record {
    its_sets = r.its_sets;
    its_ratio = r.its_ratio;
    its_counts = r.its_counts;
    its_givens = r.its_givens;
    paths = r.paths;
    inferred = inferred_too ratio (its_paths file) (its_walks file) file.edges file.whys (its_probes file) r.inferred;
    totals = r.totals;
  }

  pub accepted_alone : ratio ≤ max_ratio → AreTableRows rows → IsResultWith None sets ratio rows counts file → Accepts file
  accepted_alone small are r =
      its_acceptance None sets ratio rows counts file r small are (All-nil (λ (g : Given). g.over ≢ g.under)) (λ i j d lt within. absurd (omega (arith, within)))
