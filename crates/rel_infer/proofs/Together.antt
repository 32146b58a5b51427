-- What the parts of an inference give together.
use Rattle.std.proofs.Common.{◌≡◌, ◌↔◌, ◌==◌, ◌||◌, min, max, ℕ, Bool, List, [], ◌++◌, map, take, length, Option, is_none, count_by, sym, ap, ap₂, ◌∙◌, subst, arith, All, Contains, IsTrue}
use Rattle.std.proofs.lemmas.List.{map-append}
use Rattle.relationships.specs.declared.fate.Fate.{Fate}
use Rattle.relationships.specs.declared.given.Given.{Given}
use Rattle.relationships.specs.declared.label.End.{End}
use Rattle.relationships.specs.declared.walk.Walk.{Walk}
use Rattle.relationships.specs.Relationship.{Labelling, labels_of, ValleyFree, Serves}
use Rattle.relationships.specs.Graph.{Edge, edge_of, edges, degree, support, labelling}
use Rattle.relationships.specs.Evidence.{Numbered, paths_of, kept_from}
use Rattle.relationships.specs.Fates.{walk_of}
use Rattle.relationships.specs.Preference.{ServeEitherWay, NoneLeftOut, wanted}
use Rattle.relationships.specs.Selection.{KeepsFrom, IsForced}
use Rattle.relationships.specs.Checking.{Claim, MarksHold, kept_of, claimed_labels}
use Rattle.relationships.specs.Marking.{claims_of, orders_of}
use Rattle.relationships.specs.Givens.{AgreesWith, returns}
use Rattle.relationships.specs.GivenEvidence.{LostFromWith, MarksHoldWith}
use Rattle.relationships.proofs.Checked.{reading, reading_serves}
use Rattle.relationships.proofs.Preferring.{preference_law}
use Rattle.relationships.proofs.Neighbours.{edge_law}
use Rattle.relationships.proofs.GivenLemmas.{free_agrees, all_parts, given_serving_law}
use Rattle.tor_arena.proofs.Gets.{Contains-map}
use Rattle.relationships.proofs.GivenPeerings.{edge_among, given_relabelling_law, given_peers_law}
use Rattle.as_graph.specs.Paths.{paths_at}
use Rattle.tor_clauses.specs.Formulas.{demands_of, numbered, numbered_of}
use Rattle.tor_clauses.proofs.Exacts.{numbered_paths}
use Rattle.result_rules.specs.File.{claim_on}
use Rattle.rel_infer.specs.declared.inferring.Inferred.{Inferred}
use Rattle.rel_infer.specs.Finding.{AreLabelsBy, AreInferredIn}
use Rattle.rel_infer.specs.GivenInference.{AreLabelsWith, IsInferredWith, PeerEitherWayWith, LeaveNoneOutWith}
use Rattle.rel_infer.proofs.LineLemmas.{claims_are, labelling_is, supports_are, each_line, pairs_same}
use Rattle.rel_infer.proofs.KeptEdges.{kept_edge}

-- how many of these edges hold the AS
abbrev pub degree_by : List Edge → ℕ → ℕ
degree_by es a = count_by (λ (e : Edge). (e.0 == a) || (e.1 == a)) es

-- labels by votes and by what is served, with the givens
pub labels_with : (givens : List Given) (ratio : ℕ) (paths kept : List (List ℕ)) (L : Labelling) → ((e : Edge) → Contains (edges kept) e → Contains (edges paths) e) →
    All (ValleyFree L) (returns paths givens ++ kept) → AreLabelsBy (degree paths) ratio (edges paths) (returns paths givens ++ kept) kept L → AreLabelsWith givens ratio paths kept L
labels_with givens ratio paths kept L among free by =
    let all = returns paths givens ++ kept in
    let serves : Serves by.providers all =
    preference_law all (wanted (degree paths) kept) by.order by.providers (reading End.Low L, reading_serves End.Low L all free) by.preferred
    (λ e c. (by.settling.each e).0 (edge_among givens paths kept among e c)) in
    let agrees : AgreesWith givens paths (labels_of by.providers) = (((given_serving_law givens paths).1 by.providers kept).1 serves).0 in
    record {
      order = by.order;
      settling = by.settling;
      providers = by.providers;
      preferred = by.preferred;
      relabelled = (given_relabelling_law givens paths kept (degree paths) ratio by.providers L agrees).0 by.relabelled;
    }

-- the flags are those of these walks, and the graph has the edges of the paths
module _ (givens : List Given) (ratio : ℕ) (paths graph : List (List ℕ)) (first : List ℕ) (begun : List Fate) (i : Inferred) (walks : List (Option Walk))
    (same_edges : edges graph ≡ edges paths) (front : take (length paths) graph ≡ paths) (at_first : paths_at graph first ≡ returns paths givens)
    (are : AreInferredIn ratio graph first (length paths) begun i) (flags : map is_none (map walk_of i.fates) ≡ map is_none walks) where
  abbrev kept : Numbered
  kept = kept_of paths walks

  abbrev served : List (List ℕ)
  served = returns paths givens ++ paths_of kept

  abbrev L : Labelling
  L = claimed_labels (map claim_on i.found.edges)

  same_kept : kept_of (take (length paths) graph) (map walk_of i.fates) ≡ kept
  same_kept = ap₂ (λ (ps : List (List ℕ)) (ks : List Bool). kept_from 1 ps ks) front flags

  all_kept : numbered_of graph are.formula ≡ numbered graph first ++ kept
  all_kept = are.all_kept ∙ ap (λ (ks : Numbered). numbered graph first ++ ks) same_kept

  demands : demands_of graph are.formula ≡ served
  demands =
      sym (numbered_paths graph are.formula.paths) ∙ ap paths_of all_kept ∙ map-append (λ (p : ℕ × List ℕ). p.1) (numbered graph first) kept ∙
      ap (λ (ps : List (List ℕ)). ps ++ paths_of kept) (numbered_paths graph first ∙ at_first)

  counted : paths_at graph are.real ≡ paths_of kept
  counted = are.counted ∙ ap paths_of same_kept

  abbrev supports : List ℕ
  supports = map (support (paths_at graph are.real)) (edges graph)

  same_labels : labelling (edges graph) are.found.labels ≡ L
  same_labels = labelling_is (edges graph) are.found.labels are.found.marks supports i.found.edges are.found.lines

  same_claims : claims_of (edges graph) are.found.labels are.found.marks ≡ map claim_on i.found.edges
  same_claims = claims_are (edges graph) are.found.labels are.found.marks supports i.found.edges are.found.lines

  among : (e : Edge) → Contains (edges (paths_of kept)) e → Contains (edges paths) e
  among = kept_edge 1 paths (map is_none walks)

  listed : map {B = Edge} (λ line. (line.low, line.high)) i.found.edges ≡ edges paths
  listed = are.found.lines.its_edges ∙ same_edges

  free : All (ValleyFree L) served
  free = subst (All (ValleyFree L)) demands (subst (λ (l : Labelling). All (ValleyFree l) (demands_of graph are.formula)) same_labels are.found.free)

  labels_by : AreLabelsBy (degree paths) ratio (edges paths) served (paths_of kept) L
  labels_by =
      subst (λ es. AreLabelsBy (degree_by es) ratio es served (paths_of kept) L) same_edges
      (subst (λ (l : Labelling). AreLabelsBy (degree graph) ratio (edges graph) served (paths_of kept) l) same_labels
      (subst (λ ps. AreLabelsBy (degree graph) ratio (edges graph) served ps (labelling (edges graph) are.found.labels)) counted
      (subst (λ ps. AreLabelsBy (degree graph) ratio (edges graph) ps (paths_at graph are.real) (labelling (edges graph) are.found.labels)) demands are.found.are_labels)))

  agrees : AgreesWith givens paths L
  agrees = free_agrees paths L givens (all_parts (ValleyFree L) (returns paths givens) (paths_of kept) free).0

  borne : MarksHold (numbered graph first ++ kept) (map claim_on i.found.edges) i.found.whys (orders_of i.found.probes)
  borne =
      subst (λ A. MarksHold A (map claim_on i.found.edges) i.found.whys (orders_of i.found.probes)) all_kept
      (subst (λ l. MarksHold (numbered_of graph are.formula) l i.found.whys (orders_of i.found.probes)) same_claims are.found.borne)

  pub marks_in : MarksHold (numbered graph first ++ kept_of paths walks) (map claim_on i.found.edges) i.found.whys (orders_of i.found.probes)
  marks_in = borne

  pub kept_among : (e : Edge) → Contains (edges (paths_of (kept_of paths walks))) e → Contains (edges paths) e
  kept_among = among

  -- each claim is of an edge
  pub claims_on : (c : Claim) → Contains (map claim_on i.found.edges) c → Contains (edges paths) (edge_of c.low c.high)
  claims_on c there =
      let pairs : map (λ (c : Claim). (c.low, c.high)) (map claim_on i.found.edges) ≡ edges paths = pairs_same i.found.edges ∙ listed in
      let on : Contains (edges paths) (c.low, c.high) =
      subst (λ (es : List Edge). Contains es (c.low, c.high)) pairs (Contains-map (λ (c : Claim). (c.low, c.high)) (map claim_on i.found.edges) c there) in
      let (a, b, n, is) = ((edge_law paths).1 (c.low, c.high)).0 on in
      let low : c.low ≡ min a b = ap (λ (e : Edge). e.0) is in
      let high : c.high ≡ max a b = ap (λ (e : Edge). e.1) is in
      let e₁ : c.low ≡ min c.low c.high = omega (arith, low, high) in
      let e₂ : c.high ≡ max c.low c.high = omega (arith, low, high) in
      subst (Contains (edges paths)) (pair e₁ e₂) on
    where
      pair : {a b c d : ℕ} → a ≡ c → b ≡ d → ◌≡◌ {A = Edge} (a, b) (c, d)
      pair e f = cc

  pub inferred : (whys : List Walk) → LostFromWith givens 1 [] paths walks → MarksHoldWith givens (kept_of paths walks) (map claim_on i.found.edges) whys (orders_of i.found.probes) →
      IsInferredWith givens ratio paths walks i.found.edges whys (orders_of i.found.probes)
  inferred whys lost evidence = record {
    kept = subst (λ ks. KeepsFrom (returns paths givens) paths ks) flags
        (subst (λ ps. KeepsFrom ps paths (map is_none (map walk_of i.fates))) at_first
        (subst (λ ps. KeepsFrom (paths_at graph first) ps (map is_none (map walk_of i.fates))) front are.kept));
    lost = lost;
    edges_listed = listed;
    labels = labels_with givens ratio paths (paths_of kept) L among free labels_by;
    agrees = agrees;
    valley_free = (all_parts (ValleyFree L) (returns paths givens) (paths_of kept) free).1;
    supports = supports_are (support (paths_of kept)) (edges paths) i.found.edges listed
        (are.found.lines.its_supports ∙ ap₂ (λ (ps : List (List ℕ)) (es : List Edge). map (support ps) es) counted same_edges);
    forced = each_line (λ c. IsTrue c.forced ↔ IsForced served c.low c.high) i.found.edges
        (subst (λ ps. All (λ c. IsTrue c.forced ↔ IsForced ps c.low c.high) (map claim_on i.found.edges)) demands
        (subst (λ l. All (λ c. IsTrue c.forced ↔ IsForced (demands_of graph are.formula) c.low c.high) l) same_claims are.found.exact));
    evidence = evidence;
  }

  pub either_way : PeerEitherWayWith givens paths walks i.found.edges
  either_way =
      (given_peers_law givens paths (paths_of kept) L among).0
      (subst (ServeEitherWay L) demands (subst (λ (l : Labelling). ServeEitherWay l (demands_of graph are.formula)) same_labels are.found.either_way))

  pub none_left_out : LeaveNoneOutWith givens ratio paths walks i.found.edges
  none_left_out =
      (given_peers_law givens paths (paths_of kept) L among).1 (degree paths) ratio agrees
      (subst (λ es. NoneLeftOut (degree_by es) ratio served es L) same_edges
      (subst (λ (l : Labelling). NoneLeftOut (degree graph) ratio served (edges graph) l) same_labels
      (subst (λ ps. NoneLeftOut (degree graph) ratio ps (edges graph) (labelling (edges graph) are.found.labels)) demands are.found.none_left_out)))
