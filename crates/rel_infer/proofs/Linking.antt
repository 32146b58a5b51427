-- What is inferred behind the returns, once its links name givens.
use Rattle.std.proofs.Common.{◌≡◌, ℕ, ◌≤◌, ◌-◌, ◌+◌, if◌then◌else◌, List, [], ◌∷◌, ◌++◌, map, take, drop, length, Option, option_map, is_none, refl, sym}
use Rattle.std.proofs.Common.{ap, ap₂, ◌∙◌, subst, arith, length-append, length-take, length-drop}
use Rattle.std.specs.List.{list_any}
use Rattle.std.proofs.lemmas.List.{length-map, length-take-le, map-append, take-append-drop, take-append-le, take-map}
use Rattle.std.proofs.lemmas.List.Elements.{All-contains, All-from_recursion}
use Rattle.relationships.specs.declared.fate.Fate.{Fate}
use Rattle.relationships.specs.declared.given.Given.{Given}
use Rattle.relationships.specs.declared.walk.Walk.{Walk}
use Rattle.relationships.specs.Graph.{Edge, edge_of, is_same, edges}
use Rattle.relationships.specs.Evidence.{Numbered}
use Rattle.relationships.specs.Fates.{walk_of}
use Rattle.relationships.specs.Selection.{IsServable}
use Rattle.relationships.specs.Checking.{LostFrom, kept_of}
use Rattle.relationships.specs.Marking.{orders_of}
use Rattle.relationships.specs.Givens.{returns, names_edge, NameTwo, NameOnce}
use Rattle.relationships.specs.GivenEvidence.{AreReturnRows, AreUpTo, MarksHoldWith, LostFromWith, with_given_links}
use Rattle.relationships.proofs.GivenLemmas.{same_edges, givens_servable_law}
use Rattle.relationships.proofs.GivenWalks.{no_givens_law, given_marks_law}
use Rattle.result_rules.specs.File.{claim_on}
use Rattle.as_graph.specs.Paths.{paths_at}
use Rattle.tor_clauses.specs.Formulas.{numbered}
use Rattle.tor_clauses.proofs.Exacts.{numbered_paths}
use Rattle.path_select.specs.Behind.{places_from}
use Rattle.path_select.proofs.BehindLemmas.{rows_behind}
use Rattle.rel_infer.specs.declared.inferring.Inferred.{Inferred}
use Rattle.rel_infer.specs.Finding.{AreInferredIn}
use Rattle.rel_infer.specs.GivenInference.{IsInferredWith, PeerEitherWayWith, LeaveNoneOutWith}
use Rattle.rel_infer.specs.Inference.{AreInferredWith}
use Rattle.rel_infer.specs.Returns.{numbers_from, IsUnlinked, IsRelinked, IsLinked}
use Rattle.rel_infer.proofs.Joined.{lost_joined, fates_same}
use Rattle.rel_infer.proofs.KeptPlaces.{keeps_many}
use Rattle.rel_infer.proofs.LinksLeft.{nothing_above, lost_left, lost_changed}
use Rattle.rel_infer.proofs.Relinked.{still_lost}
use Rattle.rel_infer.proofs.ReturnRows.{are_rows, take_front, numbers_below}
use Rattle.rel_infer.proofs.Together.{inferred, either_way, none_left_out, marks_in, kept_among, claims_on}

-- ---- a graph of paths and, behind these, the returns

pub numbers_same : (graph paths : List (List ℕ)) → edges graph ≡ edges paths → (n : ℕ) (givens : List Given) → numbers_from graph n givens ≡ numbers_from paths n givens
numbers_same graph paths e n [] = refl
numbers_same graph paths e n (g ∷ givens) =
    ap (λ (es : List Edge). if list_any (is_same (edge_of g.over g.under)) es then n ∷ numbers_from graph (n + 1) givens else numbers_from graph (n + 1) givens) e ∙
    ap (λ (l : List ℕ). if names_edge paths g then n ∷ l else l) (numbers_same graph paths e (n + 1) givens)

module _ (givens : List Given) (paths graph : List (List ℕ)) (same : graph ≡ paths ++ returns paths givens) where
  pub edges_same : edges graph ≡ edges paths
  edges_same = ap edges same ∙ same_edges paths givens

  pub long : length graph ≡ length paths + length (returns paths givens)
  long = ap length same ∙ length-append paths (returns paths givens)

  pub behind_are : (n : ℕ) → n ≡ length paths → places_from n (length graph - n) ≡ places_from (length paths) (length (returns paths givens))
  behind_are n is = let sum = long in let e : length graph - n ≡ length (returns paths givens) = omega (arith, is, sum) in ap₂ places_from is e

  pub front_is : (n : ℕ) → n ≡ length paths → take n graph ≡ paths
  front_is n is = ap₂ (λ (m : ℕ) (ps : List (List ℕ)). take m ps) is same ∙ take_front paths (returns paths givens)

  pub returns_at : (n : ℕ) (places : List ℕ) → n ≡ length paths → places ≡ places_from n (length graph - n) → paths_at graph places ≡ returns paths givens
  returns_at n places is at = ap₂ paths_at same (at ∙ behind_are n is) ∙ rows_behind paths (returns paths givens)

  pub servable_at : (n : ℕ) (places : List ℕ) → n ≡ length paths → places ≡ places_from n (length graph - n) → NameTwo givens → NameOnce givens → IsServable (paths_at graph places)
  servable_at n places is at two once = subst IsServable (sym (returns_at n places is at)) (givens_servable_law givens paths two once)

  pub unlinked : (ratio n : ℕ) (places : List ℕ) (begun : List Fate) (numbers : List ℕ) (i : Inferred) → n ≡ length paths → places ≡ places_from n (length graph - n) →
      numbers ≡ numbers_from graph 1 givens → AreInferredIn ratio graph places n begun i → IsUnlinked givens ratio paths begun numbers i
  unlinked ratio n places begun numbers i is at numbered are = record {
    numbered = numbered ∙ numbers_same graph paths edges_same 1 givens;
    inferred = subst (λ ps. AreInferredIn ratio ps (places_from (length paths) (length (returns paths givens))) (length paths) begun i) same
        (subst (λ m. AreInferredIn ratio graph (places_from (length paths) (length (returns paths givens))) m begun i) is
        (subst (λ ps. AreInferredIn ratio graph ps n begun i) (at ∙ behind_are n is) are));
  }

-- ---- all of it

module _ (givens : List Given) (ratio : ℕ) (paths : List (List ℕ)) (begun : List Fate) (numbers : List ℕ) (old : Inferred) (un : IsUnlinked givens ratio paths begun numbers old) where
  abbrev graph : List (List ℕ)
  graph = paths ++ returns paths givens

  abbrev first : List ℕ
  first = places_from (length paths) (length (returns paths givens))

  e₁ : edges graph ≡ edges paths
  e₁ = same_edges paths givens

  e₂ : take (length paths) graph ≡ paths
  e₂ = take_front paths (returns paths givens)

  e₃ : paths_at graph first ≡ returns paths givens
  e₃ = rows_behind paths (returns paths givens)

  pub many_fates : length old.fates ≡ length paths
  many_fates =
      sym (length-map old.fates walk_of) ∙ sym (length-map (map walk_of old.fates) is_none) ∙
      keeps_many (paths_at graph first) (take (length paths) graph) (map is_none (map walk_of old.fates)) un.inferred.kept ∙ ap length e₂

  abbrev rows : Numbered
  rows = numbered graph first

  up_to : (some : List (List ℕ)) (walks : List (Option Walk)) → length some ≤ length paths → AreUpTo (length paths) (kept_of some walks)
  up_to some walks le m path c =
      All-contains (λ (p : ℕ × List ℕ). p.0 ≤ length paths) (kept_of some walks) (m, path)
      (All-from_recursion (λ (p : ℕ × List ℕ). p.0 ≤ length paths) (kept_of some walks) (numbers_below (length paths) 1 some (map is_none walks) (omega (arith, le)))) c

  -- ---- the first paths, and those behind them

  few_begun : length begun ≤ length paths
  few_begun =
      let cut = length-take (length begun) old.fates in
      let same = ap length un.inferred.same in
      let many = many_fates in
      omega (arith, cut, same, many)

  -- the walks with which paths are lost: of the first, and of the others
  abbrev before : List (Option Walk)
  before = map walk_of begun

  abbrev behind : List (Option Walk)
  behind = map walk_of (drop (length begun) old.fates)

  all_walks : map walk_of begun ++ map walk_of (drop (length begun) old.fates) ≡ map walk_of old.fates
  all_walks =
      sym (map-append walk_of begun (drop (length begun) old.fates)) ∙
      ap (map walk_of) (ap (λ (fs : List Fate). fs ++ drop (length begun) old.fates) (sym un.inferred.same) ∙ take-append-drop (length begun) old.fates)

  abbrev kept_before : Numbered
  kept_before = kept_of (take (length begun) paths) (map walk_of begun)

  lost_rest : LostFrom (length begun + 1) (numbered (paths ++ returns paths givens) (places_from (length paths) (length (returns paths givens))) ++
      kept_of (take (length begun) paths) (map walk_of begun)) (drop (length begun) paths) (map walk_of (drop (length begun) old.fates))
  lost_rest =
      subst (λ ps. LostFrom (length begun + 1) (rows ++ kept_of ps before) (drop (length begun) paths) behind) (take-append-le (length begun) paths (returns paths givens) few_begun)
      (subst (λ ps. LostFrom (length begun + 1) (rows ++ kept_of (take (length begun) graph) before) (drop (length begun) ps) behind) e₂ un.inferred.lost)

  lost_whole : (after : List (Option Walk)) → LostFromWith givens 1 [] (take (length begun) paths) (map walk_of begun) →
      LostFromWith givens (length begun + 1) (kept_of (take (length begun) paths) (map walk_of begun)) (drop (length begun) paths) after →
      LostFromWith givens 1 [] paths (map walk_of begun ++ after)
  lost_whole after h k =
      let short = length-take-le (length begun) paths few_begun in
      let e : length begun + 1 ≡ 1 + length (take (length begun) paths) = omega (arith, short) in
      subst (λ ps. LostFromWith givens 1 [] ps (before ++ after)) (take-append-drop (length begun) paths)
      (lost_joined givens 1 [] (take (length begun) paths) (drop (length begun) paths) before after h
      (subst (λ n. LostFromWith givens n kept_before (drop (length begun) paths) after) e k))

  module _ (first_lost : LostFromWith givens 1 [] (take (length begun) paths) (map walk_of begun)) where
    -- no link of the first paths' walks is changed
    first_left : map (option_map (with_given_links (length paths) numbers)) (map walk_of begun) ≡ map walk_of begun
    first_left =
        let short = length-take-le (length begun) paths few_begun in
        let few = few_begun in
        lost_left givens (length paths) numbers 1 [] (take (length begun) paths) before (nothing_above (length paths)) (omega (arith, short, few)) first_lost

    pub relinked : (new : Inferred) → IsRelinked (length paths) numbers old new → AreInferredWith givens ratio paths new × (take (length begun) new.fates ≡ begun)
    relinked new re =
        let F = with_given_links (length paths) numbers in
        let G = option_map (with_given_links (length paths) numbers) in
        let walks = map walk_of new.fates in
        let few = few_begun in
        let short = length-take-le (length begun) paths few in
        let rest = length-drop (length begun) paths in
        let flags : map is_none (map walk_of old.fates) ≡ map is_none walks = sym (ap (map is_none) re.fates ∙ still_lost (length paths) numbers (map walk_of old.fates)) in
        let named = subst (λ ns. AreReturnRows givens (length paths) ns rows) (sym un.numbered) (are_rows givens paths) in
        let same_walks : before ++ map G behind ≡ walks =
        ap (λ (ws : List (Option Walk)). ws ++ map G behind) (sym first_left) ∙ sym (map-append G before behind) ∙ ap (map G) all_walks ∙ sym re.fates in
        let lost : LostFromWith givens 1 [] paths walks =
        subst (LostFromWith givens 1 [] paths) same_walks
        (lost_whole (map G behind) first_lost
        (lost_changed givens (length paths) numbers rows named (length begun + 1) kept_before (drop (length begun) paths) behind
        (up_to (take (length begun) paths) before (omega (arith, short, few))) (omega (arith, rest, few)) lost_rest)) in
        let marks : MarksHoldWith givens (kept_of paths walks) (map claim_on old.found.edges) (map F old.found.whys) (orders_of old.found.probes) =
        given_marks_law givens paths (length paths) numbers rows (kept_of paths walks) named (numbered_paths graph first ∙ e₃) (up_to paths walks (omega arith))
        (kept_among givens ratio paths graph first begun old walks e₁ e₂ e₃ un.inferred flags) (map claim_on old.found.edges) old.found.whys (orders_of old.found.probes)
        (claims_on givens ratio paths graph first begun old walks e₁ e₂ e₃ un.inferred flags) (marks_in givens ratio paths graph first begun old walks e₁ e₂ e₃ un.inferred flags) in
        let all = inferred givens ratio paths graph first begun old walks e₁ e₂ e₃ un.inferred flags (map F old.found.whys) lost marks in (
          record {
            many = same_length re ∙ many_fates;
            inferred = subst (λ es. IsInferredWith givens ratio paths walks es new.found.whys (orders_of new.found.probes)) (sym re.edges)
                (subst (λ ps. IsInferredWith givens ratio paths walks old.found.edges new.found.whys (orders_of ps)) (sym re.probes)
                (subst (λ ws. IsInferredWith givens ratio paths walks old.found.edges ws (orders_of old.found.probes)) (sym re.whys) all));
            either_way = subst (PeerEitherWayWith givens paths walks) (sym re.edges) (either_way givens ratio paths graph first begun old walks e₁ e₂ e₃ un.inferred flags);
            none_left_out = subst (LeaveNoneOutWith givens ratio paths walks) (sym re.edges)
                (none_left_out givens ratio paths graph first begun old walks e₁ e₂ e₃ un.inferred flags);
          },
          fates_same (take (length begun) new.fates) begun
              (sym (take-map walk_of (length begun) new.fates) ∙ ap (take (length begun)) re.fates ∙ take-map G (length begun) (map walk_of old.fates) ∙
              ap (map G) (take-map walk_of (length begun) old.fates ∙ ap (map walk_of) un.inferred.same) ∙ first_left),
        )
      where
        same_length : IsRelinked (length paths) numbers old new → length new.fates ≡ length old.fates
        same_length re =
            sym (length-map new.fates walk_of) ∙ ap length re.fates ∙ length-map (map walk_of old.fates) (option_map (with_given_links (length paths) numbers)) ∙ length-map old.fates walk_of

-- where nothing is given no link is changed
pub linked : (givens : List Given) (ratio : ℕ) (paths : List (List ℕ)) (begun : List Fate) (numbers : List ℕ) (old new : Inferred) → IsUnlinked givens ratio paths begun numbers old →
    LostFromWith givens 1 [] (take (length begun) paths) (map walk_of begun) → IsLinked (length paths) givens numbers old new →
    AreInferredWith givens ratio paths new × (take (length begun) new.fates ≡ begun)
linked (g ∷ givens) ratio paths begun numbers old new un lost re = relinked (g ∷ givens) ratio paths begun numbers old un lost new re
linked [] ratio paths begun numbers old new un lost same =
    subst (λ (i : Inferred). AreInferredWith [] ratio paths i × (take (length begun) i.fates ≡ begun)) (sym same) (plain, un.inferred.same)
  where
    e₁ : edges (paths ++ []) ≡ edges paths
    e₁ = same_edges paths []

    e₂ : take (length paths) (paths ++ []) ≡ paths
    e₂ = take_front paths []

    walks_lost : LostFromWith [] 1 [] paths (map walk_of old.fates)
    walks_lost =
        subst (LostFromWith [] 1 [] paths) (all_walks [] ratio paths begun numbers old un)
        (lost_whole [] ratio paths begun numbers old un (map walk_of (drop (length begun) old.fates)) lost
        ((no_givens_law.2 (length begun + 1) (kept_of (take (length begun) paths) (map walk_of begun)) (drop (length begun) paths) (map walk_of (drop (length begun) old.fates))).1
        (lost_rest [] ratio paths begun numbers old un)))

    plain : AreInferredWith [] ratio paths old
    plain = record {
      many = many_fates [] ratio paths begun numbers old un;
      inferred = inferred [] ratio paths (paths ++ []) [] begun old (map walk_of old.fates) e₁ e₂ refl un.inferred refl old.found.whys walks_lost
          ((no_givens_law.3 (kept_of paths (map walk_of old.fates)) (map claim_on old.found.edges) old.found.whys (orders_of old.found.probes)).1
          (marks_in [] ratio paths (paths ++ []) [] begun old (map walk_of old.fates) e₁ e₂ refl un.inferred refl));
      either_way = either_way [] ratio paths (paths ++ []) [] begun old (map walk_of old.fates) e₁ e₂ refl un.inferred refl;
      none_left_out = none_left_out [] ratio paths (paths ++ []) [] begun old (map walk_of old.fates) e₁ e₂ refl un.inferred refl;
    }
