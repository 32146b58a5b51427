-- What becomes of the paths that are offered behind others whose fates are there, and of these, is what becomes of all.
use Rattle.std.proofs.Common.{◌≡◌, ℕ, ◌+◌, ◌≤◌, Bool, List, ◌++◌, length, map, take, drop, is_none, sym, ap, ap₂, ◌∙◌, subst, arith, append_assoc}
use Rattle.std.proofs.lemmas.List.{length-map, length-take-le, map-append, take-append-drop, take-append-le}
use Rattle.relationships.specs.declared.fate.Fate.{Fate}
use Rattle.relationships.specs.Evidence.{Numbered, paths_of, kept_from}
use Rattle.relationships.specs.Fates.{walk_of}
use Rattle.relationships.specs.Selection.{KeepsFrom}
use Rattle.relationships.specs.Checking.{LostFrom, kept_of}
use Rattle.as_graph.specs.Paths.{paths_at}
use Rattle.tor_clauses.specs.Formulas.{demands_of, numbered, numbered_of}
use Rattle.tor_clauses.proofs.Exacts.{numbered_paths}
use Rattle.path_offer.specs.Choices.{Choice}
use Rattle.path_select.specs.Kept.{HasKeptBehind, HasKeptRest}
use Rattle.rel_infer.proofs.Joined.{kept_joined, keeps_joined}

module _ (graph : List (List ℕ)) (count : ℕ) (begun all : List Fate) (first : List ℕ) (old : Choice) (le : length begun ≤ count) (within : count ≤ length graph)
    (same : take (length begun) all ≡ begun) (kept : HasKeptBehind graph first (length begun) old begun) where
  abbrev n : ℕ
  n = length begun

  -- the paths that are offered, and what becomes of them
  abbrev others : List (List ℕ)
  others = drop (length begun) (take count graph)

  abbrev flags : List Bool
  flags = map is_none (map walk_of begun)

  abbrev other_flags : List Bool
  other_flags = map is_none (map walk_of (drop (length begun) all))

  front : take (length begun) (take count graph) ≡ take (length begun) graph
  front =
      let short = length-take-le count graph within in
      sym (take-append-le (length begun) (take count graph) (drop count graph) (omega (arith, short, le))) ∙ ap (take (length begun)) (take-append-drop count graph)

  paths_split : take count graph ≡ take (length begun) graph ++ drop (length begun) (take count graph)
  paths_split = sym (ap (λ (ps : List (List ℕ)). ps ++ drop (length begun) (take count graph)) (sym front) ∙ take-append-drop (length begun) (take count graph))

  flags_split : map is_none (map walk_of all) ≡ map is_none (map walk_of begun) ++ map is_none (map walk_of (drop (length begun) all))
  flags_split =
      ap (λ (fs : List Fate). map is_none (map walk_of fs)) (sym (ap (λ (fs : List Fate). fs ++ drop (length begun) all) (sym same) ∙ take-append-drop (length begun) all)) ∙
      ap (map is_none) (map-append walk_of begun (drop (length begun) all)) ∙ map-append is_none (map walk_of begun) (map walk_of (drop (length begun) all))

  kept_split : kept_of (take count graph) (map walk_of all) ≡
      kept_of (take (length begun) graph) (map walk_of begun) ++ kept_from (length begun + 1) (drop (length begun) (take count graph)) (map is_none (map walk_of (drop (length begun) all)))
  kept_split =
      let short = length-take-le n graph (omega (arith, le, within)) in
      let many = length-map (map walk_of begun) is_none ∙ length-map begun walk_of in
      let e : 1 + length (take n graph) ≡ n + 1 = omega (arith, short) in
      ap₂ (λ (ps : List (List ℕ)) (ks : List Bool). kept_from 1 ps ks) paths_split flags_split ∙
      kept_joined 1 (take n graph) others flags other_flags (many ∙ sym short) ∙ ap (λ m. kept_from 1 (take n graph) flags ++ kept_from m others other_flags) e

  pub kept_all : (new : Choice) → HasKeptRest graph (length begun) old.formula.paths count new all →
      numbered_of graph new.formula ≡ numbered graph first ++ kept_of (take count graph) (map walk_of all)
  kept_all new rest =
      rest ∙ ap (λ (K : Numbered). K ++ kept_from (n + 1) others other_flags) kept ∙
      append_assoc (numbered graph first) (kept_of (take n graph) (map walk_of begun)) (kept_from (n + 1) others other_flags) ∙
      ap (λ (K : Numbered). numbered graph first ++ K) (sym kept_split)

  demands : demands_of graph old.formula ≡ paths_at graph first ++ paths_of (kept_of (take (length begun) graph) (map walk_of begun))
  demands =
      sym (numbered_paths graph old.formula.paths) ∙ ap paths_of kept ∙
      map-append (λ (p : ℕ × List ℕ). p.1) (numbered graph first) (kept_of (take n graph) (map walk_of begun)) ∙
      ap (λ (ps : List (List ℕ)). ps ++ paths_of (kept_of (take n graph) (map walk_of begun))) (numbered_paths graph first)

  pub keeps_all : KeepsFrom (paths_at graph first) (take (length begun) graph) (map is_none (map walk_of begun)) →
      KeepsFrom (demands_of graph old.formula) (drop (length begun) (take count graph)) (map is_none (map walk_of (drop (length begun) all))) →
      KeepsFrom (paths_at graph first) (take count graph) (map is_none (map walk_of all))
  keeps_all keeps rest =
      subst (λ ps. KeepsFrom (paths_at graph first) ps (map is_none (map walk_of all))) (sym paths_split)
      (subst (λ ks. KeepsFrom (paths_at graph first) (take n graph ++ others) ks) (sym flags_split)
      (keeps_joined (paths_at graph first) (take n graph) others 1 flags other_flags keeps (subst (λ ps. KeepsFrom ps others other_flags) demands rest)))

  pub lost_rest : LostFrom (length begun + 1) (numbered_of graph old.formula) (drop (length begun) (take count graph)) (map walk_of (drop (length begun) all)) →
      LostFrom (length begun + 1) (numbered graph first ++ kept_of (take (length begun) graph) (map walk_of begun)) (drop (length begun) (take count graph))
      (map walk_of (drop (length begun) all))
  lost_rest h = subst (λ (K : Numbered). LostFrom (n + 1) K others (map walk_of (drop (length begun) all))) kept h
