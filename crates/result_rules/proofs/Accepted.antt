-- What follows where all rules are met.
use Rattle.std.proofs.Common.{◌≡◌, ℕ, suc, ◌+◌, ◌<◌, List, [], ◌∷◌, ◌++◌, length, map, max, refl, sym, ap, ap₂, subst, arith, All, Some, None, is_none, slice_get}
use Rattle.std.specs.List.{AllByRecursion}
use Rattle.std.proofs.lemmas.Option.{slice_get_within, same_Some}
use Rattle.std.proofs.lemmas.List.{map-append}
use Rattle.std.proofs.lemmas.List.Elements.{All-from_recursion}
use Rattle.tor_arena.specs.Distinct.{AllDistinct}
use Rattle.relationships.specs.Relationship.{ValleyFree}
use Rattle.relationships.specs.Graph.{Edge, edges}
use Rattle.relationships.specs.Evidence.{paths_of, kept_from}
use Rattle.relationships.specs.Checking.{Claim}
use Rattle.path_clean.proofs.GraphPaths.{apart_if_cleaned}
use Rattle.relationships.specs.declared.fate.Fate.{Fate}
use Rattle.relationships.specs.declared.fate.Fate.TheVariants.{Kept, Lost}
use Rattle.result_text.specs.declared.file.PathLine.{PathLine}
use Rattle.result_text.specs.declared.file.EdgeLine.{EdgeLine}
use Rattle.result_text.specs.declared.file.ResultFile.{ResultFile}
use Rattle.relationships.specs.Fates.{walk_of}
use Rattle.result_rules.specs.File.{its_paths, kept_before, its_kept, claim_on, its_edges, its_labels}
use Rattle.result_rules.specs.declared.rule.Rule.TheVariants.{PathsCleaned, EdgesListed, LabelsServe}
use Rattle.result_rules.specs.Rules.{IsMet}

-- ---- lists, place by place

pub each_at : {X : Type 0} (P : X → Type 0) (xs : List X) → ((k : ℕ) (x : X) → slice_get xs k ≡ Some x → P x) → AllByRecursion P xs
each_at P [] h = tt
each_at P (x ∷ xs) h = (h 0 x refl, each_at P xs (λ k. h (suc k)))

pub none_some : {X : Type 0} (x : X) → None ≡ Some x → ⊥
none_some x e = cc

pub same_at : (es fs : List Edge) → ((k : ℕ) → k < max (length es) (length fs) → slice_get es k ≡ slice_get fs k) → es ≡ fs
same_at [] [] h = refl
same_at [] (f ∷ fs) h = absurd (none_some f (h 0 (omega arith)))
same_at (e ∷ es) [] h = absurd (none_some e (sym (h 0 (omega arith))))
same_at (e ∷ es) (f ∷ fs) h = ap₂ (λ x xs. x ∷ xs) (same_Some _ _ (h 0 (omega arith))) (same_at es fs (λ k lt. h (suc k) (omega arith)))

pub same_length : {X Y : Type 0} (f : X → Y) (xs : List X) → length (map f xs) ≡ length xs
same_length f [] = refl
same_length f (x ∷ xs) = ap suc (same_length f xs)

-- ---- paths

module _ (file : ResultFile) where
  pub paths_apart : IsMet file PathsCleaned → All AllDistinct (its_paths file)
  paths_apart met = All-from_recursion AllDistinct (its_paths file) (each file.paths (λ k line at. apart_if_cleaned line.path (met k (slice_get_within file.paths k line at) line at).cleaned))
    where
      each : (lines : List PathLine) → ((k : ℕ) (line : PathLine) → slice_get lines k ≡ Some line → AllDistinct line.path) → AllByRecursion AllDistinct (map (λ (p : PathLine). p.path) lines)
      each [] h = tt
      each (line ∷ lines) h = (h 0 line refl, each lines (λ k. h (suc k)))

  pub edges_listed : IsMet file EdgesListed → its_edges file ≡ edges (its_paths file)
  edges_listed met =
      same_at (its_edges file) (edges (its_paths file))
      (λ k lt. met k (subst (λ n. k < max n (length (edges (its_paths file)))) (same_length (λ (e : EdgeLine). (e.low, e.high)) file.edges) lt))

-- the kept paths of lines that each meet what is asked of kept ones
kept_each : (P : List ℕ → Type 0) (n : ℕ) (lines : List PathLine) → ((k : ℕ) (line : PathLine) → slice_get lines k ≡ Some line → line.fate ≡ Kept → P line.path) →
    AllByRecursion P (paths_of (kept_from n (map (λ (p : PathLine). p.path) lines) (map is_none (map (λ (p : PathLine). walk_of p.fate) lines))))
kept_each P n [] h = tt
kept_each P n (line ∷ lines) h = by_fate (kept_each P (n + 1) lines (λ k. h (suc k))) line.fate refl
  where
    by_fate : AllByRecursion P (paths_of (kept_from (n + 1) (map (λ (p : PathLine). p.path) lines) (map is_none (map (λ (p : PathLine). walk_of p.fate) lines)))) →
        (fate : Fate) → line.fate ≡ fate →
        AllByRecursion P (paths_of (kept_from n (line.path ∷ map (λ (p : PathLine). p.path) lines) (is_none (walk_of line.fate) ∷ map is_none (map (λ (p : PathLine). walk_of p.fate) lines))))
    by_fate rest Kept is =
        subst (λ f. AllByRecursion P (paths_of (kept_from n (line.path ∷ map (λ (p : PathLine). p.path) lines) (is_none (walk_of f) ∷ map is_none (map (λ (p : PathLine). walk_of p.fate) lines)))))
        (sym is) (h 0 line refl is, rest)
    by_fate rest (Lost walk) is =
        subst (λ f. AllByRecursion P (paths_of (kept_from n (line.path ∷ map (λ (p : PathLine). p.path) lines) (is_none (walk_of f) ∷ map is_none (map (λ (p : PathLine). walk_of p.fate) lines)))))
        (sym is) rest

module _ (file : ResultFile) where
  pub kept_valley_free : IsMet file LabelsServe → All (ValleyFree (its_labels file)) (paths_of (its_kept file))
  kept_valley_free met =
      All-from_recursion (ValleyFree (its_labels file)) (paths_of (its_kept file))
      (kept_each (ValleyFree (its_labels file)) 1 file.paths (λ k line at is. (met k (path_within k line at)).0 line at is))
    where
      path_within : (k : ℕ) (line : PathLine) → slice_get file.paths k ≡ Some line → k < length file.paths + length file.edges
      path_within k line at = let lt = slice_get_within file.paths k line at in omega (arith, lt)

-- the paths kept before a line and its own
pub lost_paths : (file : ResultFile) (k : ℕ) (line : PathLine) →
    paths_of (kept_before file k ++ (k + 1, line.path) ∷ []) ≡ paths_of (kept_before file k) ++ line.path ∷ []
lost_paths file k line = map-append (λ (p : ℕ × List ℕ). p.1) (kept_before file k) ((k + 1, line.path) ∷ [])

pub claimed_edges : (lines : List EdgeLine) → map {B = Edge} (λ (c : Claim). (c.low, c.high)) (map claim_on lines) ≡ map {B = Edge} (λ (e : EdgeLine). (e.low, e.high)) lines
claimed_edges [] = refl
claimed_edges (line ∷ lines) = ap (λ (es : List Edge). (line.low, line.high) ∷ es) (claimed_edges lines)
