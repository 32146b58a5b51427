-- Which orientations explain a path.
use Rattle.std.proofs.Common.{◌≡◌, ◌↔◌, ℕ, zero, suc, ◌+◌, inl, inr, Bool, true, false, List, [], ◌∷◌, ◌++◌, length, map, take, Option, is_none, get_or, refl, sym, ap, ap₂, ◌∙◌, subst}
use Rattle.std.proofs.Common.{arith, All, Contains, IsTrue}
use Rattle.std.specs.List.{AllByRecursion}
use Rattle.std.proofs.lemmas.List.{map-append, take-map}
use Rattle.std.proofs.lemmas.List.Elements.{All-contains, All-contains_itself, All-from_recursion, All-take, recursion_from_All, Contains-append_cases, Contains-append_left, Contains-append_right, Contains-get_or}
use Rattle.std.proofs.lemmas.Option.{slice_get_within}
use Rattle.tor_arena.proofs.Gets.{Contains-one, has-from_Contains}
use Rattle.relationships.specs.declared.fate.Fate.{Fate}
use Rattle.relationships.specs.declared.given.Given.{Given}
use Rattle.relationships.specs.declared.walk.Walk.{Walk}
use Rattle.relationships.specs.Relationship.{Labelling, Orientation, labels_of, Serves, ValleyFree}
use Rattle.relationships.specs.Graph.{edge_of, edges}
use Rattle.relationships.specs.Evidence.{paths_of, kept_from}
use Rattle.relationships.specs.Fates.{walk_of}
use Rattle.relationships.specs.Selection.{IsServable}
use Rattle.relationships.specs.Givens.{AgreesWith, LabelsSay, NameOnce, NameTwo, ServesWith, names_edge, return_of}
use Rattle.relationships.proofs.Checked.{kept_all}
use Rattle.relationships.proofs.GivenLemmas.{all_givens_law, any_there, given_serving_law}
use Rattle.relationships.proofs.GivenWalks.{any_contains, given_walks_law}
use Rattle.result_text.specs.declared.file.PathLine.{PathLine}
use Rattle.result_text.specs.declared.file.ResultFile.{ResultFile}
use Rattle.result_rules.specs.declared.rule.Rule.TheVariants.{HeadSound, LostRefuted}
use Rattle.result_rules.specs.File.{its_paths, its_walks, its_kept, its_givens, kept_before}
use Rattle.result_rules.proofs.Accepted.{lost_paths}
use Rattle.result_rules.proofs.GivenLines.{name_once, name_two}
use Rattle.rel_infer.specs.Resumed.{Continues, decided}
use Rattle.rel_infer.proofs.AgreeingLaws.{edges_in}
use Rattle.route_leaks.specs.Leaks.{IsExplained, own_number}
use Rattle.route_leaks.specs.Laws.{ElsewhereLaw, LostLeakLaw, RefutedLeakLaw, StaysLeakLaw}

-- ---- by the returns of all givens

module _ (file : ResultFile) (path : List ℕ) where
  -- what has to be served
  abbrev pub served : List (List ℕ)
  served = paths_of (its_kept file) ++ path ∷ []

  pub kept_there : (p : List ℕ) → Contains (paths_of (its_kept file)) p → Contains (its_paths file) p
  kept_there p c =
      All-contains (Contains (its_paths file)) (paths_of (its_kept file)) p
      (All-from_recursion (Contains (its_paths file)) (paths_of (its_kept file))
      (kept_all (Contains (its_paths file)) 1 (its_paths file) (map is_none (its_walks file))
      (recursion_from_All (Contains (its_paths file)) (its_paths file) (All-contains_itself (its_paths file))))) c

  module _ (others : List (List ℕ)) (here : Contains (its_paths file ++ others) path) where
    served_there : (p : List ℕ) → Contains (paths_of (its_kept file) ++ path ∷ []) p → Contains (its_paths file ++ others) p
    served_there p c =
        elim (Contains-append_cases (paths_of (its_kept file)) (path ∷ []) p c) [
          | inl i ↦ Contains-append_left (its_paths file) others p (kept_there p i)
          | inr i ↦ subst (Contains (its_paths file ++ others)) (Contains-one path p i) here
        ]

    pub by_all : NameTwo (its_givens file) → NameOnce (its_givens file) →
        ((O : Orientation) × ServesWith (its_givens file) (its_paths file ++ others) O (paths_of (its_kept file) ++ path ∷ [])) ↔
        IsServable (map return_of (its_givens file) ++ (paths_of (its_kept file) ++ path ∷ []))
    by_all two once =
        let givens = its_givens file in
        let paths = its_paths file ++ others in
        let near = (all_givens_law givens paths served two once (edges_in served paths served_there)).0 in
        let same = (given_serving_law givens paths).1 in
        ((λ s. near.0 (s.0, (same s.0 served).0 s.1)), (λ s. let r = near.1 s in (r.0, (same r.0 served).1 r.1)))

  pub by_all_own : NameTwo (its_givens file) → NameOnce (its_givens file) →
      IsExplained file path ↔ IsServable (map return_of (its_givens file) ++ (paths_of (its_kept file) ++ path ∷ []))
  by_all_own = by_all (path ∷ []) (Contains-append_right (its_paths file) (path ∷ []) path (0, omega arith, refl))

pub elsewhere_law : ElsewhereLaw
elsewhere_law file path others accepts here =
    let two = name_two file (accepts HeadSound) in
    let once = name_once file (accepts HeadSound) in
    let far = by_all file path others here two once in
    let near = by_all_own file path two once in
    ((λ s. near.1 (far.0 s)), (λ s. far.1 (near.0 s)))

-- ---- what refutes

numbered_served : (file : ResultFile) (n : ℕ) (path : List ℕ) → paths_of (its_kept file ++ (n, path) ∷ []) ≡ paths_of (its_kept file) ++ path ∷ []
numbered_served file n path = map-append (λ (p : ℕ × List ℕ). p.1) (its_kept file) ((n, path) ∷ [])

pub refuted_leak_law : RefutedLeakLaw
refuted_leak_law file path walk accepts refutes explained =
    let givens = its_givens file in
    let s = (by_all_own file path (name_two file (accepts HeadSound)) (name_once file (accepts HeadSound))).0 explained in
    (given_walks_law givens (its_kept file ++ (own_number file, path) ∷ [])).0 walk refutes s.0
    (subst (λ (ps : List (List ℕ)). Serves s.0 (map return_of givens ++ ps)) (sym (numbered_served file (own_number file) path)) s.1)

-- ---- the kept paths among the first

pub first_kept : (P : List ℕ → Type 0) (n k : ℕ) (paths : List (List ℕ)) (walks : List (Option Walk)) → AllByRecursion P (paths_of (kept_from n paths (map is_none walks))) →
    AllByRecursion P (paths_of (kept_from n (take k paths) (map is_none (take k walks))))
first_kept P n zero paths walks h = tt
first_kept P n (suc k) [] walks h = tt
first_kept P n (suc k) (path ∷ paths) [] h = tt
first_kept P n (suc k) (path ∷ paths) (walk ∷ walks) h = by (is_none walk) (first_kept P (n + 1) k paths walks) h
  where
    by : (b : Bool) →
        (AllByRecursion P (paths_of (kept_from (n + 1) paths (map is_none walks))) → AllByRecursion P (paths_of (kept_from (n + 1) (take k paths) (map is_none (take k walks))))) →
        AllByRecursion P (paths_of (kept_from n (path ∷ paths) (b ∷ map is_none walks))) →
        AllByRecursion P (paths_of (kept_from n (path ∷ take k paths) (b ∷ map is_none (take k walks))))
    by true rest r = (r.0, rest r.1)
    by false rest r = rest r

-- each of the kept ones among the first k is kept
pub kept_before_kept : (file : ResultFile) (k : ℕ) (p : List ℕ) → Contains (paths_of (kept_before file k)) p → Contains (paths_of (its_kept file)) p
kept_before_kept file k p c =
    let kept = paths_of (its_kept file) in
    All-contains (Contains kept) (paths_of (kept_before file k)) p
    (All-from_recursion (Contains kept) (paths_of (kept_before file k))
    (first_kept (Contains kept) 1 k (its_paths file) (its_walks file) (recursion_from_All (Contains kept) kept (All-contains_itself kept)))) c

-- who serves paths serves some of them
pub serves_some : (O : Orientation) (some paths : List (List ℕ)) → ((p : List ℕ) → Contains some p → Contains paths p) → Serves O paths → Serves O some
serves_some O some paths sub serves k d lt =
    All-contains (ValleyFree (labels_of O)) paths (slice_at k d) serves (sub (slice_at k d) (Contains-get_or some k d lt))
  where
    slice_at : ℕ → List ℕ → List ℕ
    slice_at k d = get_or some k d

pub lost_leak_law : LostLeakLaw
lost_leak_law file line walk accepts there lost explained =
    let (k, at) = has-from_Contains file.paths line there in
    let givens = its_givens file in
    let s = (by_all_own file line.path (name_two file (accepts HeadSound)) (name_once file (accepts HeadSound))).0 explained in
    let sub : (p : List ℕ) → Contains (map return_of givens ++ (paths_of (kept_before file k) ++ line.path ∷ [])) p →
    Contains (map return_of givens ++ (paths_of (its_kept file) ++ line.path ∷ [])) p = λ p c.
    elim (Contains-append_cases (map return_of givens) (paths_of (kept_before file k) ++ line.path ∷ []) p c) [
      | inl i ↦ Contains-append_left (map return_of givens) (paths_of (its_kept file) ++ line.path ∷ []) p i
      | inr i ↦ Contains-append_right (map return_of givens) (paths_of (its_kept file) ++ line.path ∷ []) p
          (elim (Contains-append_cases (paths_of (kept_before file k)) (line.path ∷ []) p i) [
            | inl j ↦ Contains-append_left (paths_of (its_kept file)) (line.path ∷ []) p (kept_before_kept file k p j)
            | inr j ↦ Contains-append_right (paths_of (its_kept file)) (line.path ∷ []) p j
          ])
    ] in
    (given_walks_law givens (kept_before file k ++ (k + 1, line.path) ∷ [])).0 walk (accepts LostRefuted k (slice_get_within file.paths k line at) line at walk lost) s.0
    (subst (λ (ps : List (List ℕ)). Serves s.0 (map return_of givens ++ ps)) (sym (lost_paths file k line))
    (serves_some s.0 (map return_of givens ++ (paths_of (kept_before file k) ++ line.path ∷ [])) (map return_of givens ++ (paths_of (its_kept file) ++ line.path ∷ [])) sub s.1))

-- ---- a result that goes on from another

paths_decided : (lines : List PathLine) → map {B = List ℕ} (λ (d : List ℕ × Fate). d.0) (map decided lines) ≡ map (λ (p : PathLine). p.path) lines
paths_decided [] = refl
paths_decided (line ∷ lines) = ap (λ (ps : List (List ℕ)). line.path ∷ ps) (paths_decided lines)

walks_decided : (lines : List PathLine) → map {B = Option Walk} (λ (d : List ℕ × Fate). walk_of d.1) (map decided lines) ≡ map (λ (p : PathLine). walk_of p.fate) lines
walks_decided [] = refl
walks_decided (line ∷ lines) = ap (λ (ws : List (Option Walk)). walk_of line.fate ∷ ws) (walks_decided lines)

module _ (file more : ResultFile) (goes : Continues file more) where
  paths_on : take (length file.paths) (its_paths more) ≡ its_paths file
  paths_on =
      ap (take (length file.paths)) (sym (paths_decided more.paths)) ∙ take-map (λ (d : List ℕ × Fate). d.0) (length file.paths) (map decided more.paths) ∙
      ap (map (λ (d : List ℕ × Fate). d.0)) goes ∙ paths_decided file.paths

  walks_on : take (length file.paths) (its_walks more) ≡ its_walks file
  walks_on =
      ap (take (length file.paths)) (sym (walks_decided more.paths)) ∙ take-map (λ (d : List ℕ × Fate). walk_of d.1) (length file.paths) (map decided more.paths) ∙
      ap (map (λ (d : List ℕ × Fate). walk_of d.1)) goes ∙ walks_decided file.paths

  pub path_on : (p : List ℕ) → Contains (its_paths file) p → Contains (its_paths more) p
  path_on p c =
      All-contains (Contains (its_paths more)) (its_paths file) p
      (subst (All (Contains (its_paths more))) paths_on (All-take (Contains (its_paths more)) (length file.paths) (its_paths more) (All-contains_itself (its_paths more)))) c

  pub kept_on : (p : List ℕ) → Contains (paths_of (its_kept file)) p → Contains (paths_of (its_kept more)) p
  kept_on p c =
      kept_before_kept more (length file.paths) p
      (subst (λ (ps : List (List ℕ)). Contains ps p) (sym (ap₂ (λ (ps : List (List ℕ)) (ws : List (Option Walk)). paths_of (kept_from 1 ps (map is_none ws))) paths_on walks_on)) c)

-- labels that agree with givens on some paths agree with some of these givens on fewer paths
pub agrees_less : (some givens : List Given) (fewer paths : List (List ℕ)) (L : Labelling) → ((g : Given) → Contains some g → Contains givens g) →
    ((p : List ℕ) → Contains fewer p → Contains paths p) → AgreesWith givens paths L → AgreesWith some fewer L
agrees_less some givens fewer paths L own sub agrees k d lt named =
    let g = get_or some k d in
    let there = own g (Contains-get_or some k d lt) in
    let edge = edges_in fewer paths sub (edge_of g.over g.under) (any_contains (edges fewer) (edge_of g.over g.under) named) in
    All-contains (λ (h : Given). IsTrue (names_edge paths h) → LabelsSay L h) givens g agrees there (any_there (edges paths) (edge_of g.over g.under) edge)

pub stays_leak_law : StaysLeakLaw
stays_leak_law file more path goes own leak explained =
    let O = explained.0 in
    let agrees = explained.1.0 in
    let serves = explained.1.1 in
    leak (
      O,
      (
        agrees_less (its_givens file) (its_givens more) (its_paths file ++ path ∷ []) (its_paths more ++ path ∷ []) (labels_of O) own
            (both (its_paths file) (its_paths more) (path_on file more goes)) agrees,
        serves_some O (paths_of (its_kept file) ++ path ∷ []) (paths_of (its_kept more) ++ path ∷ [])
            (both (paths_of (its_kept file)) (paths_of (its_kept more)) (kept_on file more goes)) serves,
      ),
    )
  where
    both : (some all : List (List ℕ)) → ((p : List ℕ) → Contains some p → Contains all p) → (p : List ℕ) → Contains (some ++ path ∷ []) p → Contains (all ++ path ∷ []) p
    both some all sub p c = elim (Contains-append_cases some (path ∷ []) p c) [
      | inl i ↦ Contains-append_left all (path ∷ []) p (sub p i)
      | inr i ↦ Contains-append_right all (path ∷ []) p i
    ]
