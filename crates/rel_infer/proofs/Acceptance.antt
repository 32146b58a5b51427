-- A result of distinct paths, under the givens that it has, meets all rules of a checker.
use Rattle.std.proofs.Common.{◌≡◌, ◌≢◌, ℕ, zero, suc, ◌+◌, ◌-◌, ◌≤◌, ◌^◌, Bool, true, false, not, ◌||◌, IsTrue, List, [], ◌∷◌, ◌++◌, map, take, Some, None, is_none, length, sum_by, slice_get, refl}
use Rattle.std.proofs.Common.{sym, ap, ◌∙◌, subst, arith, append_assoc, append-nil, Option, unwrap_or, All, Contains}
use Rattle.std.specs.List.{AllByRecursion, list_any, list_all}
use Rattle.std.specs.Str.{bytes_eq}
use Rattle.std.proofs.lemmas.Bool.{false≢true, and_parts}
use Rattle.std.proofs.lemmas.List.{take-map}
use Rattle.std.proofs.lemmas.List.Sums.{sum_by-cons}
use Rattle.std.proofs.lemmas.Slice.Eq.{bytes_eq-Decides}
use Rattle.std.proofs.lemmas.List.Elements.{All-contains_itself, All-from_recursion, All-weaker, recursion_from_All}
use Rattle.std.proofs.lemmas.Option.{slice_get_within}
use Rattle.relationships.specs.declared.given.Given.{Given}
use Rattle.relationships.specs.declared.walk.Walk.{Walk}
use Rattle.relationships.specs.declared.fate.Fate.{Fate}
use Rattle.relationships.specs.declared.fate.Fate.TheVariants.{Kept, Lost}
use Rattle.relationships.specs.Relationship.{ValleyFree, label_of}
use Rattle.relationships.specs.Graph.{edge_of}
use Rattle.relationships.specs.Evidence.{Numbered, paths_of, kept_from}
use Rattle.relationships.specs.Checking.{Claim, IsBorneOut, IsProbe, ProbesFrom}
use Rattle.relationships.specs.Fates.{walk_of}
use Rattle.relationships.specs.GivenEvidence.{LostFromWith, RefutesWith, ShowFromWith, ShowsWith}
use Rattle.relationships.specs.Givens.{NameOnce, NameTwo, end_by}
use Rattle.relationships.specs.Marking.{is_forced}
use Rattle.relationships.proofs.GivenLemmas.{Once, Others, once_all}
use Rattle.path_clean.specs.Paths.{is_cleaned}
use Rattle.path_table.specs.Rows.{none_twice}
use Rattle.result_text.specs.declared.file.EdgeLine.{EdgeLine}
use Rattle.result_text.specs.declared.file.PathLine.{PathLine}
use Rattle.result_text.specs.declared.file.ResultFile.{ResultFile}
use Rattle.result_text.specs.Text.{its_givens}
use Rattle.result_rules.specs.File.{its_paths, its_walks, its_kept, its_claims, its_labels, its_probes, last_two, shown_orders}
use Rattle.result_rules.specs.declared.rule.Rule.{Rule}
use Rattle.result_rules.specs.declared.rule.Rule.TheVariants.{HeadSound, PathsCleaned, PathsDistinct, LostRefuted, EdgesListed}
use Rattle.result_rules.specs.declared.rule.Rule.TheVariants.{LabelsServe, SupportCounted, OrdersShown, MarksBorneOut, TotalsRight}
use Rattle.result_rules.specs.Rules.{Asks, Accepts, HasGivenLabel, IsCounted, IsNewGiven, IsSound, its_served, right_totals}
use Rattle.tor_arena.proofs.Gets.{slice_get-map, All-get}
use Rattle.result_rules.proofs.WalkLaws.{kept_lines, paths_in, walks_in, last_two-from_ends}
use Rattle.rel_infer.specs.GivenInference.{IsInferredWith}
use Rattle.rel_infer.proofs.AgreeingLaws.{given_line_law}

-- ---- lists

sum_of_first : (n : ℕ) (xs : List (List ℕ)) → sum_by length (take n xs) ≤ sum_by length xs
sum_of_first zero xs = omega arith
sum_of_first (suc n) [] = omega arith
sum_of_first (suc n) (x ∷ xs) = omega (arith, sum_of_first n xs, sum_by-cons length x xs, sum_by-cons length x (take n xs))

-- ---- distinct paths

or_right : (a b : Bool) → b ≡ true → (a || b) ≡ true
or_right true b h = refl
or_right false b h = h

not_both : (b : Bool) → b ≡ true → not b ≡ true → ⊥
not_both true h n = false≢true n
not_both false h n = false≢true h

again : (paths : List (List ℕ)) (k : ℕ) (p : List ℕ) → slice_get paths k ≡ Some p → list_any (λ other. bytes_eq other p) paths ≡ true
again [] k p at = cc
again (x ∷ paths) zero p at = let same : x ≡ p = cc in let alike : bytes_eq x p ≡ true = (bytes_eq-Decides x p).1 same in rw alike refl
again (x ∷ paths) (suc k) p at = or_right (bytes_eq x p) (list_any (λ other. bytes_eq other p) paths) (again paths k p at)

no_earlier : (paths : List (List ℕ)) (k : ℕ) (p : List ℕ) → none_twice paths ≡ true → slice_get paths k ≡ Some p → Contains (take k paths) p → ⊥
no_earlier [] k p once at c = cc
no_earlier (x ∷ paths) zero p once at c = absurd (omega (arith, c.1))
no_earlier (x ∷ paths) (suc k) p once at (zero, lt, e) =
    let parts = and_parts (not (list_any (λ other. bytes_eq other x) paths)) (none_twice paths) once in
    let same : x ≡ p = e in
    not_both (list_any (λ other. bytes_eq other x) paths) (subst (λ q. list_any (λ other. bytes_eq other q) paths ≡ true) (sym same) (again paths k p at)) parts.0
no_earlier (x ∷ paths) (suc k) p once at (suc i, lt, e) =
    let parts = and_parts (not (list_any (λ other. bytes_eq other x) paths)) (none_twice paths) once in
    no_earlier paths k p parts.1 at (i, omega (arith, lt), e)

-- ---- lost lines

number_on : (n k : ℕ) → n + suc k ≡ n + 1 + k
number_on n k = omega arith

each_lost : (givens : List Given) (n : ℕ) (kept : Numbered) (lines : List PathLine) → LostFromWith givens n kept (paths_in lines) (walks_in lines) →
    (k : ℕ) (line : PathLine) (walk : Walk) → slice_get lines k ≡ Some line → line.fate ≡ Lost walk →
    RefutesWith givens (kept ++ (kept_lines n (take k lines) ++ (n + k, line.path) ∷ [])) walk
each_lost givens n kept [] h k line walk at is = cc
each_lost givens n kept (first ∷ lines) h zero line walk at is =
    let same : first ≡ line = cc in
    let e : n + 0 ≡ n = omega arith in
    rw e (go line.fate is (subst (λ (l : PathLine). LostFromWith givens n kept (l.path ∷ paths_in lines) (walk_of l.fate ∷ walks_in lines)) same h))
  where
    go : (fate : Fate) → fate ≡ Lost walk → LostFromWith givens n kept (line.path ∷ paths_in lines) (walk_of fate ∷ walks_in lines) → RefutesWith givens (kept ++ (n, line.path) ∷ []) walk
    go Kept e h = absurd cc
    go (Lost w) e h = let same : w ≡ walk = cc in subst (RefutesWith givens (kept ++ (n, line.path) ∷ [])) same h.0
each_lost givens n kept (first ∷ lines) h (suc k) line walk at is =
    go first.fate refl h (λ rest. each_lost givens (n + 1) (kept ++ (n, first.path) ∷ []) lines rest k line walk at is)
    (λ rest. each_lost givens (n + 1) kept lines rest k line walk at is)
  where
    go : (fate : Fate) → first.fate ≡ fate → LostFromWith givens n kept (first.path ∷ paths_in lines) (walk_of fate ∷ walks_in lines) →
        (LostFromWith givens (n + 1) (kept ++ (n, first.path) ∷ []) (paths_in lines) (walks_in lines) →
        RefutesWith givens ((kept ++ (n, first.path) ∷ []) ++ (kept_lines (n + 1) (take k lines) ++ (n + 1 + k, line.path) ∷ [])) walk) →
        (LostFromWith givens (n + 1) kept (paths_in lines) (walks_in lines) → RefutesWith givens (kept ++ (kept_lines (n + 1) (take k lines) ++ (n + 1 + k, line.path) ∷ [])) walk) →
        RefutesWith givens (kept ++ (kept_lines n (first ∷ take k lines) ++ (n + suc k, line.path) ∷ [])) walk
    go Kept is_kept h rest rest' =
        rw (is_kept, number_on n k) (subst (λ A. RefutesWith givens A walk) (append_assoc kept ((n, first.path) ∷ []) (kept_lines (n + 1) (take k lines) ++ (n + 1 + k, line.path) ∷ [])) (rest h))
    go (Lost w) is_lost h rest rest' = rw (is_lost, number_on n k) (rest' h.1)

-- ---- kept lines

each_served : (P : List ℕ → Type 0) (n : ℕ) (lines : List PathLine) → AllByRecursion P (paths_of (kept_lines n lines)) →
    (k : ℕ) (line : PathLine) → slice_get lines k ≡ Some line → line.fate ≡ Kept → P line.path
each_served P n [] h k line at is = cc
each_served P n (first ∷ lines) h zero line at is =
    let same : first ≡ line = cc in
    go line.fate is (subst (λ (l : PathLine). AllByRecursion P (paths_of (kept_from n (l.path ∷ paths_in lines) (is_none (walk_of l.fate) ∷ map is_none (walks_in lines))))) same h)
  where
    go : (fate : Fate) → fate ≡ Kept → AllByRecursion P (paths_of (kept_from n (line.path ∷ paths_in lines) (is_none (walk_of fate) ∷ map is_none (walks_in lines)))) → P line.path
    go Kept e h = h.0
    go (Lost w) e h = absurd cc
each_served P n (first ∷ lines) h (suc k) line at is = each_served P (n + 1) lines (go first.fate refl h) k line at is
  where
    go : (fate : Fate) → first.fate ≡ fate → AllByRecursion P (paths_of (kept_from n (first.path ∷ paths_in lines) (is_none (walk_of fate) ∷ map is_none (walks_in lines)))) →
        AllByRecursion P (paths_of (kept_lines (n + 1) lines))
    go Kept e h = h.1
    go (Lost w) e h = h

-- ---- shown orders

module _ (givens : List Given) (A : Numbered) where
  each_shown : (shown : List (ℕ × ℕ)) (walks : List Walk) (orders : List (ℕ × ℕ)) → ShowFromWith givens A shown walks orders →
      (k : ℕ) (walk : Walk) → slice_get walks k ≡ Some walk → (a b : ℕ) × ShowsWith givens A (shown ++ shown_orders (take k walks)) walk a b
  each_shown shown [] orders h k walk at = cc
  each_shown shown (w ∷ walks) [] h k walk at = absurd h
  each_shown shown (w ∷ walks) ((a, b) ∷ orders) h zero walk at =
      let same : w ≡ walk = cc in
      (a, b, subst (λ l. ShowsWith givens A l walk a b) (sym (append-nil shown)) (subst (λ v. ShowsWith givens A shown v a b) same h.0))
  each_shown shown (w ∷ walks) ((a, b) ∷ orders) h (suc k) walk at =
      let last = last_two-from_ends w.ases a b h.0.ends in
      let same : (shown ++ (a, b) ∷ []) ++ shown_orders (take k walks) ≡ shown ++ (last_two w.ases ++ shown_orders (take k walks)) =
      append_assoc shown ((a, b) ∷ []) (shown_orders (take k walks)) ∙ ap (λ l. shown ++ (l ++ shown_orders (take k walks))) (sym last) in
      subst (λ l. (a b : ℕ) × ShowsWith givens A l walk a b) same (each_shown (shown ++ (a, b) ∷ []) walks orders h.1 k walk at)

  orders_are : (shown : List (ℕ × ℕ)) (walks : List Walk) (orders : List (ℕ × ℕ)) → ShowFromWith givens A shown walks orders → orders ≡ shown_orders walks
  orders_are shown [] [] h = refl
  orders_are shown [] (o ∷ orders) h = absurd h
  orders_are shown (w ∷ walks) [] h = absurd h
  orders_are shown (w ∷ walks) ((a, b) ∷ orders) h =
      ap (λ l. (a, b) ∷ l) (orders_are (shown ++ (a, b) ∷ []) walks orders h.1) ∙
      ap (λ l. l ++ shown_orders walks) (sym (last_two-from_ends w.ases a b h.0.ends))

-- ---- probes

each_probe : (kept : List (List ℕ)) (claims : List Claim) (earlier probes : List (ℕ × ℕ)) → ProbesFrom kept claims earlier probes →
    (k : ℕ) (probe : ℕ × ℕ) → slice_get probes k ≡ Some probe → IsProbe kept claims (earlier ++ take k probes) probe
each_probe kept claims earlier [] h k probe at = cc
each_probe kept claims earlier (p ∷ probes) h zero probe at =
    let same : p ≡ probe = cc in
    subst (λ l. IsProbe kept claims l probe) (sym (append-nil earlier)) (subst (IsProbe kept claims earlier) same h.0)
each_probe kept claims earlier (p ∷ probes) h (suc k) probe at =
    subst (λ l. IsProbe kept claims l probe) (append_assoc earlier (p ∷ []) (take k probes)) (each_probe kept claims (earlier ++ p ∷ []) probes h.1 k probe at)

-- ---- the paths of a table

all_at : (p : List ℕ → Bool) (xs : List (List ℕ)) (k : ℕ) (x : List ℕ) → list_all p xs ≡ true → slice_get xs k ≡ Some x → p x ≡ true
all_at p [] k x h at = cc
all_at p (y ∷ xs) zero x h at = let same : y ≡ x = cc in subst (λ z. p z ≡ true) same (and_parts (p y) (list_all p xs) h).0
all_at p (y ∷ xs) (suc k) x h at = all_at p xs k x (and_parts (p y) (list_all p xs) h).1 at

-- what a table promises of its paths and their times
pub record AreSound (paths : List (List ℕ)) (times : List ℕ) : Type 0 where
  pub clean : IsTrue (list_all is_cleaned paths)
  pub seen : All (λ n. 1 ≤ n) times
  pub once : IsTrue (none_twice paths)
  pub few : length paths ≤ 2 ^ 23
  pub numbers : sum_by length paths ≤ 2 ^ 26

abbrev pub times_in : List PathLine → List ℕ
times_in lines = map (λ (p : PathLine). p.times) lines

-- ---- the givens

other_at : (g : Given) (givens : List Given) → Others g givens → (k : ℕ) (h : Given) → slice_get givens k ≡ Some h →
    edge_of g.over g.under ≢ edge_of h.over h.under
other_at g givens others k h at =
    All-get (λ (h : Given). edge_of g.over g.under ≢ edge_of h.over h.under) givens k h
    (All-from_recursion (λ (h : Given). edge_of g.over g.under ≢ edge_of h.over h.under) givens others) at

-- no given before this one is of the same two ASes
earlier_others : (givens : List Given) → Once givens → (k : ℕ) (h : Given) → slice_get givens k ≡ Some h →
    AllByRecursion (λ (g : Given). edge_of g.over g.under ≢ edge_of h.over h.under) (take k givens)
earlier_others [] once k h at = cc
earlier_others (g ∷ givens) once zero h at = tt
earlier_others (g ∷ givens) once (suc k) h at = (other_at g givens once.0 k h at, earlier_others givens once.1 k h at)

new_given : (file : ResultFile) → NameTwo (its_givens file) → NameOnce (its_givens file) → (k : ℕ) (given : Given) → slice_get (its_givens file) k ≡ Some given →
    IsNewGiven file k given
new_given file two once k given at = record {
  two = All-get (λ (g : Given). g.over ≢ g.under) (its_givens file) k given two at;
  new = All-from_recursion (λ (g : Given). edge_of g.over g.under ≢ edge_of given.over given.under) (take k (its_givens file))
      (earlier_others (its_givens file) (once_all (its_givens file) once) k given at);
}

-- ---- all rules

-- the givens of a file are those that are known
pub same_givens : (file : ResultFile) (known : Option (List Given)) → file.givens ≡ known → unwrap_or known [] ≡ its_givens file
same_givens file known same = by_case file.givens known same
  where
    by_case : (own known : Option (List Given)) → own ≡ known → unwrap_or known [] ≡ (elim own [ None ↦ [] | Some givens ↦ givens ])
    by_case None known same = ap (λ (o : Option (List Given)). unwrap_or o []) (sym same)
    by_case (Some givens) known same = ap (λ (o : Option (List Given)). unwrap_or o []) (sym same)

abbrev pub IsInferredBy : ℕ → ResultFile → Type 0
IsInferredBy ratio file = IsInferredWith (its_givens file) ratio (its_paths file) (its_walks file) file.edges file.whys (its_probes file)

module _ (ratio : ℕ) (file : ResultFile) (small : file.ratio ≤ 1000000) (two : NameTwo (its_givens file)) (once : NameOnce (its_givens file))
    (inferred : IsInferredBy ratio file) (totals : file.totals ≡ right_totals file) (sound : AreSound (its_paths file) (times_in file.paths)) where
  abbrev givens : List Given
  givens = its_givens file

  path_get : (k : ℕ) (line : PathLine) → slice_get file.paths k ≡ Some line → slice_get (its_paths file) k ≡ Some line.path
  path_get k line at = slice_get-map (λ (p : PathLine). p.path) file.paths k line at

  is_sound : (k : ℕ) (line : PathLine) → slice_get file.paths k ≡ Some line → IsSound file k line
  is_sound k line at = record {
    cleaned = all_at is_cleaned (its_paths file) k line.path sound.clean (path_get k line at);
    seen = All-get (λ n. 1 ≤ n) (times_in file.paths) k line.times sound.seen (slice_get-map (λ (p : PathLine). p.times) file.paths k line at);
    few =
        let lt = slice_get_within (its_paths file) k line.path (path_get k line at) in
        let few = sound.few in
        omega arith;
    numbers =
        let le = sum_of_first (k + 1) (its_paths file) in
        let numbers = sound.numbers in
        omega arith;
  }

  lost_rightly : (k : ℕ) (line : PathLine) → slice_get file.paths k ≡ Some line → (walk : Walk) → line.fate ≡ Lost walk →
      RefutesWith givens (kept_from 1 (take k (its_paths file)) (map is_none (take k (its_walks file))) ++ (k + 1, line.path) ∷ []) walk
  lost_rightly k line at walk lost =
      let e : k + 1 ≡ 1 + k = omega arith in
      let paths = take-map (λ (p : PathLine). p.path) k file.paths in
      let walks = take-map (λ (p : PathLine). walk_of p.fate) k file.paths in
      rw (e, paths, walks) (each_lost givens 1 [] file.paths inferred.lost k line walk at lost)

  given_label : (k : ℕ) (line : EdgeLine) → slice_get file.edges k ≡ Some line → HasGivenLabel file line
  given_label k line at =
      All-weaker (Contains givens) (λ (g : Given). edge_of g.over g.under ≡ (line.low, line.high) → line.label ≡ label_of (end_by g.over g.under))
      (λ g there is. (at_line g there (sym is)).1) givens (All-contains_itself givens)
    where
      at_line : (g : Given) → Contains givens g → (line.low, line.high) ≡ edge_of g.over g.under →
          IsTrue (is_forced line.mark) × (line.label ≡ label_of (end_by g.over g.under))
      at_line g there =
          All-get (λ (l : EdgeLine). (l.low, l.high) ≡ edge_of g.over g.under → IsTrue (is_forced l.mark) × (l.label ≡ label_of (end_by g.over g.under))) file.edges k line
          (given_line_law givens ratio (its_paths file) (its_walks file) file.edges file.whys (its_probes file) inferred g there) at

  marks_right : (claim : Claim) (k : ℕ) → slice_get (its_claims file) k ≡ Some claim → IsBorneOut (its_served file) (shown_orders file.whys) (its_probes file) claim
  marks_right claim k at =
      let orders = orders_are givens (its_kept file) [] file.whys inferred.evidence.orders inferred.evidence.shown in
      subst (λ o. IsBorneOut (its_served file) o (its_probes file) claim) orders
      (All-get (IsBorneOut (its_served file) inferred.evidence.orders (its_probes file)) (its_claims file) k claim inferred.evidence.marks at)

  meets : (rule : Rule) (k : ℕ) → Asks file rule k
  meets HeadSound zero = small
  meets HeadSound (suc k) = λ given at. new_given file two once k given at
  meets PathsCleaned k = λ line at. is_sound k line at
  meets PathsDistinct k = λ line at. no_earlier (its_paths file) k line.path sound.once (path_get k line at)
  meets LostRefuted k = λ line at. lost_rightly k line at
  meets EdgesListed k = ap (λ l. slice_get l k) inferred.edges_listed
  meets LabelsServe k = (
    λ line at kept.
        each_served (ValleyFree (its_labels file)) 1 file.paths (recursion_from_All (ValleyFree (its_labels file)) (paths_of (its_kept file)) inferred.valley_free) k line at kept,
    λ le line at. given_label (k - length file.paths) line at,
  )
  meets SupportCounted k = λ line at. All-get (IsCounted file) file.edges k line inferred.supports at
  meets OrdersShown k = λ walk at. each_shown givens (its_kept file) [] file.whys inferred.evidence.orders inferred.evidence.shown k walk at
  meets MarksBorneOut k = (
    λ claim at. marks_right claim k at,
    λ le probe at. each_probe (its_served file) (its_claims file) [] (its_probes file) inferred.evidence.probes_serve (k - length file.edges) probe at,
  )
  meets TotalsRight k = totals

  pub accepted : Accepts file
  accepted rule k lt = meets rule k
