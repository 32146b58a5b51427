-- Preferences by their places, and the ends that they want.
use Rattle.std.proofs.Common.{◌≡◌, ℕ, zero, suc, ◌<◌, false, List, [], ◌∷◌, ◌++◌, Some, length, get_or, map, refl, sym, ap, ◌∙◌, subst, arith, All}
use Rattle.std.specs.Prelude.{slice_get}
use Rattle.std.proofs.lemmas.Bool.{false_from_ne_true}
use Rattle.std.proofs.lemmas.List.{length-map}
use Rattle.std.proofs.lemmas.List.Elements.{All-contains}
use Rattle.std.proofs.lemmas.Option.{slice_get-get_or, get_or_from_slice_get, slice_get_within}
use Rattle.tor_arena.specs.Distinct.{AllDistinct}
use Rattle.relationships.specs.Graph.{Edge, is_same, edges}
use Rattle.relationships.proofs.Edges.{same_edge}
use Rattle.gao_prefs.specs.declared.preferring.Pref.{Pref}
use Rattle.gao_prefs.specs.Preferences.{edge_preferred}
use Rattle.tor_arena.proofs.Gets.{Contains-from_has, slice_get-map}
use Rattle.tor_clauses.proofs.Overs.{one_place}
use Rattle.tor_clauses.proofs.Sames.{edge_same}
use Rattle.tor_orient.specs.Wishes.{wish, AreWishes}

-- ---- lists

pub get-before : {X : Type 0} (xs ys : List X) (k : ℕ) (x : X) → k < length xs → slice_get (xs ++ ys) k ≡ Some x → slice_get xs k ≡ Some x
get-before [] ys k x lt e = absurd (omega (arith, lt))
get-before (a ∷ xs) ys zero x lt e = e
get-before (a ∷ xs) ys (suc k) x lt e = get-before xs ys k x (omega (arith, lt)) e

-- ---- the edges of preferences

-- the edge of a preference stands at its place
pub edge_stands : (es : List Edge) (prefs : List Pref) → All (λ (pref : Pref). pref.edge < length es) prefs → (k : ℕ) (p : Pref) → slice_get prefs k ≡ Some p →
    slice_get es p.edge ≡ Some (edge_preferred es p)
edge_stands es prefs inside k p at =
    slice_get-get_or es p.edge (0, 0) (All-contains (λ (pref : Pref). pref.edge < length es) prefs p inside (Contains-from_has prefs p (k, at)))

-- ---- what is wanted

wish_at : (es : List Edge) (prefs : List Pref) → ((i j : ℕ) (p q : Pref) → i < j → slice_get prefs i ≡ Some p → slice_get prefs j ≡ Some q
    → is_same (edge_preferred es q) (edge_preferred es p) ≡ false) →
    (k : ℕ) (p : Pref) → slice_get prefs k ≡ Some p → p.wanted ≡ wish es prefs (edge_preferred es p)
wish_at es [] apart k p at = cc
wish_at es (q ∷ prefs) apart zero p at =
    let same : q ≡ p = cc in
    rw (edge_same (edge_preferred es p) (edge_preferred es q) (ap (edge_preferred es) (sym same))) (ap (λ (r : Pref). r.wanted) (sym same))
wish_at es (q ∷ prefs) apart (suc k) p at =
    rw (apart 0 (suc k) q p (omega arith) refl at) (wish_at es prefs (λ i j r s lt a b. apart (suc i) (suc j) r s (omega (arith, lt)) a b) k p at)

pub wishes : (graph : List (List ℕ)) (prefs : List Pref) → All (λ (pref : Pref). pref.edge < length (edges graph)) prefs →
    AllDistinct (map (λ (pref : Pref). pref.edge) prefs) → AreWishes (edges graph) prefs (wish (edges graph) prefs)
wishes graph prefs inside apart k d lt = wish_at es prefs each k (get_or prefs k d) (slice_get-get_or prefs k d lt)
  where
    es : List Edge
    es = edges graph

    edge_number : (j : ℕ) (p : Pref) → slice_get prefs j ≡ Some p → get_or (map (λ (pref : Pref). pref.edge) prefs) j 0 ≡ p.edge
    edge_number j p at = get_or_from_slice_get (map (λ (pref : Pref). pref.edge) prefs) j p.edge 0 (slice_get-map (λ (pref : Pref). pref.edge) prefs j p at)

    each : (i j : ℕ) (p q : Pref) → i < j → slice_get prefs i ≡ Some p → slice_get prefs j ≡ Some q → is_same (edge_preferred es q) (edge_preferred es p) ≡ false
    each i j p q less at there = false_from_ne_true (is_same (edge_preferred es q) (edge_preferred es p)) (λ t.
        let same = same_edge (edge_preferred es q) (edge_preferred es p) t in
        let first = edge_stands es prefs inside i p at in
        let second = subst (λ e. slice_get es q.edge ≡ Some e) same (edge_stands es prefs inside j q there) in
        let within = slice_get_within prefs j q there in
        let many = length-map prefs (λ (pref : Pref). pref.edge) in
        apart i j 0 less (omega (arith, within, many)) (edge_number i p at ∙ one_place graph p.edge q.edge (edge_preferred es p) first second ∙ sym (edge_number j q there)))
