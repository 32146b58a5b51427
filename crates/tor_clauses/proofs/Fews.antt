-- There are no more triples than there are places of three ASes on the paths.
use Rattle.std.proofs.Common.{◌≡◌, ℕ, zero, suc, ◌+◌, ◌-◌, ◌<◌, ◌≤◌, inl, inr, true, false, List, [], ◌∷◌, ◌++◌, Some, length, get_or, take, flat_map, sym, ap, ◌∙◌, subst, arith}
use Rattle.std.specs.Prelude.{slice_get, sum_by, ◌^◌}
use Rattle.std.proofs.lemmas.Bool.{cases_order, false≢true}
use Rattle.std.proofs.lemmas.List.{take-take, get_or-take, length-take-le}
use Rattle.std.proofs.lemmas.List.Sums.{sum_by_more_le}
use Rattle.std.proofs.lemmas.Option.{same_Some}
use Rattle.relationships.specs.Graph.{Edge, edges}
use Rattle.tor_digraph.proofs.Few.{few}
use Rattle.as_graph.specs.Paths.{path_at, triple_count}
use Rattle.tor_clauses.specs.declared.triple.Triple.{Triple}
use Rattle.tor_clauses.specs.Triples.{is_same_triple, distinct_triples, triples_from, triples_along, triples_on}
use Rattle.tor_clauses.specs.Tables.{with_triples, IsRoomy}
use Rattle.tor_clauses.specs.Formulas.{Formula, FitsGraph}
use Rattle.tor_clauses.proofs.Members.{In, In-append_cases, flat_map-In, get-In, All-In}
use Rattle.tor_clauses.proofs.Distincts.{Apart}
use Rattle.tor_clauses.proofs.Sames.{same_itself, triple-In, triples-apart, with_triples-distinct}
use Rattle.tor_clauses.proofs.Prefixes.{named}

-- ---- where the triples of one path stand

at_within : (es : List Edge) (path at x y : ℕ) (rest : List ℕ) (t : Triple) → In t (triples_from es path at x y rest) → (at ≤ t.at) × (t.at < at + length rest)
at_within es path at x y [] t h = absurd h
at_within es path at x y (z ∷ rest) t (inl e) = let k : t.at ≡ at = sym (ap (λ (u : Triple). u.at) e) in (omega (arith, k), omega (arith, k))
at_within es path at x y (z ∷ rest) t (inr h) = let k = at_within es path (at + 1) y z rest t h in (omega (arith, k.0), omega (arith, k.1))

at_one : (es : List Edge) (path at x y : ℕ) (rest : List ℕ) (t u : Triple) → In t (triples_from es path at x y rest) → In u (triples_from es path at x y rest) → t.at ≡ u.at → t ≡ u
at_one es path at x y [] t u h k e = absurd h
at_one es path at x y (z ∷ rest) t u (inl f) (inl g) e = sym f ∙ g
at_one es path at x y (z ∷ rest) t u (inl f) (inr k) e =
    let a : t.at ≡ at = sym (ap (λ (v : Triple). v.at) f) in let b = at_within es path (at + 1) y z rest u k in absurd (omega (arith, a, b.0, e))
at_one es path at x y (z ∷ rest) t u (inr h) (inl g) e =
    let a : u.at ≡ at = sym (ap (λ (v : Triple). v.at) g) in let b = at_within es path (at + 1) y z rest t h in absurd (omega (arith, a, b.0, e))
at_one es path at x y (z ∷ rest) t u (inr h) (inr k) e = at_one es path (at + 1) y z rest t u h k e

along_within : (es : List Edge) (path : ℕ) (p : List ℕ) (t : Triple) → In t (triples_along es path p) → (2 ≤ t.at) × (t.at < length p)
along_within es path [] t h = absurd h
along_within es path (x ∷ []) t h = absurd h
along_within es path (x ∷ y ∷ rest) t h = let k = at_within es path 2 x y rest t h in (k.0, omega (arith, k.1))

along_one : (es : List Edge) (path : ℕ) (p : List ℕ) (t u : Triple) → In t (triples_along es path p) → In u (triples_along es path p) → t.at ≡ u.at → t ≡ u
along_one es path [] t u h k e = absurd h
along_one es path (x ∷ []) t u h k e = absurd h
along_one es path (x ∷ y ∷ rest) t u h k e = at_one es path 2 x y rest t u h k e

-- ---- a number of its own for each triple

module _ (graph : List (List ℕ)) where
  -- a triple of one of the paths
  abbrev IsOfPath : Triple → Type 0
  IsOfPath t = (q : ℕ) × (q < length graph) × In t (triples_on graph q)

  abbrev start : ℕ → ℕ
  start q = sum_by triple_count (take q graph)

  abbrev code : Triple → ℕ
  code t = start t.path + (t.at - 2)

  later_start : (q r : ℕ) → q < r → r ≤ length graph → start q + triple_count (path_at graph q) ≤ start r
  later_start q r lt le =
      let l : length (take r graph) ≡ r = length-take-le r graph le in
      let m = sum_by_more_le triple_count (take r graph) q [] (omega (arith, lt, l)) in
      let a : sum_by triple_count (take q (take r graph)) ≡ start q = ap (sum_by triple_count) (take-take q r graph (omega (arith, lt))) in
      let b : triple_count (get_or (take r graph) q []) ≡ triple_count (path_at graph q) = ap triple_count (get_or-take r graph q [] lt) in
      omega (arith, m, a, b)

  code_below : (t : Triple) → IsOfPath t → code t < sum_by triple_count graph
  code_below t (q, below, h) =
      let n = named graph q t h in
      let e : start t.path ≡ start q = ap start n in
      let a = along_within (edges graph) q (path_at graph q) t h in
      let m = sum_by_more_le triple_count graph q [] below in
      omega (arith, e, a.0, a.1, m)

  code_one : (t u : Triple) → IsOfPath t → IsOfPath u → code t ≡ code u → t ≡ u
  code_one t u (q, below, h) (r, below', k) e =
      let n = named graph q t h in
      let m = named graph r u k in
      let a : start t.path ≡ start q = ap start n in
      let b : start u.path ≡ start r = ap start m in
      let c = along_within (edges graph) q (path_at graph q) t h in
      let d = along_within (edges graph) r (path_at graph r) u k in
      elim (cases_order q r) [
        | inl f ↦
            let s : start q ≡ start r = ap start f in
            along_one (edges graph) r (path_at graph r) t u (subst (λ p. In t (triples_on graph p)) f h) k (omega (arith, a, b, c.0, d.0, e, s))
        | inr o ↦ elim o [
          | inl lt ↦ (let l = later_start q r lt (omega (arith, below')) in absurd (omega (arith, a, b, c.0, c.1, d.0, e, l)))
          | inr lt ↦ (let l = later_start r q lt (omega (arith, below)) in absurd (omega (arith, a, b, d.0, d.1, c.0, e, l)))
        ]
      ]

  apart_get : (ts : List Triple) (i j : ℕ) (t u : Triple) → Apart is_same_triple ts → i < j → slice_get ts i ≡ Some t → slice_get ts j ≡ Some u → is_same_triple t u ≡ false
  apart_get [] i j t u a lt h k = absurd (cc h)
  apart_get (v ∷ ts) zero zero t u a lt h k = absurd (omega (arith, lt))
  apart_get (v ∷ ts) zero (suc j) t u a lt h k = subst (λ w. is_same_triple w u ≡ false) (same_Some _ _ h) (a.0 u (get-In ts j u k))
  apart_get (v ∷ ts) (suc i) zero t u a lt h k = absurd (omega (arith, lt))
  apart_get (v ∷ ts) (suc i) (suc j) t u a lt h k = apart_get ts i j t u a.1 (omega (arith, lt)) h k

  pub few_distinct : (ts : List Triple) → ((t : Triple) → In t ts → IsOfPath t) → length (distinct_triples ts) ≤ sum_by triple_count graph
  few_distinct ts of =
      few code (distinct_triples ts) (sum_by triple_count graph)
      (λ i j t u lt h k e.
      let same = code_one t u (of_path i t h) (of_path j u k) e in
      false≢true (sym (apart_get (distinct_triples ts) i j t u (triples-apart ts) lt h k) ∙ subst (λ v. is_same_triple t v ≡ true) same (same_itself t)))
      (λ k t h. code_below t (of_path k t h))
    where
      of_path : (k : ℕ) (t : Triple) → slice_get (distinct_triples ts) k ≡ Some t → IsOfPath t
      of_path k t h = of t (triple-In t ts (get-In (distinct_triples ts) k t h))

  -- so there is room for each triple of a path
  pub roomy : (f : Formula) (path : ℕ) → FitsGraph graph f → path < length graph → sum_by triple_count graph < 2 ^ 27 → IsRoomy graph path f.triples
  roomy f path fits below few k =
      let e : with_triples f.triples (take k (triples_on graph path)) ≡ distinct_triples (flat_map (triples_on graph) f.paths ++ take k (triples_on graph path)) =
      ap (λ (l : List Triple). with_triples l (take k (triples_on graph path))) fits.triples ∙
      with_triples-distinct (take k (triples_on graph path)) (flat_map (triples_on graph) f.paths) in
      let h = few_distinct (flat_map (triples_on graph) f.paths ++ take k (triples_on graph path)) of_path in
      let l : length (with_triples f.triples (take k (triples_on graph path))) ≡ length (distinct_triples (flat_map (triples_on graph) f.paths ++ take k (triples_on graph path))) = ap length e in
      omega (arith, h, l, few)
    where
      taken : {X : Type 0} (n : ℕ) (x : X) (xs : List X) → In x (take n xs) → In x xs
      taken zero x xs h = absurd h
      taken (suc n) x [] h = absurd h
      taken (suc n) x (y ∷ xs) (inl e) = inl e
      taken (suc n) x (y ∷ xs) (inr h) = inr (taken n x xs h)

      of_path : (t : Triple) → In t (flat_map (triples_on graph) f.paths ++ take k (triples_on graph path)) → IsOfPath t
      of_path t h = elim (In-append_cases t (flat_map (triples_on graph) f.paths) (take k (triples_on graph path)) h) [
        | inl i ↦ (let r = flat_map-In (triples_on graph) t f.paths i in (r.0, All-In (λ q. q < length graph) f.paths fits.there r.0 r.1, r.2))
        | inr i ↦ (path, below, taken k t (triples_on graph path) i)
      ]
