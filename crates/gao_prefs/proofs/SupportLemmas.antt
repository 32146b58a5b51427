-- A path of distinct ASes casts one vote for each edge that it holds, and none for others.
use Rattle.std.proofs.Common.{◌≡◌, ◌≢◌, ℕ, zero, suc, ◌+◌, ◌<◌, ◌≤◌, inl, inr, Bool, true, false, ◌&&◌, ◌==◌, List, [], ◌∷◌, length, get_or, map, min, max, refl, sym, ap, ap₂, ◌∙◌, subst, arith, All}
use Rattle.std.specs.List.{count_by, flat_map, list_any}
use Rattle.std.proofs.lemmas.Bool.{cases_Bool, cases_order, false_from_ne_true}
use Rattle.std.proofs.lemmas.List.Elements.{All-head, All-tail}
use Rattle.tor_arena.proofs.Counting.{one, count-cons, count-append}
use Rattle.tor_arena.specs.Distinct.{AllDistinct}
use Rattle.relationships.specs.Graph.{Edge, edge_of, is_same, edges_from, edges_on, edges, degree, support}
use Rattle.relationships.specs.Preference.{top_of, votes_from, votes_on}
use Rattle.relationships.proofs.Edges.{same_edge}
use Rattle.gao_prefs.specs.declared.per_end.PerEnd.{PerEnd}
use Rattle.gao_prefs.specs.Ends.{votes_of}
use Rattle.gao_prefs.specs.Supports.{SupportLaw, votes_cast}
use Rattle.gao_prefs.proofs.VoteLemmas.{IsRising, rising}

-- ---- one step

-- a vote is for the one end of an edge or the other, if it is cast on that edge
one_vote : (e : Edge) (a b : ℕ) → e.0 ≤ e.1 → a ≢ b → one (is_same (e.0, e.1) (a, b)) + one (is_same (e.1, e.0) (a, b)) ≡ one (is_same e (edge_of a b))
one_vote e a b le ne =
    elim (cases_order a b) [
      | inl same ↦ absurd (ne same)
      | inr o ↦ elim o [
        | inl lt ↦
            let low : min a b ≡ a = omega arith in
            let high : max a b ≡ b = omega arith in
            let other : is_same (e.1, e.0) (a, b) ≡ false = false_from_ne_true (is_same (e.1, e.0) (a, b)) (λ t.
            let p = same_edge (e.1, e.0) (a, b) t in
            let first : e.1 ≡ a = ap (λ (f : Edge). f.0) p in
            let second : e.0 ≡ b = ap (λ (f : Edge). f.1) p in omega (arith, first, second, le, lt)) in
            rw (low, high, other) (plus_zero (one (is_same e (a, b))))
        | inr lt ↦
            let low : min a b ≡ b = omega arith in
            let high : max a b ≡ a = omega arith in
            let other : is_same (e.0, e.1) (a, b) ≡ false = false_from_ne_true (is_same (e.0, e.1) (a, b)) (λ t.
            let p = same_edge (e.0, e.1) (a, b) t in
            let first : e.0 ≡ a = ap (λ (f : Edge). f.0) p in
            let second : e.1 ≡ b = ap (λ (f : Edge). f.1) p in omega (arith, first, second, le, lt)) in
            rw (low, high, other) (zero_plus (one (is_same (e.1, e.0) (a, b))) ∙ ap one (and_turned (e.1 == a) (e.0 == b)))
      ]
    ]
  where
    plus_zero : (n : ℕ) → n + 0 ≡ n
    plus_zero n = omega arith

    zero_plus : (n : ℕ) → 0 + n ≡ n
    zero_plus n = omega arith

    and_turned : (p q : Bool) → (p && q) ≡ (q && p)
    and_turned true true = refl
    and_turned true false = refl
    and_turned false true = refl
    and_turned false false = refl

same_two : (a b : ℕ) → edge_of b a ≡ edge_of a b
same_two a b = ap₂ (λ x y. edge x y) (least a b) (greatest a b)
  where
    edge : ℕ → ℕ → Edge
    edge x y = (x, y)

    least : (a b : ℕ) → min b a ≡ min a b
    least a b = omega arith

    greatest : (a b : ℕ) → max b a ≡ max a b
    greatest a b = omega arith

-- ---- a path

-- no edge of a path that does not hold a has the end a
ends_apart : (a b x y : ℕ) → a ≢ x → a ≢ y → is_same (edge_of a b) (edge_of x y) ≡ false
ends_apart a b x y ne nf = false_from_ne_true (is_same (edge_of a b) (edge_of x y)) (λ t.
    let e = same_edge (edge_of a b) (edge_of x y) t in
    let low : min a b ≡ min x y = ap (λ (e : Edge). e.0) e in
    let high : max a b ≡ max x y = ap (λ (e : Edge). e.1) e in omega (arith, low, high, ne, nf))

none_behind : (a b x : ℕ) (path : List ℕ) → a ≢ x → ((k : ℕ) → k < length path → a ≢ get_or path k 0) → list_any (is_same (edge_of a b)) (edges_from x path) ≡ false
none_behind a b x [] ne h = refl
none_behind a b x (y ∷ path) ne h =
    let nf : a ≢ y = h 0 (omega arith) in
    rw (ends_apart a b x y ne nf) (none_behind a b y path nf (λ k lt. h (suc k) (omega arith)))

-- one vote more, cast on the first edge of a path
vote_more : (e : Edge) (a b : ℕ) (path : List ℕ) (v : ℕ × ℕ) (rest : List (ℕ × ℕ)) → AllDistinct (a ∷ b ∷ path) →
    one (is_same (e.0, e.1) v) + one (is_same (e.1, e.0) v) ≡ one (is_same e (edge_of a b)) →
    count_by (is_same (e.0, e.1)) rest + count_by (is_same (e.1, e.0)) rest ≡ one (list_any (is_same e) (edges_from b path)) →
    count_by (is_same (e.0, e.1)) (v ∷ rest) + count_by (is_same (e.1, e.0)) (v ∷ rest) ≡ one (list_any (is_same e) (edges_from a (b ∷ path)))
vote_more e a b path v rest apart head behind =
    let p = count-cons (is_same (e.0, e.1)) v rest in
    let q = count-cons (is_same (e.1, e.0)) v rest in
    let sum : count_by (is_same (e.0, e.1)) (v ∷ rest) + count_by (is_same (e.1, e.0)) (v ∷ rest) ≡ one (is_same e (edge_of a b)) + one (list_any (is_same e) (edges_from b path)) =
    omega (arith, p, q, head, behind) in
    sum ∙ elim (cases_Bool (is_same e (edge_of a b))) [
      | inl t ↦
          let none : list_any (is_same e) (edges_from b path) ≡ false =
          subst (λ (f : Edge). list_any (is_same f) (edges_from b path) ≡ false) (sym (same_edge e (edge_of a b) t))
          (none_behind a b b path (apart 0 1 0 (omega arith) (omega arith)) (λ k lt. apart 0 (suc (suc k)) 0 (omega arith) (omega arith))) in
          rw (t, none) refl
      | inr n ↦ rw n (zero_plus (one (list_any (is_same e) (edges_from b path))))
    ]
  where
    zero_plus : (n : ℕ) → 0 + n ≡ n
    zero_plus n = omega arith

-- wherever the top of the path is
held_votes : (e : Edge) (climb a : ℕ) (path : List ℕ) → e.0 ≤ e.1 → AllDistinct (a ∷ path) →
    count_by (is_same (e.0, e.1)) (votes_from climb a path) + count_by (is_same (e.1, e.0)) (votes_from climb a path) ≡ one (list_any (is_same e) (edges_from a path))
held_votes e zero a [] le apart = refl
held_votes e (suc climb) a [] le apart = refl
held_votes e zero a (b ∷ path) le apart =
    vote_more e a b path (a, b) (votes_from zero b path) apart (one_vote e a b le (apart 0 1 0 (omega arith) (omega arith)))
    (held_votes e zero b path le (λ i j d lt within. apart (suc i) (suc j) d (omega arith) (omega arith)))
held_votes e (suc climb) a (b ∷ path) le apart =
    vote_more e a b path (b, a) (votes_from climb b path) apart
    (one_vote e b a le (λ same. apart 0 1 0 (omega arith) (omega arith) (sym same)) ∙ ap (λ f. one (is_same e f)) (same_two a b))
    (held_votes e climb b path le (λ i j d lt within. apart (suc i) (suc j) d (omega arith) (omega arith)))

path_votes : (degree : ℕ → ℕ) (path : List ℕ) (e : Edge) → AllDistinct path → e.0 ≤ e.1 →
    count_by (is_same (e.0, e.1)) (votes_on degree path) + count_by (is_same (e.1, e.0)) (votes_on degree path) ≡ one (list_any (is_same e) (edges_on path))
path_votes degree [] e apart le = refl
path_votes degree (a ∷ path) e apart le = held_votes e (top_of degree (a ∷ path)) a path le apart

-- ---- all kept paths

pub support_law : SupportLaw
support_law degree [] e apart le = refl
support_law degree (path ∷ kept) e apart le =
    let here = path_votes degree path e (All-head AllDistinct path kept apart) le in
    let rest = support_law degree kept e (All-tail AllDistinct path kept apart) le in
    let p = count-cons (λ (q : List ℕ). list_any (is_same e) (edges_on q)) path kept in
    let q = count-append (is_same (e.0, e.1)) (votes_on degree path) (flat_map (votes_on degree) kept) in
    let r = count-append (is_same (e.1, e.0)) (votes_on degree path) (flat_map (votes_on degree) kept) in
    omega (arith, here, rest, p, q, r)

-- the sums of the votes for the two ends of the edges of paths are their supports
cast_held : (degree : ℕ → ℕ) (kept : List (List ℕ)) (es : List Edge) → All AllDistinct kept → All IsRising es → map votes_cast (map (votes_of degree kept) es) ≡ map (support kept) es
cast_held degree kept [] apart up = refl
cast_held degree kept (e ∷ es) apart up =
    ap₂ (λ n (l : List ℕ). n ∷ l) (sym (support_law degree kept e apart (All-head IsRising e es up))) (cast_held degree kept es apart (All-tail IsRising e es up))

pub supports_are : (paths kept : List (List ℕ)) (table : List PerEnd) (supports : List ℕ) → All AllDistinct kept → table ≡ map (votes_of (degree paths) kept) (edges paths) →
    supports ≡ map votes_cast table → supports ≡ map (support kept) (edges paths)
supports_are paths kept table supports apart voted sums = sums ∙ ap (map votes_cast) voted ∙ cast_held (degree paths) kept (edges paths) apart (rising paths)
