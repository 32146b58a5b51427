-- Votes that are counted step by step are the votes of a path, and path by path those of all kept paths.
use Rattle.std.proofs.Common.{◌≡◌, ◌≢◌, ℕ, zero, suc, ◌+◌, ◌<◌, ◌≤◌, ◌⊎◌, inl, inr, Bool, true, false, ◌&&◌, not, List, [], ◌∷◌, ◌++◌, length, get_or, take, drop, map, replicate, min, max, refl}
use Rattle.std.proofs.Common.{sym, ap, ap₂, ◌∙◌, subst, arith, All, nat_eq, slice_get, Some, filter, take-append-drop, append-nil, eq-eqb, lt-ltb, le-ltb}
use Rattle.std.specs.List.{count_by, flat_map, list_any}
use Rattle.std.proofs.lemmas.Bool.{cases_eq, cases_order, ne_eqb, false_from_ne_true, false≢true}
use Rattle.std.proofs.lemmas.Option.{slice_get-get_or, slice_get_within, same_Some}
use Rattle.std.proofs.lemmas.List.{length-map, map-append, get_or-map, get_or_past, ext_get_or, take_more}
use Rattle.std.proofs.lemmas.List.Elements.{All-filter, All-append, All-nil, All-cons, All-get_or, All-head, All-tail}
use Rattle.std.proofs.lemmas.Grind.{flat_map-append}
use Rattle.tor_arena.proofs.Counting.{one, count-cons, count-append}
use Rattle.tor_arena.specs.Distinct.{AllDistinct}
use Rattle.relationships.specs.declared.label.End.{End}
use Rattle.relationships.specs.Relationship.{opposite}
use Rattle.relationships.specs.Graph.{Edge, edge_of, is_same, edges_from, edges_on, distinct, edges, degree}
use Rattle.relationships.specs.Preference.{top_of, votes_from, votes_on, votes}
use Rattle.relationships.proofs.Edges.{same_edge}
use Rattle.as_graph.specs.declared.step.Step.{Step}
use Rattle.as_graph.specs.Inside.{as_at}
use Rattle.as_graph.specs.Paths.{path_at, paths_at}
use Rattle.relationships.specs.Steps.{end_left}
use Rattle.as_graph.specs.Steps.{IsStep, AreStepsFrom, AreSteps}
use Rattle.as_graph.proofs.Labelled.{NoneTwice, NoneTwice-distinct, none_at, same_itself}
use Rattle.as_graph.proofs.CountLemmas.{once_each}
use Rattle.as_graph.proofs.StepLemmas.{left_as-step, next_as-step}
use Rattle.gao_prefs.specs.declared.per_end.PerEnd.{PerEnd}
use Rattle.gao_prefs.specs.Ends.{same_end, at_end, number_at, degrees_of, along, voted, is_vote, ballots, votes_of}
use Rattle.gao_prefs.proofs.TopLemmas.{top_of-map}

-- ---- edges are given by their places, and have the lower number first

abbrev pub IsRising : Edge → Type 0
IsRising e = e.0 ≤ e.1

rising_from : (a : ℕ) (path : List ℕ) → All IsRising (edges_from a path)
rising_from a [] = All-nil IsRising
rising_from a (b ∷ path) = All-cons IsRising (edge_of a b) (edges_from b path) (omega arith) (rising_from b path)

rising_on : (path : List ℕ) → All IsRising (edges_on path)
rising_on [] = All-nil IsRising
rising_on (a ∷ path) = rising_from a path

rising_paths : (paths : List (List ℕ)) → All IsRising (flat_map edges_on paths)
rising_paths [] = All-nil IsRising
rising_paths (path ∷ paths) = All-append IsRising (edges_on path) (flat_map edges_on paths) (rising_on path) (rising_paths paths)

rising_distinct : (es : List Edge) → All IsRising es → All IsRising (distinct es)
rising_distinct [] h = h
rising_distinct (e ∷ es) h =
    All-cons IsRising e (filter (λ f. not (is_same e f)) (distinct es)) (All-head IsRising e es h)
    (All-filter (λ f. not (is_same e f)) IsRising (distinct es) (rising_distinct es (All-tail IsRising e es h)))

pub rising : (paths : List (List ℕ)) → All IsRising (edges paths)
rising paths = rising_distinct (flat_map edges_on paths) (rising_paths paths)

pub one_place : (es : List Edge) (i k : ℕ) (e : Edge) → NoneTwice es → slice_get es i ≡ Some e → slice_get es k ≡ Some e → i ≡ k
one_place [] i k e once h is = absurd (cc h)
one_place (x ∷ es) zero zero e once h is = refl
one_place (x ∷ es) zero (suc k) e once h is =
    absurd (false≢true (sym (none_at x es k e once.0 is) ∙ subst (λ (y : Edge). is_same x y ≡ true) (same_Some _ _ h) (same_itself x)))
one_place (x ∷ es) (suc i) zero e once h is =
    absurd (false≢true (sym (none_at x es i e once.0 h) ∙ subst (λ (y : Edge). is_same x y ≡ true) (same_Some _ _ is) (same_itself x)))
one_place (x ∷ es) (suc i) (suc k) e once h is = ap suc (one_place es i k e once.1 h is)

-- ---- one step

-- the edge's ends, this one first
abbrev from_end : Edge → End → Edge
from_end e end = (as_at e end, as_at e (opposite end))

pair_is : {x y : ℕ} {a b : ℕ} → x ≡ a → y ≡ b → ◌≡◌ {A = Edge} (x, y) (a, b)
pair_is h k = cc

first_is : {e f : Edge} → e ≡ f → e.0 ≡ f.0
first_is h = cc

second_is : {e f : Edge} → e ≡ f → e.1 ≡ f.1
second_is h = cc

-- an edge with the ends a and b is the edge of the two
edge_from : (e : Edge) (end : End) (a b : ℕ) → IsRising e → from_end e end ≡ (a, b) → edge_of a b ≡ e
edge_from e End.Low a b le h =
    let p : e.0 ≡ a = first_is h in
    let q : e.1 ≡ b = second_is h in pair_is {x = min a b} {y = max a b} {a = e.0} {b = e.1} (omega (arith, p, q, le)) (omega (arith, p, q, le))
edge_from e End.High a b le h =
    let p : e.1 ≡ a = first_is h in
    let q : e.0 ≡ b = second_is h in pair_is {x = min a b} {y = max a b} {a = e.0} {b = e.1} (omega (arith, p, q, le)) (omega (arith, p, q, le))

swapped : (e : Edge) (end : End) (a b : ℕ) → from_end e end ≡ (b, a) → from_end e (opposite end) ≡ (a, b)
swapped e End.Low a b h = pair_is {x = e.1} {y = e.0} (second_is h) (first_is h)
swapped e End.High a b h = pair_is {x = e.0} {y = e.1} (second_is h) (first_is h)

-- of the edge of two ASes, the end from which the step goes is the one that is left
from_left : (a b : ℕ) (end : End) → a ≢ b → is_same (from_end (edge_of a b) end) (a, b) ≡ same_end (end_left a b) end
from_left a b end ne =
    elim (cases_order a b) [
      | inl e ↦ absurd (ne e)
      | inr o ↦ elim o [
        | inl lt ↦
            let e₁ : min a b ≡ a = omega arith in
            let e₂ : max a b ≡ b = omega arith in rw (e₁, e₂, lt-ltb a b lt) (low a b ne end)
        | inr lt ↦
            let e₁ : min a b ≡ b = omega arith in
            let e₂ : max a b ≡ a = omega arith in
            let ge : b ≤ a = omega arith in rw (e₁, e₂, le-ltb a b ge) (high a b ne end)
      ]
    ]
  where
    low : (a b : ℕ) → a ≢ b → (end : End) → is_same (from_end (a, b) end) (a, b) ≡ same_end End.Low end
    low a b ne End.Low = rw (eq-eqb a a refl, eq-eqb b b refl) refl
    low a b ne End.High = rw (ne_eqb b a (λ e. ne (sym e))) refl

    high : (a b : ℕ) → a ≢ b → (end : End) → is_same (from_end (b, a) end) (a, b) ≡ same_end End.High end
    high a b ne End.Low = rw (ne_eqb b a (λ e. ne (sym e))) refl
    high a b ne End.High = rw (eq-eqb a a refl, eq-eqb b b refl) refl

from_next : (a b : ℕ) (end : End) → a ≢ b → is_same (from_end (edge_of a b) end) (b, a) ≡ same_end (opposite (end_left a b)) end
from_next a b end ne =
    elim (cases_order a b) [
      | inl e ↦ absurd (ne e)
      | inr o ↦ elim o [
        | inl lt ↦
            let e₁ : min a b ≡ a = omega arith in
            let e₂ : max a b ≡ b = omega arith in rw (e₁, e₂, lt-ltb a b lt) (low a b ne end)
        | inr lt ↦
            let e₁ : min a b ≡ b = omega arith in
            let e₂ : max a b ≡ a = omega arith in
            let ge : b ≤ a = omega arith in rw (e₁, e₂, le-ltb a b ge) (high a b ne end)
      ]
    ]
  where
    low : (a b : ℕ) → a ≢ b → (end : End) → is_same (from_end (a, b) end) (b, a) ≡ same_end End.High end
    low a b ne End.Low = rw (ne_eqb a b ne) refl
    low a b ne End.High = rw (eq-eqb a a refl, eq-eqb b b refl) refl

    high : (a b : ℕ) → a ≢ b → (end : End) → is_same (from_end (b, a) end) (b, a) ≡ same_end End.Low end
    high a b ne End.Low = rw (eq-eqb a a refl, eq-eqb b b refl) refl
    high a b ne End.High = rw (ne_eqb a b ne) refl

module _ (es : List Edge) (once : NoneTwice es) (k : ℕ) (e : Edge) (there : slice_get es k ≡ Some e) (up : IsRising e) where
  left_vote : (a b : ℕ) (step : Step) (end : End) → a ≢ b → IsStep es a b step → is_same (from_end e end) (a, b) ≡ is_vote false k end step
  left_vote a b step end ne h =
      elim (cases_eq step.edge k) [
        | inl same ↦
            let is : edge_of a b ≡ e = same_Some _ _ (sym h.0 ∙ ap (slice_get es) same ∙ there) in
            rw (eq-eqb step.edge k same) (subst (λ (f : Edge). is_same (from_end f end) (a, b) ≡ same_end step.left end) is (from_left a b end ne ∙ ap (λ l. same_end l end) (sym h.1)))
        | inr not_same ↦
            rw (ne_eqb step.edge k not_same) (false_from_ne_true (is_same (from_end e end) (a, b)) (λ t.
            let is : edge_of a b ≡ e = edge_from e end a b up (same_edge (from_end e end) (a, b) t) in
            not_same (one_place es step.edge k e once (h.0 ∙ ap Some is) there)))
      ]

  next_vote : (a b : ℕ) (step : Step) (end : End) → a ≢ b → IsStep es a b step → is_same (from_end e end) (b, a) ≡ is_vote true k end step
  next_vote a b step end ne h =
      elim (cases_eq step.edge k) [
        | inl same ↦
            let is : edge_of a b ≡ e = same_Some _ _ (sym h.0 ∙ ap (slice_get es) same ∙ there) in
            rw (eq-eqb step.edge k same)
            (subst (λ (f : Edge). is_same (from_end f end) (b, a) ≡ same_end (opposite step.left) end) is (from_next a b end ne ∙ ap (λ l. same_end (opposite l) end) (sym h.1)))
        | inr not_same ↦
            rw (ne_eqb step.edge k not_same) (false_from_ne_true (is_same (from_end e end) (b, a)) (λ t.
            let is : edge_of a b ≡ e = edge_from e (opposite end) a b up (swapped e end a b (same_edge (from_end e end) (b, a) t)) in
            not_same (one_place es step.edge k e once (h.0 ∙ ap Some is) there)))
      ]

-- ---- the steps of a path

module _ (es : List Edge) (once : NoneTwice es) (k : ℕ) (e : Edge) (there : slice_get es k ≡ Some e) (up : IsRising e) (end : End) where
  climb_votes : (climb a : ℕ) (path : List ℕ) (steps : List Step) → AllDistinct (a ∷ path) → AreStepsFrom es a path steps →
      count_by (is_same (from_end e end)) (votes_from climb a path) ≡ count_by (is_vote true k end) (take climb steps) + count_by (is_vote false k end) (drop climb steps)
  climb_votes zero a [] [] apart h = refl
  climb_votes (suc climb) a [] [] apart h = refl
  climb_votes climb a [] (step ∷ steps) apart h = absurd h
  climb_votes climb a (b ∷ path) [] apart h = absurd h
  climb_votes zero a (b ∷ path) (step ∷ steps) apart h =
      let head = left_vote es once k e there up a b step end (apart 0 1 0 (omega arith) (omega arith)) h.0 in
      let rest = climb_votes zero b path steps (λ i j d lt within. apart (suc i) (suc j) d (omega arith) (omega arith)) h.1 in
      let none : count_by (is_vote true k end) (take zero steps) ≡ 0 = refl in
      let p = count-cons (is_same (from_end e end)) (a, b) (votes_from zero b path) in
      let q = count-cons (is_vote false k end) step steps in
      let r = ap one head in
      omega (arith, p, q, r, rest, none)
  climb_votes (suc climb) a (b ∷ path) (step ∷ steps) apart h =
      let head = next_vote es once k e there up a b step end (apart 0 1 0 (omega arith) (omega arith)) h.0 in
      let rest = climb_votes climb b path steps (λ i j d lt within. apart (suc i) (suc j) d (omega arith) (omega arith)) h.1 in
      let p = count-cons (is_same (from_end e end)) (b, a) (votes_from climb b path) in
      let q = count-cons (is_vote true k end) step (take climb steps) in
      let r = ap one head in
      omega (arith, p, q, r, rest)

-- ---- degrees along a path

number-as : (paths : List (List ℕ)) (es : List Edge) (k : ℕ) (end : End) → k < length es → number_at (map (degrees_of paths) es) k end ≡ degree paths (as_at (get_or es k (0, 0)) end)
number-as paths es k end lt =
    ap (λ (p : PerEnd). at_end p end) (get_or-map (degrees_of paths) es k (0, 0) (record { low = 0; high = 0 }) lt) ∙ go end
  where
    go : (end : End) → at_end (degrees_of paths (get_or es k (0, 0))) end ≡ degree paths (as_at (get_or es k (0, 0)) end)
    go End.Low = refl
    go End.High = refl

along_from : (paths : List (List ℕ)) (es : List Edge) (a : ℕ) (path : List ℕ) (steps : List Step) → AreStepsFrom es a path steps →
    map (λ (s : Step). number_at (map (degrees_of paths) es) s.edge (opposite s.left)) steps ≡ map (degree paths) path
along_from paths es a [] [] h = refl
along_from paths es a [] (step ∷ steps) h = absurd h
along_from paths es a (b ∷ path) [] h = absurd h
along_from paths es a (b ∷ path) (step ∷ steps) h =
    ap₂ (λ x (l : List ℕ). x ∷ l)
    (number-as paths es step.edge (opposite step.left) (slice_get_within es step.edge (edge_of a b) h.0.0) ∙ ap (degree paths) (next_as-step es a b step h.0))
    (along_from paths es b path steps h.1)

along-path : (paths : List (List ℕ)) (es : List Edge) (path : List ℕ) (steps : List Step) → 2 ≤ length path → AreSteps es path steps →
    along (map (degrees_of paths) es) steps ≡ map (degree paths) path
along-path paths es [] steps two h = absurd (omega arith)
along-path paths es (a ∷ []) steps two h = absurd (omega arith)
along-path paths es (a ∷ b ∷ path) [] two h = absurd h
along-path paths es (a ∷ b ∷ path) (step ∷ steps) two h =
    ap₂ (λ x (l : List ℕ). x ∷ l)
    (number-as paths es step.edge step.left (slice_get_within es step.edge (edge_of a b) h.0.0) ∙ ap (degree paths) (left_as-step es a b step h.0))
    (along_from paths es a (b ∷ path) (step ∷ steps) h)

-- ---- a path's votes for an end are its ballots

path_votes : (paths : List (List ℕ)) (es : List Edge) (k : ℕ) (e : Edge) (end : End) (path : List ℕ) (steps : List Step) → NoneTwice es → slice_get es k ≡ Some e → IsRising e →
    2 ≤ length path → AllDistinct path → AreSteps es path steps →
    count_by (is_same (from_end e end)) (votes_on (degree paths) path) ≡ ballots (map (degrees_of paths) es) steps k end
path_votes paths es k e end [] steps once there up two apart h = absurd (omega arith)
path_votes paths es k e end (a ∷ path) steps once there up two apart h =
    let top : top_of (λ n. n) (along (map (degrees_of paths) es) steps) ≡ top_of (degree paths) (a ∷ path) =
    ap (top_of (λ n. n)) (along-path paths es (a ∷ path) steps two h) ∙ top_of-map (degree paths) (a ∷ path) in
    climb_votes es once k e there up end (top_of (degree paths) (a ∷ path)) a path steps apart h ∙
    ap (λ t. count_by (is_vote true k end) (take t steps) + count_by (is_vote false k end) (drop t steps)) (sym top)

vote-le : (climbing : Bool) (k : ℕ) (end : End) (steps : List Step) → count_by (is_vote climbing k end) steps ≤ count_by (λ (s : Step). nat_eq s.edge k) steps
vote-le climbing k end [] = omega arith
vote-le climbing k end (step ∷ steps) =
    let rest = vote-le climbing k end steps in
    let p = count-cons (is_vote climbing k end) step steps in
    let q = count-cons (λ (s : Step). nat_eq s.edge k) step steps in
    let le = both-le (nat_eq step.edge k) (same_end (voted climbing step) end) in
    omega (arith, rest, p, q, le)
  where
    both-le : (a b : Bool) → one (a && b) ≤ one a
    both-le true true = omega arith
    both-le true false = omega arith
    both-le false b = omega arith

-- a path has at most one vote for an end of an edge
ballots-one : (table : List PerEnd) (es : List Edge) (k : ℕ) (end : End) (path : List ℕ) (steps : List Step) → NoneTwice es → k < length es → AllDistinct path → AreSteps es path steps →
    ballots table steps k end ≤ 1
ballots-one table es k end path steps once within apart are =
    let top = top_of (λ n. n) (along table steps) in
    let holds : Step → Bool = λ s. nat_eq s.edge k in
    let p = vote-le true k end (take top steps) in
    let q = vote-le false k end (drop top steps) in
    let all = count-append holds (take top steps) (drop top steps) in
    let whole : count_by holds (take top steps ++ drop top steps) ≡ count_by holds steps = ap (count_by holds) (take-append-drop top steps) in
    let each = once_each es k (get_or es k (0, 0)) path steps once (slice_get-get_or es k (0, 0) within) apart are in
    let le = one-le (list_any (is_same (get_or es k (0, 0))) (edges_on path)) in
    omega (arith, p, q, all, whole, each, le)
  where
    one-le : (b : Bool) → one b ≤ 1
    one-le true = omega arith
    one-le false = omega arith

-- ---- path by path

-- the votes of some of the kept paths
abbrev pub vote_table : List (List ℕ) → List ℕ → List Edge → List PerEnd
vote_table paths kept es = map (votes_of (degree paths) (paths_at paths kept)) es

votes-push : (degree : ℕ → ℕ) (paths : List (List ℕ)) (path : List ℕ) (e : Edge) → votes degree (paths ++ path ∷ []) e.0 e.1 ≡ votes degree paths e.0 e.1 + count_by (is_same e) (votes_on degree path)
votes-push degree paths path e =
    ap (count_by (is_same e)) (flat_map-append (votes_on degree) paths (path ∷ [])) ∙ count-append (is_same e) (flat_map (votes_on degree) paths) (flat_map (votes_on degree) (path ∷ [])) ∙
    ap (λ n. count_by (is_same e) (flat_map (votes_on degree) paths) + n) (ap (count_by (is_same e)) (append-nil (votes_on degree path)))

number-votes : (degree : ℕ → ℕ) (kept : List (List ℕ)) (es : List Edge) (k : ℕ) (end : End) → k < length es →
    number_at (map (votes_of degree kept) es) k end ≡ votes degree kept (from_end (get_or es k (0, 0)) end).0 (from_end (get_or es k (0, 0)) end).1
number-votes degree kept es k end lt =
    ap (λ (p : PerEnd). at_end p end) (get_or-map (votes_of degree kept) es k (0, 0) (record { low = 0; high = 0 }) lt) ∙ go end
  where
    go : (end : End) → at_end (votes_of degree kept (get_or es k (0, 0))) end ≡ votes degree kept (from_end (get_or es k (0, 0)) end).0 (from_end (get_or es k (0, 0)) end).1
    go End.Low = refl
    go End.High = refl

same_ends : (p q : PerEnd) → ((end : End) → at_end p end ≡ at_end q end) → p ≡ q
same_ends p q h = ap₂ (λ x y. both x y) (h End.Low) (h End.High)
  where
    both : ℕ → ℕ → PerEnd
    both x y = record { low = x; high = y }

-- the table holds the votes of the first kept paths, and no end has more votes than these are paths
pub record IsCounted (paths : List (List ℕ)) (kept : List ℕ) (i : ℕ) (table : List PerEnd) : Type 0 where
  pub counted : table ≡ vote_table paths (take i kept) (edges paths)
  pub small : (k : ℕ) (end : End) → number_at table k end ≤ i

zero_at : (n k : ℕ) (end : End) → number_at (replicate n (record { low = 0; high = 0 })) k end ≡ 0
zero_at zero k End.Low = refl
zero_at zero k End.High = refl
zero_at (suc n) zero End.Low = refl
zero_at (suc n) zero End.High = refl
zero_at (suc n) (suc k) end = zero_at n k end

pub counts_begin : (paths : List (List ℕ)) (kept : List ℕ) (n : ℕ) (table : List PerEnd) → n ≡ length (edges paths) → table ≡ replicate n (record { low = 0; high = 0 }) → IsCounted paths kept 0 table
counts_begin paths kept n table same none = record {
  counted = none ∙ ap (λ m. replicate m (record { low = 0; high = 0 })) same ∙ go (edges paths);
  small = λ k end. let z = ap (λ (t : List PerEnd). number_at t k end) none ∙ zero_at n k end in omega (arith, z);
}
  where
    go : (fs : List Edge) → replicate (length fs) (record { low = 0; high = 0 }) ≡ vote_table paths [] fs
    go [] = refl
    go (f ∷ fs) = ap (λ (l : List PerEnd). record { low = 0; high = 0 } ∷ l) (go fs)

pub counts_more : (paths : List (List ℕ)) (kept : List ℕ) (i id : ℕ) (steps : List Step) (table new : List PerEnd) → i < length kept → get_or kept i id ≡ id →
    2 ≤ length (path_at paths id) → AllDistinct (path_at paths id) → AreSteps (edges paths) (path_at paths id) steps →
    IsCounted paths kept i table → length new ≡ length table →
    ((k : ℕ) (end : End) → number_at new k end ≡ number_at table k end + ballots (map (degrees_of paths) (edges paths)) steps k end) →
    IsCounted paths kept (i + 1) new
counts_more paths kept i id steps table new lt at two apart are so_far long each =
    record {
      counted = ext_get_or (record { low = 0; high = 0 }) new (vote_table paths (take (i + 1) kept) es) (long ∙ n ∙ m ∙ sym (length-map es (votes_of (degree paths) after)))
          (λ k k_lt. same_ends (get_or new k (record { low = 0; high = 0 }))
          (get_or (vote_table paths (take (i + 1) kept) es) k (record { low = 0; high = 0 }))
          (λ end. voted_at k end (omega (arith, n, m, long, k_lt))));
      small = small_at;
    }
  where
    es : List Edge
    es = edges paths

    before : List (List ℕ)
    before = paths_at paths (take i kept)

    after : List (List ℕ)
    after = paths_at paths (take (i + 1) kept)

    path : List ℕ
    path = path_at paths id

    n : length table ≡ length (vote_table paths (take i kept) es)
    n = ap length so_far.counted

    m : length (vote_table paths (take i kept) es) ≡ length es
    m = length-map es (votes_of (degree paths) before)

    next : after ≡ before ++ path ∷ []
    next = ap (paths_at paths) (take_more kept i id lt) ∙ map-append (path_at paths) (take i kept) (get_or kept i id ∷ []) ∙ ap (λ q. before ++ path_at paths q ∷ []) at

    voted_at : (k : ℕ) (end : End) → k < length es → number_at new k end ≡ number_at (vote_table paths (take (i + 1) kept) es) k end
    voted_at k end within =
        let e : Edge = get_or es k (0, 0) in
        let was = ap (λ (t : List PerEnd). number_at t k end) so_far.counted ∙ number-votes (degree paths) before es k end within in
        let more =
        path_votes paths es k e end path steps (NoneTwice-distinct (flat_map edges_on paths)) (slice_get-get_or es k (0, 0) within)
        (All-get_or IsRising es k (0, 0) within (rising paths)) two apart are in
        each k end ∙ ap₂ (λ x y. x + y) was (sym more) ∙ sym (votes-push (degree paths) before path (from_end e end)) ∙
        ap (λ ps. votes (degree paths) ps (from_end e end).0 (from_end e end).1) (sym next) ∙ sym (number-votes (degree paths) after es k end within)

    small_at : (k : ℕ) (end : End) → number_at new k end ≤ i + 1
    small_at k end = elim (cases_under k (length es)) [
      | inl within ↦
          let was = so_far.small k end in
          let more = each k end in
          let le = ballots-one (map (degrees_of paths) es) es k end path steps (NoneTwice-distinct (flat_map edges_on paths)) within apart are in
          omega (arith, was, more, le)
      | inr past ↦
          let none : get_or new k (record { low = 0; high = 0 }) ≡ record { low = 0; high = 0 } = get_or_past new k (record { low = 0; high = 0 }) (omega (arith, past, long, n, m)) in
          let zero_here : number_at new k end ≡ 0 = ap (λ (p : PerEnd). at_end p end) none ∙ no_votes end in
          omega (arith, zero_here)
    ]
      where
        cases_under : (a b : ℕ) → (a < b) ⊎ (b ≤ a)
        cases_under a b = elim (cases_order a b) [
          | inl e ↦ inr (omega (arith, e))
          | inr o ↦ elim o [ inl lt' ↦ inl lt' | inr gt ↦ inr (omega (arith, gt)) ]
        ]

        no_votes : (end : End) → at_end (record { low = 0; high = 0 }) end ≡ 0
        no_votes End.Low = refl
        no_votes End.High = refl
