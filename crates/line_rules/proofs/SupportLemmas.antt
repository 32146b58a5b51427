-- Counts for the edges of a table.
use Rattle.std.proofs.Common.{◌≡◌, ℕ, ◌+◌, ◌<◌, ◌≤◌, inl, inr, ◌⊎◌, not, min, max, ◌||◌, ◌==◌, Bool, true, false, List, [], ◌∷◌, length, take, get_or, replicate, slice_index, count_by, nat_eq, Some}
use Rattle.std.proofs.Common.{slice_get, refl, sym, ap, ap₂, ◌∙◌, arith, if◌then◌else◌, eq-eqb}
use Rattle.std.specs.List.{list_any}
use Rattle.std.proofs.lemmas.Bool.{eqb-false, or_parts, and_parts, not-true, cases_Bool, cases_lt, both_ways, false_from_ne_true, ne_eqb}
use Rattle.std.proofs.lemmas.Option.{slice_get-get_or, same_Some}
use Rattle.std.proofs.lemmas.List.{get_or_past, length-replicate, get_or-replicate, length-take}
use Rattle.std.proofs.lemmas.List.Sums.{sum_by-cons, sum_by-append, count_by-le-length}
use Rattle.relationships.specs.Graph.{Edge, edge_of, is_same, edges_from, edges_on, support}
use Rattle.relationships.proofs.Edges.{same_edge}
use Rattle.tor_arena.specs.Limits.{max_paths}
use Rattle.tor_arena.specs.Distinct.{is_distinct}
use Rattle.result_text.specs.declared.file.PathLine.{PathLine}
use Rattle.relationships.specs.Fates.{is_kept}
use Rattle.result_text.specs.declared.file.EdgeLine.{EdgeLine}
use Rattle.line_rules.specs.declared.edges.step.Step.{Step}
use Rattle.line_rules.specs.EdgeLines.{edges_of, AreApart}
use Rattle.line_rules.specs.PathSteps.{place_in, AreCodedStepsFrom, AreCodedSteps}
use Rattle.tor_numbers.specs.Edges.{edge_at}
use Rattle.line_rules.specs.Tables.{HaveRisen, AreCounts, kept_in}
use Rattle.line_rules.proofs.Lines.{kept-more, kept-few}
use Rattle.line_rules.proofs.EdgeTables.{is_same-self}

flipped : (e f : Edge) → is_same e f ≡ true → is_same f e ≡ true
flipped e f t = rw (same_edge e f t) (is_same-self f)

pub same-flipped : (e f : Edge) → is_same e f ≡ is_same f e
same-flipped e f =
    elim (cases_Bool (is_same e f)) [
      | inl t ↦ t ∙ sym (flipped e f t)
      | inr n ↦ n ∙ sym (false_from_ne_true (is_same f e) (λ t. absurd (both_ways (is_same e f) n (flipped f e t))))
    ]

abbrev one : Bool → ℕ
one b = if b then 1 else 0

-- ---- the steps of a path

-- in lines that are apart, an edge stands in one place
same_place : (lines : List EdgeLine) → AreApart lines → (i k : ℕ) (f e : Edge) → slice_get (edges_of lines) i ≡ Some f → slice_get (edges_of lines) k ≡ Some e → nat_eq i k ≡ is_same e f
same_place lines apart i k f e at at' =
    elim (cases_Bool (is_same e f)) [
      | inl t ↦
          let there : slice_get (edges_of lines) i ≡ Some e = at ∙ ap (λ (g : Edge). Some g) (sym (same_edge e f t)) in
          eq-eqb i k (apart.once i k e there at') ∙ sym t
      | inr n ↦ ne_eqb i k (λ same. both_ways (is_same e f) n (itself (same_Some e f (sym at' ∙ ap (slice_get (edges_of lines)) (sym same) ∙ at)))) ∙ sym n
    ]
  where
    itself : e ≡ f → is_same e f ≡ true
    itself h = ap (is_same e) (sym h) ∙ is_same-self e

-- the edges of the steps are those of the path
steps_from : (lines : List EdgeLine) → AreApart lines → (k : ℕ) (e : Edge) (a : ℕ) (path : List ℕ) (steps : List Step) → slice_get (edges_of lines) k ≡ Some e →
    AreCodedStepsFrom (edges_of lines) a path steps → count_by (λ (s : Step). nat_eq (place_in s) k) steps ≡ count_by (is_same e) (edges_from a path)
steps_from lines apart k e a [] [] at h = refl
steps_from lines apart k e a [] (step ∷ steps) at h = absurd h
steps_from lines apart k e a (b ∷ path) [] at h = absurd h
steps_from lines apart k e a (b ∷ path) (step ∷ steps) at h =
    sum_by-cons (λ (s : Step). one (nat_eq (place_in s) k)) step steps ∙
    ap₂ (λ t n. one t + n) (same_place lines apart (place_in step) k (edge_of a b) e h.0.0 at) (steps_from lines apart k e b path steps at h.1) ∙
    sym (sum_by-cons (λ f. one (is_same e f)) (edge_of a b) (edges_from b path))

steps_along : (lines : List EdgeLine) → AreApart lines → (k : ℕ) (e : Edge) (path : List ℕ) (steps : List Step) → slice_get (edges_of lines) k ≡ Some e →
    AreCodedSteps (edges_of lines) path steps → count_by (λ (s : Step). nat_eq (place_in s) k) steps ≡ count_by (is_same e) (edges_on path)
steps_along lines apart k e [] steps at h = ap (count_by (λ (s : Step). nat_eq (place_in s) k)) h
steps_along lines apart k e (a ∷ path) steps at h = steps_from lines apart k e a path steps at h

-- ---- a path with distinct ASes holds an edge at most once

-- no step behind an AS that isn't there goes along an edge of it
absent : (e : Edge) (a b : ℕ) (path : List ℕ) → (e.0 ≡ a) ⊎ (e.1 ≡ a) → list_any (λ y. y == a) (b ∷ path) ≡ false → count_by (is_same e) (edges_from b path) ≡ 0
absent e a b [] end none = refl
absent e a b (c ∷ path) end none =
    let first = or_parts (b == a) (list_any (λ y. y == a) (c ∷ path)) none in
    let second = or_parts (c == a) (list_any (λ y. y == a) path) first.1 in
    elim (cases_Bool (is_same e (edge_of b c))) [
      | inl t ↦ absurd (apart (same_edge e (edge_of b c) t) (eqb-false b a first.0) (eqb-false c a second.0) end)
      | inr n ↦
          let split = sum_by-cons (λ f. if is_same e f then 1 else 0) (edge_of b c) (edges_from c path) in
          let rest = absent e a c path end first.1 in
          let here : one (is_same e (edge_of b c)) ≡ 0 = ap one n in
          omega (arith, split, rest, here)
    ]
  where
    apart : e ≡ edge_of b c → (b ≡ a → ⊥) → (c ≡ a → ⊥) → (e.0 ≡ a) ⊎ (e.1 ≡ a) → ⊥
    apart is b_not c_not (inl low) =
        let e₀ : e.0 ≡ min b c = ap (λ (f : Edge). f.0) is in
        elim (cases_lt b c) [
          | inl lt ↦ b_not (omega (arith, e₀, low, lt))
          | inr ge ↦ c_not (omega (arith, e₀, low, ge))
        ]
    apart is b_not c_not (inr high) =
        let e₁ : e.1 ≡ max b c = ap (λ (f : Edge). f.1) is in
        elim (cases_lt b c) [
          | inl lt ↦ c_not (omega (arith, e₁, high, lt))
          | inr ge ↦ b_not (omega (arith, e₁, high, ge))
        ]

end-of : (e : Edge) (a b : ℕ) → e ≡ edge_of a b → (e.0 ≡ a) ⊎ (e.1 ≡ a)
end-of e a b is =
    let e₀ : e.0 ≡ min a b = ap (λ (f : Edge). f.0) is in
    let e₁ : e.1 ≡ max a b = ap (λ (f : Edge). f.1) is in
    elim (cases_lt a b) [
      | inl lt ↦ inl (omega (arith, e₀, lt))
      | inr ge ↦ inr (omega (arith, e₁, ge))
    ]

once-from : (e : Edge) (a : ℕ) (path : List ℕ) → is_distinct (a ∷ path) ≡ true → count_by (is_same e) (edges_from a path) ≡ one (list_any (is_same e) (edges_from a path))
once-from e a [] distinct = refl
once-from e a (b ∷ path) distinct =
    let parts = and_parts (not (list_any (λ y. y == a) (b ∷ path))) (is_distinct (b ∷ path)) distinct in
    let split = sum_by-cons (λ f. if is_same e f then 1 else 0) (edge_of a b) (edges_from b path) in
    elim (cases_Bool (is_same e (edge_of a b))) [
      | inl t ↦
          let none = absent e a b path (end-of e a b (same_edge e (edge_of a b) t)) (not-true (list_any (λ y. y == a) (b ∷ path)) parts.0) in
          let here : one (is_same e (edge_of a b)) ≡ 1 = ap one t in
          let all : one (is_same e (edge_of a b) || list_any (is_same e) (edges_from b path)) ≡ 1 = ap (λ s. one (s || list_any (is_same e) (edges_from b path))) t in
          omega (arith, split, none, here, all)
      | inr n ↦
          let rest = once-from e b path parts.1 in
          let here : one (is_same e (edge_of a b)) ≡ 0 = ap one n in
          let all : one (is_same e (edge_of a b) || list_any (is_same e) (edges_from b path)) ≡ one (list_any (is_same e) (edges_from b path)) =
          ap (λ s. one (s || list_any (is_same e) (edges_from b path))) n in
          omega (arith, split, rest, here, all)
    ]

pub once-on : (e : Edge) (path : List ℕ) → is_distinct path ≡ true → count_by (is_same e) (edges_on path) ≡ one (list_any (is_same e) (edges_on path))
once-on e [] distinct = refl
once-on e (a ∷ path) distinct = once-from e a path distinct

-- ---- a line

pub risen-kept : (es : List Edge) (line : PathLine) (old new : List ℕ) → is_kept line.fate ≡ true → is_distinct line.path ≡ true →
    HaveRisen es (λ e. count_by (is_same e) (edges_on line.path)) old new → HaveRisen es (support (kept_in (line ∷ []))) old new
risen-kept es line old new kept distinct risen = (
  risen.0,
  λ k within.
      let e = edge_at es k in
      let only : support (kept_in (line ∷ [])) e ≡ one (list_any (is_same e) (edges_on line.path)) = rw kept (omega arith) in
      let once = once-on e line.path distinct in
      let more = risen.1 k within in
      omega (arith, only, once, more),
)

pub risen-line : (line : PathLine) (steps : List Step) (old new : List ℕ) → is_kept line.fate ≡ true → is_distinct line.path ≡ true → length new ≡ length old →
    ((k : ℕ) → slice_index new k ≡ slice_index old k + count_by (λ (s : Step). nat_eq (place_in s) k) steps) →
    (lines : List EdgeLine) → AreApart lines → length old ≡ length lines → AreCodedSteps (edges_of lines) line.path steps → HaveRisen (edges_of lines) (support (kept_in (line ∷ []))) old new
risen-line line steps old new kept distinct same counted lines apart many are =
    risen-kept (edges_of lines) line old new kept distinct (
      same,
      λ k within. counted k ∙ ap (λ n. slice_index old k + n) (steps_along lines apart k (edge_at (edges_of lines) k) line.path steps (slice_get-get_or (edges_of lines) k (0, 0) within) are),
    )

pub risen-lost : (line : PathLine) (old : List ℕ) → is_kept line.fate ≡ false → (es : List Edge) → HaveRisen es (support (kept_in (line ∷ []))) old old
risen-lost line old lost es = (
  refl,
  λ k within. let none : support (kept_in (line ∷ [])) (edge_at es k) ≡ 0 = rw lost refl in omega (arith, none),
)

-- ---- all lines

pub counts-none : (es : List Edge) → AreCounts es (support (kept_in [])) (replicate (length es) 0)
counts-none es = (length-replicate (length es) 0, λ k within. get_or-replicate (length es) k 0 0 within)

support-more : (e : Edge) (lines : List PathLine) (i : ℕ) (line : PathLine) → i < length lines → line ≡ get_or lines i line →
    support (kept_in (take (i + 1) lines)) e ≡ support (kept_in (take i lines)) e + support (kept_in (line ∷ [])) e
support-more e lines i line within is =
    ap (λ l. support l e) (kept-more lines i line within is) ∙
    sum_by-append (λ path. if list_any (is_same e) (edges_on path) then 1 else 0) (kept_in (take i lines)) (kept_in (line ∷ []))

pub counts-more : (es : List Edge) (lines : List PathLine) (i : ℕ) (line : PathLine) (old new : List ℕ) → i < length lines → line ≡ get_or lines i line →
    AreCounts es (support (kept_in (take i lines))) old → HaveRisen es (support (kept_in (line ∷ []))) old new → AreCounts es (support (kept_in (take (i + 1) lines))) new
counts-more es lines i line old new within is counts risen = (
  risen.0 ∙ counts.0,
  λ k inside. risen.1 k inside ∙ ap (λ n. n + support (kept_in (line ∷ [])) (edge_at es k)) (counts.1 k inside) ∙ sym (support-more (edge_at es k) lines i line within is),
)

pub counts-few : (es : List Edge) (lines : List PathLine) (i : ℕ) (counts : List ℕ) → i ≤ max_paths → AreCounts es (support (kept_in (take i lines))) counts → (k : ℕ) →
    slice_index counts k ≤ max_paths
counts-few es lines i counts few are k =
    elim (cases_lt k (length es)) [
      | inl within ↦
          let n = count_by-le-length (λ path. list_any (is_same (edge_at es k)) (edges_on path)) (kept_in (take i lines)) in
          omega (arith, are.1 k within, n, kept-few (take i lines), length-take i lines, few)
      | inr past ↦
          let none : slice_index counts k ≡ 0 = get_or_past counts k 0 (omega (arith, past, are.0)) in
          omega (arith, none)
    ]
