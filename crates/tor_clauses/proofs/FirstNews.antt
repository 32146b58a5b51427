-- The first of a path's triples that is new, and adding those from there on.
use Rattle.std.proofs.Common.{◌≡◌, ℕ, suc, true, false, ◌+◌, ◌-◌, ◌<◌, ◌≤◌, List, [], ◌∷◌, Some, length, get_or, take, refl, sym, ap, ◌∙◌, subst, arith}
use Rattle.std.specs.Prelude.{slice_get}
use Rattle.std.proofs.lemmas.List.{length-take, get_or-take, take-take}
use Rattle.std.proofs.lemmas.List.Elements.{All-head, All-tail, All-take}
use Rattle.std.proofs.lemmas.Option.{get_or_from_slice_get, slice_get_within, same_Some}
use Rattle.relationships.specs.Graph.{edges}
use Rattle.tor_arena.proofs.Gets.{slice_get-some}
use Rattle.as_graph.specs.EdgeSteps.{EdgeStep}
use Rattle.as_graph.specs.Paths.{path_at}
use Rattle.as_graph.specs.Steps.{AreSteps}
use Rattle.tor_clauses.specs.declared.triple.Triple.{Triple}
use Rattle.tor_clauses.specs.Triples.{is_among, AreAmong, triples_on}
use Rattle.tor_clauses.specs.Tables.{with_triple, with_triples, triple_by, AreKnownOn, IsNewAt, IsFirstNew}
use Rattle.tor_clauses.proofs.StepTriples.{triple_by_steps}

-- triples that are there already change nothing
with_there : (ts : List Triple) (t : Triple) → is_among ts t ≡ true → with_triple ts t ≡ ts
with_there ts t there = rw there refl

pub with_known : (ts more : List Triple) → AreAmong ts more → with_triples ts more ≡ ts
with_known ts [] there = refl
with_known ts (t ∷ more) there =
    ap (λ l. with_triples l more) (with_there ts t (All-head (λ u. is_among ts u ≡ true) t more there)) ∙ with_known ts more (All-tail (λ u. is_among ts u ≡ true) t more there)

-- the first of the first
pub known_first : (ts more : List Triple) (n m : ℕ) → n ≤ m → AreAmong ts (take m more) → AreAmong ts (take n more)
known_first ts more n m le there = subst (AreAmong ts) (take-take n m more le) (All-take (λ u. is_among ts u ≡ true) n (take m more) there)

-- what is known of steps is known of the triples that they make
pub among_on : (graph : List (List ℕ)) (path : ℕ) (steps : List EdgeStep) → AreSteps (edges graph) (path_at graph path) steps → (ts : List Triple) (to : ℕ) → to ≤ length steps →
    AreKnownOn ts steps 1 to → AreAmong ts (take (to - 1) (triples_on graph path))
among_on graph path steps are ts to inside known k d lt =
    let n = length-take (to - 1) (triples_on graph path) in
    let s = slice_get-some steps k (omega (arith, lt, n, inside)) in
    let t = slice_get-some steps (suc k) (omega (arith, lt, n, inside)) in
    let next : suc k ≡ k + 1 = omega arith in
    let at = triple_by_steps graph path steps are k s.0 t.0 s.1 t.1 in
    let is : get_or (take (to - 1) (triples_on graph path)) k d ≡ triple_by path (2 + k) s.0 t.0 =
    get_or-take (to - 1) (triples_on graph path) k d (omega (arith, lt, n)) ∙ get_or_from_slice_get (triples_on graph path) k (triple_by path (2 + k) s.0 t.0) d at in
    subst (λ t. is_among ts t ≡ true) (sym is)
    (known k s.0 t.0 (omega arith) (omega (arith, lt, n)) s.1 (subst (λ i. slice_get steps i ≡ Some t.0) next t.1))

-- where the triple of two steps is new, and those of the steps before are there, it is the first of the path's that is
pub first_new_on : (graph : List (List ℕ)) (path : ℕ) (steps : List EdgeStep) → AreSteps (edges graph) (path_at graph path) steps → (ts : List Triple) (place : ℕ) → 1 ≤ place → place < length steps →
    AreKnownOn ts steps 1 place → IsNewAt ts steps place → IsFirstNew graph path ts (place - 1)
first_new_on graph path steps are ts place some inside known new = record {
  there = slice_get_within (triples_on graph path) k (triple_by path (2 + k) s.0 t.0) at;
  before = among_on graph path steps are ts place (omega (arith, inside)) known;
  new = λ u is. subst (λ t. is_among ts t ≡ false) (same_Some _ _ (sym at ∙ is)) (new k s.0 t.0 (omega (arith, some)) s.1 (subst (λ i. slice_get steps i ≡ Some t.0) next t.1));
}
  where
    k : ℕ
    k = place - 1

    next : suc k ≡ k + 1
    next = omega arith

    s : (x : EdgeStep) × (slice_get steps k ≡ Some x)
    s = slice_get-some steps k (omega (arith, some, inside))

    t : (x : EdgeStep) × (slice_get steps (suc k) ≡ Some x)
    t = slice_get-some steps (suc k) (omega (arith, some, inside))

    at : slice_get (triples_on graph path) k ≡ Some (triple_by path (2 + k) s.0 t.0)
    at = triple_by_steps graph path steps are k s.0 t.0 s.1 t.1
