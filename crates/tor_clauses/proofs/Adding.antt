-- The triples of a path, added one by one.
use Rattle.std.proofs.Common.{◌≡◌, ℕ, zero, suc, true, ◌+◌, ◌-◌, ◌<◌, ◌≤◌, List, [], ◌∷◌, ◌++◌, Some, Result, Ok, Err, length, get_or, take, flat_map, refl, sym, ap, ap₂, ◌∙◌, subst, arith}
use Rattle.std.specs.Prelude.{slice_get, OnOk, OnErr}
use Rattle.std.specs.List.{list_any}
use Rattle.std.proofs.lemmas.List.{take_at, length-append, length_push, take_all, append-nil}
use Rattle.std.proofs.lemmas.List.Concat.{flat_map-append}
use Rattle.std.proofs.lemmas.List.Elements.{All-push}
use Rattle.relationships.specs.Graph.{edges}
use Rattle.tor_arena.proofs.Gets.{slice_get-some}
use Rattle.as_graph.specs.EdgeSteps.{EdgeStep}
use Rattle.as_graph.specs.Paths.{path_at}
use Rattle.as_graph.specs.Steps.{AreSteps}
use Rattle.tor_clauses.specs.declared.triple.Triple.{Triple}
use Rattle.tor_clauses.specs.declared.clauses.ClauseMark.{ClauseMark}
use Rattle.tor_clauses.specs.Triples.{arcs_of, is_same_triple, triples_on, triples_of, distinct_triples}
use Rattle.tor_clauses.specs.Tables.{with_triple, with_triples, having, triple_by, AreKnownOn, IsFirst}
use Rattle.tor_clauses.specs.Formulas.{Formula, FitsGraph, IsMark, first_of}
use Rattle.tor_clauses.proofs.Members.{take_get}
use Rattle.tor_clauses.proofs.Sames.{with_triples-push, with_triples-distinct, triples-more}
use Rattle.tor_clauses.proofs.Arcs.{take-arcs}
use Rattle.tor_clauses.proofs.Prefixes.{prefix_law, same_formula}
use Rattle.tor_clauses.proofs.StepTriples.{triple_by_steps}

pub get_from_or : {X : Type 0} (xs : List X) (k : ℕ) (x : X) → k < length xs → x ≡ get_or xs k x → slice_get xs k ≡ Some x
get_from_or [] k x lt e = absurd (omega (arith, lt))
get_from_or (y ∷ xs) zero x lt e = ap Some (sym e)
get_from_or (y ∷ xs) (suc k) x lt e = get_from_or xs k x (omega (arith, lt)) e

pub on_err : {T E : Type 0} {P : Type 0} (r : Result T E) → P → OnErr r P
on_err (Ok x) h = tt
on_err (Err e) h = h

-- nothing was added
pub added_none : (f : Formula) → f.net.arcs ≡ flat_map arcs_of f.triples → f ≡ having f f.triples
added_none f e = ap (λ arcs. record f { net = record f.net { arcs = arcs } }) e

-- one more of the triples
pub added_one : (f now new : Formula) (ts : List Triple) (k : ℕ) (t : Triple) → now ≡ having f (with_triples f.triples (take k ts)) → slice_get ts k ≡ Some t →
    new ≡ having now (with_triple now.triples t) → new ≡ having f (with_triples f.triples (take (k + 1) ts))
added_one f now new ts k t e there h =
    h ∙ ap (λ (g : Formula). having g (with_triple g.triples t)) e ∙
    ap (having f) (sym (ap (with_triples f.triples) (take_get ts k t there) ∙ with_triples-push (take k ts) f.triples t))

-- triples that are there already change nothing
pub skipped : (graph : List (List ℕ)) (f now : Formula) (path : ℕ) (steps : List EdgeStep) → AreSteps (edges graph) (path_at graph path) steps → (from to : ℕ) → 1 ≤ from → from ≤ to →
    to ≤ length steps → (ts : List Triple) → ts ≡ now.triples → AreKnownOn ts steps from to → now ≡ having f (with_triples f.triples (take (from - 1) (triples_on graph path))) →
    now ≡ having f (with_triples f.triples (take (to - 1) (triples_on graph path)))
skipped graph f now path steps are from to some le inside ts these known_there e =
    let n : from - 1 + (to - from) ≡ to - 1 = omega (arith, some, le) in
    subst (λ k. now ≡ having f (with_triples f.triples (take k all))) n (go (to - from) (omega (arith, le)))
  where
    all : List Triple
    all = triples_on graph path

    known : AreKnownOn now.triples steps from to
    known = subst (λ (l : List Triple). AreKnownOn l steps from to) these known_there

    still : (ts : List Triple) (t : Triple) → now ≡ having f ts → list_any (is_same_triple t) now.triples ≡ true → now ≡ having now (with_triple now.triples t)
    still ts t h there =
        let same : now.triples ≡ ts = ap (λ (g : Formula). g.triples) h in
        let arcs : now.net.arcs ≡ flat_map arcs_of now.triples = ap (λ (g : Formula). g.net.arcs) h ∙ ap (flat_map arcs_of) (sym same) in
        rw there (added_none now arcs)

    go : (n : ℕ) → from + n ≤ to → now ≡ having f (with_triples f.triples (take (from - 1 + n) (triples_on graph path)))
    go zero lt = let z : from - 1 ≡ from - 1 + 0 = omega arith in subst (λ k. now ≡ having f (with_triples f.triples (take k (triples_on graph path)))) z e
    go (suc n) lt =
        let h = go n (omega (arith, lt)) in
        let k = from - 1 + n in
        let s = slice_get-some steps k (omega (arith, lt, some, inside)) in
        let t = slice_get-some steps (k + 1) (omega (arith, lt, some, inside)) in
        let next : k + 1 ≡ suc k = omega arith in
        let at = triple_by_steps graph path steps are k s.0 t.0 s.1 (subst (λ i. slice_get steps i ≡ Some t.0) next t.1) in
        let there = known k s.0 t.0 (omega (arith, some)) (omega (arith, lt, some)) s.1 t.1 in
        let more = added_one f now now (triples_on graph path) k (triple_by path (2 + k) s.0 t.0) h at (still (with_triples f.triples (take k (triples_on graph path))) (triple_by path (2 + k) s.0
        t.0) h there) in
        let m : from - 1 + n + 1 ≡ from - 1 + suc n = omega arith in
        subst (λ i. now ≡ having f (with_triples f.triples (take i (triples_on graph path)))) m more

pub added_first : (f now : Formula) (ts : List Triple) → now ≡ having f (with_triples f.triples ts) → IsFirst f now
added_first f now ts e =
    let m = triples-more ts f.triples in
    let w : now.triples ≡ f.triples ++ m.more = ap (λ (g : Formula). g.triples) e ∙ m.whole in
    let l : length now.triples ≡ length f.triples + length m.more = ap length w ∙ length-append f.triples m.more in
    (omega (arith, l), e ∙ ap (having f) (ap (λ (g : Formula). g.triples) (sym e)), sym (ap (take (length f.triples)) w ∙ take_at f.triples m.more (length f.triples) refl))

pub added_all : (f now : Formula) (ts : List Triple) (k : ℕ) → length ts ≤ k → now ≡ having f (with_triples f.triples (take k ts)) → now ≡ having f (with_triples f.triples ts)
added_all f now ts k le e = e ∙ ap (λ (l : List Triple). having f (with_triples f.triples l)) (take_all k ts le)

-- ---- a whole path

-- a formula whose path goes last has the triples of its paths
pub added_path : (graph : List (List ℕ)) (f g now : Formula) (path : ℕ) → FitsGraph graph f → path < length graph → g ≡ record f { paths = f.paths ++ path ∷ [] } →
    now ≡ having g (with_triples g.triples (triples_on graph path)) → FitsGraph graph now
added_path graph f g now path fits there e h =
    let same : now ≡ having (record f { paths = f.paths ++ path ∷ [] }) (with_triples f.triples (triples_on graph path)) = h ∙
    ap (λ (k : Formula). having k (with_triples k.triples (triples_on graph path))) e in
    let ts : with_triples f.triples (triples_on graph path) ≡ triples_of graph (f.paths ++ path ∷ []) =
    ap (λ (l : List Triple). with_triples l (triples_on graph path)) fits.triples ∙
    with_triples-distinct (triples_on graph path) (flat_map (triples_on graph) f.paths) ∙
    ap distinct_triples (sym (flat_map-append (triples_on graph) f.paths (path ∷ []) ∙ ap (λ (l : List Triple). flat_map (triples_on graph) f.paths ++ l) (append-nil (triples_on graph path)))) in
    subst (FitsGraph graph) (sym same) (record {
      there = All-push (λ q. q < length graph) f.paths path fits.there there;
      triples = ts;
      nodes = fits.nodes;
      arcs = refl;
    })

-- where some of the triples were added, cutting gives what was there
pub cut_back : (f g now cut : Formula) (path : ℕ) (mark : ClauseMark) → f.net.arcs ≡ flat_map arcs_of f.triples → g ≡ record f { paths = f.paths ++ path ∷ [] } → IsFirst g now →
    mark ≡ record { paths = length f.paths; triples = length f.triples } → cut ≡ first_of now mark → cut ≡ f
cut_back f g now cut path mark arcs e first m h =
    let one : cut ≡ first_of (having g now.triples) (record { paths = length f.paths; triples = length f.triples }) = h ∙ ap₂ first_of first.1 m in
    let two = one ∙ ap (λ (k : Formula). first_of (having k now.triples) (record { paths = length f.paths; triples = length f.triples })) e in
    let ts : take (length f.triples) now.triples ≡ f.triples =
    sym (subst (λ (k : Formula). k.triples ≡ take (length k.triples) now.triples) e first.2) in
    two ∙ same_formula (take_at f.paths (path ∷ []) (length f.paths) refl) ts refl (take-arcs (length f.triples) now.triples ∙ ap (flat_map arcs_of) ts ∙ sym arcs)

-- there is as much to go back to as there was
pub grown : {T E : Type 0} (r : Result T E) (graph : List (List ℕ)) (f now : Formula) (path : ℕ) → FitsGraph graph f →
    OnOk r (now.paths ≡ f.paths ++ path ∷ []) → OnOk r (FitsGraph graph now) → OnErr r (now ≡ f) →
    FitsGraph graph now × IsMark now (record { paths = length f.paths; triples = length f.triples }) × (first_of now (record { paths = length f.paths; triples = length f.triples }) ≡ f)
grown (Ok x) graph f now path fits h now_fits e =
    let l : length now.paths ≡ length f.paths + 1 = ap length h ∙ length_push f.paths path in
    let prefix : f.paths ≡ take (length f.paths) now.paths = sym (ap (take (length f.paths)) h ∙ take_at f.paths (path ∷ []) (length f.paths) refl) in
    let p = prefix_law graph f now fits now_fits (omega (arith, l)) prefix in
    (now_fits, p.0, sym p.1)
grown (Err x) graph f now path fits h now_fits e =
    let fits' = subst (FitsGraph graph) (sym e) fits in
    let p = prefix_law graph f f fits fits (omega arith) (sym (take_all (length f.paths) f.paths (omega arith))) in (
      fits',
      subst (λ (k : Formula). IsMark k (record { paths = length f.paths; triples = length f.triples })) (sym e) p.0,
      subst (λ (k : Formula). first_of k (record { paths = length f.paths; triples = length f.triples }) ≡ f) (sym e) (sym p.1),
    )
