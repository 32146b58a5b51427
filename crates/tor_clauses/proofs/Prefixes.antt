-- What the first paths of a formula have.
use Rattle.std.proofs.Common.{◌≡◌, ℕ, ◌+◌, ◌*◌, ◌<◌, ◌≤◌, inl, inr, Bool, true, false, List, [], ◌∷◌, ◌++◌, length, take, drop, flat_map, refl, sym, ap, ◌∙◌, subst, arith, ◌==◌, eq-eqb, cond}
use Rattle.std.specs.Prelude.{count_by}
use Rattle.std.specs.List.{list_any}
use Rattle.std.proofs.lemmas.Bool.{both_ways, eqb-true, false_from_ne_true}
use Rattle.std.proofs.lemmas.List.{take-append-drop, take_at}
use Rattle.std.proofs.lemmas.List.Concat.{flat_map-append}
use Rattle.std.proofs.lemmas.List.Elements.{All-take}
use Rattle.std.proofs.lemmas.List.Sums.{sum_by-cons, sum_by-append, count_by-le-length}
use Rattle.relationships.specs.Graph.{Edge, edges}
use Rattle.as_graph.specs.Paths.{path_at}
use Rattle.tor_clauses.specs.declared.triple.Triple.{Triple}
use Rattle.tor_clauses.specs.declared.clauses.ClauseMark.{ClauseMark}
use Rattle.tor_clauses.specs.Triples.{arcs_of, is_same_triple, distinct_triples, triples_from, triples_along, triples_on, triples_of}
use Rattle.tor_clauses.specs.Formulas.{Formula, FitsGraph, IsMark, first_of}
use Rattle.tor_clauses.specs.ClauseLaws.{PrefixLaw}
use Rattle.tor_clauses.proofs.Members.{In, In-flat_map, flat_map-In, In-list_any, list_any-In}
use Rattle.tor_clauses.proofs.Distincts.{IsMore}
use Rattle.tor_clauses.proofs.Sames.{triple-In, In-triple, triples-more, with_triples-distinct, same_reversed}
use Rattle.tor_clauses.proofs.Arcs.{take-arcs}

-- ---- which path names a triple

named_along : (es : List Edge) (path at x y : ℕ) (rest : List ℕ) (t : Triple) → In t (triples_from es path at x y rest) → t.path ≡ path
named_along es path at x y [] t h = absurd h
named_along es path at x y (z ∷ rest) t (inl e) = sym (ap (λ (u : Triple). u.path) e)
named_along es path at x y (z ∷ rest) t (inr h) = named_along es path (at + 1) y z rest t h

named_on : (es : List Edge) (path : ℕ) (p : List ℕ) (t : Triple) → In t (triples_along es path p) → t.path ≡ path
named_on es path [] t h = absurd h
named_on es path (x ∷ []) t h = absurd h
named_on es path (x ∷ y ∷ rest) t h = named_along es path 2 x y rest t h

pub named : (graph : List (List ℕ)) (path : ℕ) (t : Triple) → In t (triples_on graph path) → t.path ≡ path
named graph path t h = named_on (edges graph) path (path_at graph path) t h

-- ---- counts

module _ {X : Type 0} (p : X → Bool) where
  count_all : (xs : List X) → ((x : X) → In x xs → p x ≡ true) → count_by p xs ≡ length xs
  count_all [] h = refl
  count_all (x ∷ xs) h =
      let e : ◌≡◌ {A = ℕ} (cond (p x) 1 0) 1 = ap {B = ℕ} (λ b. cond b 1 0) (h x (inl refl)) in
      let k = count_all xs (λ y i. h y (inr i)) in
      let s = sum_by-cons (λ y. cond (p y) 1 0) x xs in
      omega (arith, e, k, s)

  count_none : (xs : List X) → ((x : X) → In x xs → p x ≡ false) → count_by p xs ≡ 0
  count_none [] h = refl
  count_none (x ∷ xs) h =
      let e : ◌≡◌ {A = ℕ} (cond (p x) 1 0) 0 = ap {B = ℕ} (λ b. cond b 1 0) (h x (inl refl)) in
      let k = count_none xs (λ y i. h y (inr i)) in
      let s = sum_by-cons (λ y. cond (p y) 1 0) x xs in
      omega (arith, e, k, s)

-- ---- the triples of more paths

module _ (graph : List (List ℕ)) where
  pub more_paths : (ps qs : List ℕ) → IsMore is_same_triple (triples_of graph ps) (flat_map (triples_on graph) qs) (triples_of graph (ps ++ qs))
  more_paths ps qs =
      subst (IsMore is_same_triple (triples_of graph ps) (flat_map (triples_on graph) qs))
      (with_triples-distinct (flat_map (triples_on graph) qs) (flat_map (triples_on graph) ps) ∙
      ap distinct_triples (sym (flat_map-append (triples_on graph) ps qs)))
      (triples-more (flat_map (triples_on graph) qs) (triples_of graph ps))

  abbrev is_named : List ℕ → Triple → Bool
  is_named ps t = list_any (λ path. path == t.path) ps

  old_named : (ps : List ℕ) (t : Triple) → In t (triples_of graph ps) → is_named ps t ≡ true
  old_named ps t h =
      let r = flat_map-In (triples_on graph) t ps (triple-In t (flat_map (triples_on graph) ps) h) in
      In-list_any (λ path. path == t.path) r.0 ps r.1 (eq-eqb r.0 t.path (sym (named graph r.0 t r.2)))

  new_unnamed : (ps qs : List ℕ) (t : Triple) → In t (flat_map (triples_on graph) qs) → list_any (is_same_triple t) (triples_of graph ps) ≡ false → is_named ps t ≡ false
  new_unnamed ps qs t h new = false_from_ne_true (is_named ps t) (λ n.
      let k = list_any-In (λ path. path == t.path) ps n in
      let r = flat_map-In (triples_on graph) t qs h in
      let e : r.0 ≡ k.0 = sym (named graph r.0 t r.2) ∙ sym (eqb-true k.0 t.path k.2) in
      let here : In t (triples_on graph k.0) = subst (λ q. In t (triples_on graph q)) e r.2 in
      let u = In-triple t (flat_map (triples_on graph) ps) (In-flat_map (triples_on graph) k.0 t ps k.1 here) in
      both_ways (list_any (is_same_triple t) (triples_of graph ps)) new
      (In-list_any (is_same_triple t) u.0 (triples_of graph ps) u.1 (same_reversed u.0 t u.2)))

  counted : (ps qs : List ℕ) → count_by (is_named ps) (triples_of graph (ps ++ qs)) ≡ length (triples_of graph ps)
  counted ps qs =
      let m = more_paths ps qs in
      let a = count_all (is_named ps) (triples_of graph ps) (old_named ps) in
      let b = count_none (is_named ps) m.more (λ t h. new_unnamed ps qs t (m.from t h) (m.new t h)) in
      let s = sum_by-append (λ t. cond (is_named ps t) 1 0) (triples_of graph ps) m.more in
      ap (count_by (is_named ps)) m.whole ∙ s ∙ omega (arith, a, b)

  first_triples : (ps qs : List ℕ) → take (length (triples_of graph ps)) (triples_of graph (ps ++ qs)) ≡ triples_of graph ps
  first_triples ps qs =
      let m = more_paths ps qs in
      ap (take (length (triples_of graph ps))) m.whole ∙ take_at (triples_of graph ps) m.more (length (triples_of graph ps)) refl

  pub mark_counts : (f : Formula) (mark : ClauseMark) → FitsGraph graph f → IsMark f mark → mark.triples ≡ length (triples_of graph (take mark.paths f.paths))
  mark_counts f mark fits is =
      is.triples ∙ ap (count_by (is_named (take mark.paths f.paths)))
      (fits.triples ∙ ap (triples_of graph) (sym (take-append-drop mark.paths f.paths))) ∙ counted (take mark.paths f.paths) (drop mark.paths f.paths)

  cut_triples : (f : Formula) (n : ℕ) → FitsGraph graph f → take (length (triples_of graph (take n f.paths))) f.triples ≡ triples_of graph (take n f.paths)
  cut_triples f n fits =
      ap (take (length (triples_of graph (take n f.paths)))) (fits.triples ∙ ap (triples_of graph) (sym (take-append-drop n f.paths))) ∙
      first_triples (take n f.paths) (drop n f.paths)

  pub first_fits : (f : Formula) (mark : ClauseMark) → FitsGraph graph f → IsMark f mark → FitsGraph graph (first_of f mark)
  first_fits f mark fits is = record {
    there = All-take (λ path. path < length graph) mark.paths f.paths fits.there;
    triples = ap (λ n. take n f.triples) (mark_counts f mark fits is) ∙ cut_triples f mark.paths fits;
    nodes = fits.nodes;
    arcs = ap (take (mark.triples * 2)) fits.arcs ∙ take-arcs mark.triples f.triples;
  }

-- a mark asks for no more triples than there are
pub mark_few : (f : Formula) (mark : ClauseMark) → IsMark f mark → mark.triples ≤ length f.triples
mark_few f mark is = subst (λ n. n ≤ length f.triples) (sym is.triples) (count_by-le-length (λ t. list_any (λ path. path == t.path) (take mark.paths f.paths)) f.triples)

-- ---- the prefix law

pub same_formula : {ps qs : List ℕ} {ts us : List Triple} {n m : ℕ} {from to : List Edge} → ps ≡ qs → ts ≡ us → n ≡ m → from ≡ to →
    ◌≡◌ {A = Formula} (record { paths = ps; triples = ts; net = record { nodes = n; arcs = from } }) (record { paths = qs; triples = us; net = record { nodes = m; arcs = to } })
same_formula h i j k = cc

pub prefix_law : PrefixLaw
prefix_law graph f g fits gits le prefix =
    let n = length f.paths in
    let ts : f.triples ≡ triples_of graph (take n g.paths) = fits.triples ∙ ap (triples_of graph) prefix in
    let count : length f.triples ≡ count_by (λ t. list_any (λ path. path == t.path) (take n g.paths)) g.triples =
    ap length ts ∙ sym (counted graph (take n g.paths) (drop n g.paths)) ∙
    ap (count_by (λ t. list_any (λ path. path == t.path) (take n g.paths))) (ap (triples_of graph) (take-append-drop n g.paths) ∙ sym gits.triples) in
    let cut : f.triples ≡ take (length f.triples) g.triples = ts ∙ sym (ap (λ k. take k g.triples) (ap length ts) ∙ cut_triples graph g n gits) in (
      record { paths = le; triples = count },
      same_formula prefix cut (fits.nodes ∙ sym gits.nodes)
          (fits.arcs ∙ ap (flat_map arcs_of) cut ∙ sym (ap (take (length f.triples * 2)) gits.arcs ∙ take-arcs (length f.triples) g.triples)),
    )
