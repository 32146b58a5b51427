-- Closures along the returns of all givens, and along those alone whose two are an edge.
use Rattle.std.proofs.Common.{◌≡◌, ◌↔◌, ◌⊎◌, inl, inr, ℕ, ◌≤◌, min, max, List, [], ◌∷◌, ◌++◌, Some, map, get_or, slice_get, sym, ap, ◌∙◌, subst, arith, All, Any, Contains, append_assoc}
use Rattle.std.proofs.lemmas.List.Elements.{Contains-append_cases}
use Rattle.relationships.specs.declared.label.Label.{Label}
use Rattle.relationships.specs.declared.label.Label.TheVariants as label
use Rattle.relationships.specs.Graph.{Edge, edge_of, edges}
use Rattle.relationships.specs.Evidence.{TripleAt, IsTriple, Closure, start, imply, IsConsistent}
use Rattle.relationships.specs.Checking.{Claim, OtherOrder}
use Rattle.relationships.specs.Givens.{return_of}
use Rattle.relationships.proofs.Neighbours.{edge-neighbours, neighbours-edge}
use Rattle.relationships.proofs.GivenLemmas.{three_on, triple_split}
use Rattle.relationships.proofs.GivenWalks.{same_closure_law}
use Rattle.result_text.specs.declared.file.PathLine.{PathLine}
use Rattle.result_text.specs.declared.file.EdgeLine.{EdgeLine}
use Rattle.result_text.specs.declared.file.ResultFile.{ResultFile}
use Rattle.result_rules.specs.File.{its_givens, its_paths, its_edges, its_claims, claim_on}
use Rattle.result_rules.specs.Rules.{its_served}
use Rattle.line_rules.specs.Flipping.{flipped_by, flipped, kept_lines, served_lines}
use Rattle.line_rules.specs.Serving.{Gains}
use Rattle.tor_arena.proofs.Gets.{slice_get-map, slice_get-unmap, has-from_Contains, Contains-from_has}
use Rattle.line_rules.proofs.OrderPlaces.{pair, edge_of-swap}
use Rattle.line_rules.proofs.Servings.{Any-from, flipped_of_other}
use Rattle.line_rules.proofs.Settled.{kept_line}

module _ (file : ResultFile) where
  abbrev IsEdge : Edge → Type 0
  IsEdge e = Contains (edges (its_paths file)) e

  kept_there : (path : List ℕ) → Contains (kept_lines file.paths) path → Contains (its_paths file) path
  kept_there path c =
      let w = kept_line file.paths path c in
      Contains-from_has (its_paths file) path (w.0, slice_get-map (λ (p : PathLine). p.path) file.paths w.0 w.1 w.2 ∙ ap (λ (l : List ℕ). Some l) w.3)

  pub kept_edges : (e : Edge) → Contains (edges (kept_lines file.paths)) e → IsEdge e
  kept_edges e c =
      let n = edge-neighbours (kept_lines file.paths) e c in
      subst IsEdge (sym n.3) (neighbours-edge (its_paths file) n.0 n.1 (n.2.0, kept_there n.2.0 n.2.1, n.2.2))

  -- ---- the edge with which a closure begins

  -- along a triple of a kept path, which has edges alone, or of a return, which comes back along the same edge
  abbrev ComesFrom : ℕ → ℕ → ℕ → Type 0
  ComesFrom x y z = (z ≡ x) ⊎ IsTriple (kept_lines file.paths) x y z

  kept_first : (x y z : ℕ) → IsTriple (kept_lines file.paths) x y z → IsEdge (edge_of x y)
  kept_first x y z (path, c, (at, inl s)) =
      kept_edges (edge_of x y) (neighbours-edge (kept_lines file.paths) x y (path, c, (s.before, z ∷ s.after, s.whole)))
  kept_first x y z (path, c, (at, inr s)) =
      subst IsEdge (edge_of-swap y x)
      (kept_edges (edge_of y x) (neighbours-edge (kept_lines file.paths) y x (path, c, (s.before ++ z ∷ [], s.after, s.whole ∙ sym (append_assoc s.before (z ∷ []) (y ∷ x ∷ s.after))))))

  first_edge : (x y z : ℕ) → ComesFrom x y z → IsEdge (edge_of y z) → IsEdge (edge_of x y)
  first_edge x y z (inl e) h = subst IsEdge (ap (edge_of y) e ∙ edge_of-swap y x) h
  first_edge x y z (inr t) h = kept_first x y z t

  all_from : (x y z : ℕ) → IsTriple (its_served file) x y z → ComesFrom x y z
  all_from x y z (path, c, (at, t)) =
      elim (Contains-append_cases (map return_of (its_givens file)) (kept_lines file.paths) path c) [
        | inl i ↦ (
            let k = has-from_Contains (map return_of (its_givens file)) path i in
            let g = slice_get-unmap return_of (its_givens file) k.0 path k.1 in
            let three = three_on g.0.under g.0.over at x y z (subst (λ p. TripleAt p at x y z) (sym g.2) t) in
            inl (three.2 ∙ sym three.0)
            )
        | inr i ↦ inr (path, i, (at, t))
      ]

  near_from : (x y z : ℕ) → IsTriple (served_lines file) x y z → ComesFrom x y z
  near_from x y z t = elim (triple_split (its_givens file) (its_paths file) (kept_lines file.paths) x y z t) [ inl r ↦ inl (r.third ∙ sym r.first) | inr u ↦ inr u ]

  begins : (paths : List (List ℕ)) → ((x y z : ℕ) → IsTriple paths x y z → ComesFrom x y z) → (a b : ℕ) {y z : ℕ} → Closure paths a b y z → IsEdge (edge_of y z) → IsEdge (edge_of a b)
  begins paths from a b start h = h
  begins paths from a b (imply {x = x} {y = y} {z = z} c t) h = begins paths from a b c (first_edge x y z (from x y z t) h)

  -- ---- closures that come to an edge

  pub closure_same : (a b y z : ℕ) → IsEdge (edge_of y z) → Closure (served_lines file) a b y z ↔ Closure (its_served file) a b y z
  closure_same a b y z edge = (
    (λ c. ((same_closure_law (its_givens file) (its_paths file) (kept_lines file.paths) a b kept_edges (begins (served_lines file) near_from a b c edge)).0 y z).0 c),
    (λ c. ((same_closure_law (its_givens file) (its_paths file) (kept_lines file.paths) a b kept_edges (begins (its_served file) all_from a b c edge)).0 y z).1 c),
  )

  pub consistent_same : (a b : ℕ) → IsEdge (edge_of a b) → IsConsistent (served_lines file) a b ↔ IsConsistent (its_served file) a b
  consistent_same a b edge = (same_closure_law (its_givens file) (its_paths file) (kept_lines file.paths) a b kept_edges edge).1

  pub any_same : (probes : List (ℕ × ℕ)) (y z : ℕ) → IsEdge (edge_of y z) →
      Any (λ p. Closure (served_lines file) p.0 p.1 y z) probes ↔ Any (λ p. Closure (its_served file) p.0 p.1 y z) probes
  any_same probes y z edge = (
    (λ a. Any-from (λ p. Closure (its_served file) p.0 p.1 y z) probes a.1 (a.0, a.2, a.3) ((closure_same a.1.0 a.1.1 y z edge).0 a.4)),
    (λ a. Any-from (λ p. Closure (served_lines file) p.0 p.1 y z) probes a.1 (a.0, a.2, a.3) ((closure_same a.1.0 a.1.1 y z edge).1 a.4)),
  )

  -- ---- the edges of lines

  module _ (whole : its_edges file ≡ edges (its_paths file)) where
    -- the lower number comes first
    rises : (low high : ℕ) → IsEdge (low, high) → low ≤ high
    rises low high c =
        let n = edge-neighbours (its_paths file) (low, high) c in
        let e : low ≡ min n.0 n.1 = ap (λ (p : Edge). p.0) n.3 in
        let e' : high ≡ max n.0 n.1 = ap (λ (p : Edge). p.1) n.3 in
        omega (arith, e, e')

    flipped_edge : (l : Label) (low high : ℕ) → IsEdge (low, high) → IsEdge (edge_of (flipped_by l low high).0 (flipped_by l low high).1)
    flipped_edge l low high c = by l
      where
        le : low ≤ high
        le = rises low high c

        up : IsEdge (edge_of low high)
        up = subst IsEdge (pair (omega (arith, le)) (omega (arith, le))) c

        down : IsEdge (edge_of high low)
        down = subst IsEdge (edge_of-swap low high) up

        by : (l : Label) → IsEdge (edge_of (flipped_by l low high).0 (flipped_by l low high).1)
        by label.Low = down
        by label.High = up
        by label.Peer = down

    pub line_edge : (k : ℕ) (line : EdgeLine) → slice_get file.edges k ≡ Some line → IsEdge (edge_of (flipped line).0 (flipped line).1)
    line_edge k line at =
        flipped_edge line.label line.low line.high
        (subst (λ es. Contains es (line.low, line.high)) whole
        (Contains-from_has (its_edges file) (line.low, line.high) (k, slice_get-map (λ (e : EdgeLine). (e.low, e.high)) file.edges k line at)))

    claim_edge : (claim : Claim) (over under : ℕ) → Contains (its_claims file) claim → OtherOrder claim over under → IsEdge (edge_of over under)
    claim_edge claim over under c other =
        let k = has-from_Contains (its_claims file) claim c in
        let w = slice_get-unmap claim_on file.edges k.0 claim k.1 in
        let e = flipped_of_other w.0 over under (subst (λ d. OtherOrder d over under) (sym w.2) other) in
        subst (λ (p : ℕ × ℕ). IsEdge (edge_of p.0 p.1)) e (line_edge k.0 w.0 w.1)

    -- ---- open lines

    all_not : (P Q : ℕ × ℕ → Type 0) (xs : List (ℕ × ℕ)) → ((p : ℕ × ℕ) → Q p → P p) → All (λ p. P p → ⊥) xs → All (λ p. Q p → ⊥) xs
    all_not P Q xs from h = λ i d lt q. h i d lt (from (get_or xs i d) q)

    pub gains_far : (earlier : List (ℕ × ℕ)) (p : ℕ × ℕ) → Gains (served_lines file) (its_claims file) earlier p → Gains (its_served file) (its_claims file) earlier p
    gains_far earlier p g =
        let edge = claim_edge g.claim g.over g.under g.claimed g.other in
        record {
          claim = g.claim;
          claimed = g.claimed;
          is_open = g.is_open;
          over = g.over;
          under = g.under;
          other = g.other;
          reached = (closure_same p.0 p.1 g.over g.under edge).0 g.reached;
          new = all_not (λ q. Closure (served_lines file) q.0 q.1 g.over g.under) (λ q. Closure (its_served file) q.0 q.1 g.over g.under) earlier
              (λ q. (closure_same q.0 q.1 g.over g.under edge).1) g.new;
        }

    pub gains_near : (earlier : List (ℕ × ℕ)) (p : ℕ × ℕ) → Gains (its_served file) (its_claims file) earlier p → Gains (served_lines file) (its_claims file) earlier p
    gains_near earlier p g =
        let edge = claim_edge g.claim g.over g.under g.claimed g.other in
        record {
          claim = g.claim;
          claimed = g.claimed;
          is_open = g.is_open;
          over = g.over;
          under = g.under;
          other = g.other;
          reached = (closure_same p.0 p.1 g.over g.under edge).1 g.reached;
          new = all_not (λ q. Closure (its_served file) q.0 q.1 g.over g.under) (λ q. Closure (served_lines file) q.0 q.1 g.over g.under) earlier
              (λ q. (closure_same q.0 q.1 g.over g.under edge).0) g.new;
        }

    -- an open line that gains has the order of an edge
    pub gains_edge : (earlier : List (ℕ × ℕ)) (p : ℕ × ℕ) → Gains (served_lines file) (its_claims file) earlier p → IsEdge (edge_of p.0 p.1)
    gains_edge earlier p g = begins (served_lines file) near_from p.0 p.1 g.reached (claim_edge g.claim g.over g.under g.claimed g.other)
