-- Edge lines, and the orders to which they flip.
use Rattle.std.proofs.Common.{◌≡◌, ◌≢◌, ◌↔◌, ℕ, ◌<◌, ◌≤◌, min, max, Option, Some, None, IsNone, IfSome, MatchOption, List, slice_get, refl, sym, ap, ◌∙◌, subst, arith, Contains}
use Rattle.std.proofs.lemmas.Option.{same_Some}
use Rattle.relationships.specs.declared.label.Label.{Label}
use Rattle.relationships.specs.declared.label.Label.TheVariants as label
use Rattle.tor_arena.specs.Limits.{most_places}
use Rattle.relationships.specs.Graph.{Edge, edge_of}
use Rattle.result_text.specs.declared.file.EdgeLine.{EdgeLine}
use Rattle.line_rules.specs.Flipping.{flipped_by, flipped, flipped_orders, FlipsTo, IsProper}
use Rattle.line_rules.specs.EdgeLines.{edges_of, AreApart}
use Rattle.tor_arena.proofs.Gets.{slice_get-map, slice_get-unmap, All-get, Contains-from_has}

pub pair : {a b c d : ℕ} → a ≡ c → b ≡ d → ◌≡◌ {A = ℕ × ℕ} (a, b) (c, d)
pair e f = cc

pub edge_of-falling : (low high : ℕ) → low < high → edge_of high low ≡ (low, high)
edge_of-falling low high lt = let e : min high low ≡ low = omega arith in let e' : max high low ≡ high = omega arith in pair e e'

pub edge_of-rising : (low high : ℕ) → low < high → edge_of low high ≡ (low, high)
edge_of-rising low high lt = let e : min low high ≡ low = omega arith in let e' : max low high ≡ high = omega arith in pair e e'

-- either order of an edge is of that edge
pub edge_of-flipped : (l : Label) (low high x y : ℕ) → low < high → flipped_by l low high ≡ (x, y) → edge_of x y ≡ (low, high)
edge_of-flipped label.Low low high x y lt e = sym (ap (λ (p : ℕ × ℕ). edge_of p.0 p.1) e) ∙ edge_of-falling low high lt
edge_of-flipped label.High low high x y lt e = sym (ap (λ (p : ℕ × ℕ). edge_of p.0 p.1) e) ∙ edge_of-rising low high lt
edge_of-flipped label.Peer low high x y lt e = sym (ap (λ (p : ℕ × ℕ). edge_of p.0 p.1) e) ∙ edge_of-falling low high lt

pub edge_of-swap : (x y : ℕ) → edge_of x y ≡ edge_of y x
edge_of-swap x y = let e : min x y ≡ min y x = omega arith in let e' : max x y ≡ max y x = omega arith in pair e e'

apart_of-flipped : (l : Label) (low high x y : ℕ) → low < high → flipped_by l low high ≡ (x, y) → x ≢ y
apart_of-flipped label.Low low high x y lt e = λ same. let h : ◌≡◌ {A = ℕ × ℕ} (high, low) (x, y) = e in let a : high ≡ x = ap (λ (p : ℕ × ℕ). p.0) h in
    let b : low ≡ y = ap (λ (p : ℕ × ℕ). p.1) h in omega arith
apart_of-flipped label.High low high x y lt e = λ same. let h : ◌≡◌ {A = ℕ × ℕ} (low, high) (x, y) = e in let a : low ≡ x = ap (λ (p : ℕ × ℕ). p.0) h in
    let b : high ≡ y = ap (λ (p : ℕ × ℕ). p.1) h in omega arith
apart_of-flipped label.Peer low high x y lt e = λ same. let h : ◌≡◌ {A = ℕ × ℕ} (high, low) (x, y) = e in let a : high ≡ x = ap (λ (p : ℕ × ℕ). p.0) h in
    let b : low ≡ y = ap (λ (p : ℕ × ℕ). p.1) h in omega arith

module _ (lines : List EdgeLine) (ok : AreApart lines) where
  pub line_of : (k x y : ℕ) → FlipsTo (flipped_orders lines) k x y → (line : EdgeLine) × (slice_get lines k ≡ Some line) × (flipped line ≡ (x, y))
  line_of k x y t = slice_get-unmap flipped lines k (x, y) t

  rising_at : (k : ℕ) (line : EdgeLine) → slice_get lines k ≡ Some line → line.low < line.high
  rising_at k line at = All-get (λ (l : EdgeLine). l.low < l.high) lines k line ok.rising at

  pub edge_from_flipped : (k x y : ℕ) → FlipsTo (flipped_orders lines) k x y → slice_get (edges_of lines) k ≡ Some (edge_of x y)
  edge_from_flipped k x y t =
      let w = line_of k x y t in
      slice_get-map (λ (e : EdgeLine). (e.low, e.high)) lines k w.0 w.1 ∙ ap (λ (e : Edge). Some e) (sym (edge_of-flipped w.0.label w.0.low w.0.high x y (rising_at k w.0 w.1) w.2))

  pub proper : IsProper (flipped_orders lines)
  proper = record {
    one = λ i j x y t u. ok.once i j (edge_of x y) (edge_from_flipped i x y t) (edge_from_flipped j x y u);
    no_opposite = λ i j x y t u.
        let same = ok.once i j (edge_of x y) (edge_from_flipped i x y t) (edge_from_flipped j y x u ∙ ap (λ (e : Edge). Some e) (edge_of-swap y x)) in
        let both = same_Some (x, y) (y, x) (sym t ∙ ap (slice_get (flipped_orders lines)) same ∙ u) in
        let w = line_of i x y t in
        apart_of-flipped w.0.label w.0.low w.0.high x y (rising_at i w.0 w.1) w.2 (ap (λ (p : ℕ × ℕ). p.0) both);
  }

  -- an order whose edge is in no line is none to which an edge flips
  pub absent : (x y : ℕ) → (Contains (edges_of lines) (edge_of x y) → ⊥) → (k : ℕ) → FlipsTo (flipped_orders lines) k x y → ⊥
  absent x y none k t = none (Contains-from_has (edges_of lines) (edge_of x y) (k, edge_from_flipped k x y t))

  -- nor is one whose edge flips to another
  pub otherwise : (place : ℕ) (line : EdgeLine) (x y : ℕ) → slice_get (edges_of lines) place ≡ Some (edge_of x y) → slice_get lines place ≡ Some line → (flipped line ≡ (x, y) → ⊥) →
      (k : ℕ) → FlipsTo (flipped_orders lines) k x y → ⊥
  otherwise place line x y at its_line other k t =
      let same = ok.once place k (edge_of x y) at (edge_from_flipped k x y t) in
      let w = line_of k x y t in
      let is : line ≡ w.0 = same_Some line w.0 (sym its_line ∙ ap (slice_get lines) same ∙ w.1) in
      other (ap flipped is ∙ w.2)

pub flips_of : (lines : List EdgeLine) (k x y : ℕ) (line : EdgeLine) → slice_get lines k ≡ Some line → flipped line ≡ (x, y) → FlipsTo (flipped_orders lines) k x y
flips_of lines k x y line at e = slice_get-map flipped lines k line at ∙ ap (λ (p : ℕ × ℕ). Some p) e

-- a place below the limit has an index
pub indexed : (P : ℕ → Type 0) (Q : Type 0) (place : ℕ) (r : Option ℕ) → (IsNone r ↔ (most_places ≤ place)) → IfSome r (λ i. i ≡ place) → place < most_places → P place → MatchOption r Q P
indexed P Q place None none some lt h = let le = none.0 refl in absurd (omega arith)
indexed P Q place (Some i) none some lt h = subst P (sym some) h
