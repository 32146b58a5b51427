-- Orders that are settled one after the other.
use Rattle.std.proofs.Common.{◌≡◌, ℕ, inl, inr, List, [], length, sym, ap, subst, arith, Contains}
use Rattle.relationships.specs.Evidence.{Show}
use Rattle.tor_digraph.specs.Reached.{IsGrown}
use Rattle.tor_digraph.proofs.Closings.{reaches_trans}
use Rattle.tor_arena.proofs.Gets.{none-in}
use Rattle.tor_clauses.specs.Literals.{opposite_node}
use Rattle.tor_clauses.specs.Formulas.{numbered}
use Rattle.tor_clauses.specs.Flipping.{HasPartners}
use Rattle.tor_clauses.proofs.Flips.{reach_own}
use Rattle.tor_digraph.specs.Spreading.{IsClosed}
use Rattle.tor_digraph.specs.NodeSets.{Nodes}
use Rattle.order_trials.specs.Posing.{Posed}
use Rattle.order_trials.specs.declared.showing.Shown.{Shown}
use Rattle.order_trials.specs.Showing.{IsFullyShown}
use Rattle.order_trials.specs.Settling.{IsTogether}
use Rattle.order_trials.proofs.Showings.{near-walk, grown-cases}

-- ---- no order yet

pub nothing_shown : (posed : Posed) (shown : Shown) → shown.nodes.count ≡ posed.formula.net.nodes → shown.nodes.items ≡ [] → shown.whys ≡ [] → IsFullyShown posed shown
nothing_shown posed shown count none empty = record {
  showing = record {
    count = count;
    forced = λ n h. absurd (none-in none h);
    walks = record {
      orders = [];
      many = sym (ap length none);
      says = λ k n lt at. absurd (let e = ap length none in omega (arith, lt, e));
      shown = subst (λ ws. Show (numbered posed.graph posed.formula.paths) ws []) (sym empty) tt;
    };
  };
  closed = λ x y h. absurd (none-in none h);
}

-- ---- one order more

module _ (posed : Posed) (partners : HasPartners posed.formula.net.arcs) where
  -- what was reached with it does not lead to its opposite
  pub together_more : (shown : List ℕ) (node : ℕ) (old new : Nodes) → IsClosed posed.formula.net.arcs [] shown → (Contains shown (opposite_node node) → ⊥) →
      IsTogether posed shown old → new.count ≡ posed.formula.net.nodes → IsClosed posed.formula.net.arcs shown new.items →
      IsGrown posed.formula.net.arcs node old.items new.items → (Contains new.items (opposite_node node) → ⊥) → IsTogether posed shown new
  together_more shown node old new closed unshown t count near grown none = record {
    count = count;
    closed = near;
    free = λ n h r. elim (grown-cases posed.formula.net.arcs node old.items new.items grown n h) [
      | inl was ↦ t.free n was r
      | inr w ↦ elim (near-walk posed shown new.items closed near grown.has_start (reach_own posed.formula.net.arcs partners w (reaches_trans w r))) [ inl k ↦ none k | inr k ↦ unshown k ]
    ];
  }

-- what was reached before stays, where more is shown
pub together_kept : (posed : Posed) (shown more : List ℕ) (old new : Nodes) → IsTogether posed shown old → ((n : ℕ) → Contains shown n → Contains more n) →
    new.count ≡ posed.formula.net.nodes → new.items ≡ old.items → IsTogether posed more new
together_kept posed shown more old new t keeps count same = record {
  count = count;
  closed = λ x y h arc. elim (t.closed x y (subst (λ (l : List ℕ). Contains l x) same h) arc) [
    | inl k ↦ inl (subst (λ (l : List ℕ). Contains l y) (sym same) k)
    | inr k ↦ inr (keeps y k)
  ];
  free = λ n h. t.free n (subst (λ (l : List ℕ). Contains l n) same h);
}

pub together_none : (posed : Posed) (shown : List ℕ) (r : Nodes) → r.count ≡ posed.formula.net.nodes → r.items ≡ [] → IsTogether posed shown r
together_none posed shown r count e = record { count = count; closed = λ x y h. absurd (none-in e h); free = λ n h. absurd (none-in e h) }
