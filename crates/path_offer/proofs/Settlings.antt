-- One arc after the other is met.
use Rattle.std.proofs.Common.{◌≡◌, ℕ, ◌+◌, ◌*◌, ◌/◌, ◌<◌, ◌≤◌, inl, inr, List, Some, length, flat_map, refl, sym, ap, ◌∙◌, subst, arith}
use Rattle.relationships.specs.declared.label.End.{End}
use Rattle.tor_digraph.specs.Walks.{IsArc, Reaches}
use Rattle.tor_clauses.specs.Literals.{lit_of, opposite_node, Holds}
use Rattle.tor_clauses.specs.Flipping.{ImplicationHolds}
use Rattle.tor_mend.specs.Mends.{IsMended, IsUnmet, IsSide}
use Rattle.path_offer.specs.Repairs.{IsTouched, IsArcMended, IsRepaired}
use Rattle.tor_clauses.specs.declared.triple.Triple.{Triple}
use Rattle.tor_clauses.specs.Triples.{arcs_of}
use Rattle.tor_clauses.proofs.LiteralLemmas.{opposite_node_twice}
use Rattle.tor_clauses.proofs.Sides.{holds_one, holds_either, holds_or_not}
use Rattle.tor_clauses.proofs.Arcs.{next_arc}
use Rattle.tor_clauses.proofs.Ways.{some_same}

tails : (e f : ℕ × ℕ) → Some e ≡ Some f → e.0 ≡ f.0
tails e f same = ap (λ (p : ℕ × ℕ). p.0) (some_same same)

heads : (e f : ℕ × ℕ) → Some e ≡ Some f → e.1 ≡ f.1
heads e f same = ap (λ (p : ℕ × ℕ). p.1) (some_same same)

module _ (arcs : List (ℕ × ℕ)) (old new : List End) (arc l m : ℕ) (is : IsArc arcs arc l m) where
  -- the arc is met by every change if it is met for its two ends
  met_by : ImplicationHolds new l m → (a b : ℕ) → IsArc arcs arc a b → ImplicationHolds new a b
  met_by met a b other = subst (λ n. ImplicationHolds new n b) (tails (l, m) (a, b) (sym is ∙ other)) (subst (ImplicationHolds new l) (heads (l, m) (a, b) (sym is ∙ other)) met)

  pub settled_head : Holds old (lit_of l) → (Holds old (lit_of m) → ⊥) → IsMended arcs old new m → IsArcMended arcs old new arc
  settled_head held unheld mended = record {
    stays = λ a b there met. mended.met a b there (inl met);
    met = met_by (mended.met l m (arc, is) (inr (inl refl)));
    changed = λ x h not. (l, m, is, inl (mended.changed x h not));
    same = λ met. absurd (unheld (met l m is held));
  }

  pub settled_tail : (mid : List End) (start : ℕ) → mid ≡ old → start ≡ opposite_node l → Holds old (lit_of l) → (Holds old (lit_of m) → ⊥) → IsMended arcs mid new start → IsArcMended arcs old new arc
  settled_tail mid start before opposite held unheld other =
      let mended = subst (λ ends. IsMended arcs ends new (opposite_node l)) before (subst (IsMended arcs mid new) opposite other) in
      record {
        stays = λ a b there met. mended.met a b there (inl met);
        met = met_by (mended.met l m (arc, is) (inr (inr refl)));
        changed = λ x h not. (l, m, is, inr (mended.changed x h not));
        same = λ met. absurd (unheld (met l m is held));
      }

-- an arc that is met already
pub settled_still : (arcs : List (ℕ × ℕ)) (ends : List End) (arc l m : ℕ) → IsArc arcs arc l m → ImplicationHolds ends l m → IsArcMended arcs ends ends arc
settled_still arcs ends arc l m is met = record {
  stays = λ a b there held. held;
  met = met_by arcs ends ends arc l m is met;
  changed = λ x h not. absurd (not h);
  same = λ all. refl;
}

-- an arc is met where its partner is
met_partner : (ends : List End) (l m : ℕ) → m / 2 < length ends → ImplicationHolds ends (opposite_node m) (opposite_node l) → ImplicationHolds ends l m
met_partner ends l m inside met held = elim (holds_either ends m inside) [
  | inl there ↦ there
  | inr other ↦ absurd (holds_one ends l held (met other))
]

-- an arc that is not met, and its partner
module _ (arcs : List (ℕ × ℕ)) (arc side l m : ℕ) (is : IsArc arcs arc l m) where
  pub unmet_side : (ends : List End) → m / 2 < length ends → IsSide arcs arc side → IsUnmet arcs ends arc → IsUnmet arcs ends side
  unmet_side ends inside (inl same) unmet = λ a b there. unmet a b (subst (λ k. IsArc arcs k a b) same there)
  unmet_side ends inside (inr partner) unmet = λ a b there.
      let ways = some_same (sym (partner l m is) ∙ there) in
      let tail : opposite_node m ≡ a = ap (λ (p : ℕ × ℕ). p.0) ways in
      let head : opposite_node l ≡ b = ap (λ (p : ℕ × ℕ). p.1) ways in
      let so = unmet l m is in (
        subst (λ n. Holds ends (lit_of n)) tail (elim (holds_either ends m inside) [ inl h ↦ absurd (so.1 h) | inr h ↦ h ]),
        subst (λ n. Holds ends (lit_of n) → ⊥) head (λ h. holds_one ends l so.0 h),
      )

  -- where the one is mended, so is the other
  pub mended_side : (old new : List End) → m / 2 < length new → IsSide arcs arc side → IsUnmet arcs old arc → IsArcMended arcs old new side → IsArcMended arcs old new arc
  mended_side old new inside (inl same) unmet mended = subst (IsArcMended arcs old new) same mended
  mended_side old new inside (inr partner) unmet mended = record {
    stays = mended.stays;
    met = met_by arcs old new arc l m is (met_partner new l m inside (mended.met (opposite_node m) (opposite_node l) (partner l m is)));
    changed = λ x h not. touched x (mended.changed x h not);
    same = λ met. absurd ((unmet l m is).1 (met l m is (unmet l m is).0));
  }
    where
      touched : (x : ℕ) → IsTouched arcs side x → IsTouched arcs arc x
      touched x (a, b, there, ways) =
          let both = some_same (sym (partner l m is) ∙ there) in
          let tail : a ≡ opposite_node m = ap (λ (p : ℕ × ℕ). p.0) (sym both) in
          let head : b ≡ opposite_node l = ap (λ (p : ℕ × ℕ). p.1) (sym both) in (
            l,
            m,
            is,
            elim ways [
              | inl r ↦ inr (subst (λ n. Reaches arcs n x) head r)
              | inr r ↦ inl (subst (λ n. Reaches arcs n x) (ap opposite_node tail ∙ opposite_node_twice m) r)
            ],
          )

-- one triple after the other: its first arc is met, and so is the other, its partner
module _ (ts : List Triple) (arcs : List (ℕ × ℕ)) (are : arcs ≡ flat_map arcs_of ts) (first : ℕ) (old : List End) where
  pub repaired_next : (cur new : List End) (k arc : ℕ) → arc ≡ k * 2 → first ≤ k * 2 → ((j l m : ℕ) → IsArc arcs j l m → m / 2 < length new) →
      IsRepaired arcs first (k * 2) old cur → IsArcMended arcs cur new arc → IsRepaired arcs first ((k + 1) * 2) old new
  repaired_next cur new k arc at le inside r other =
      let place : ℕ = k * 2 in
      let s : IsArcMended arcs cur new place = subst (IsArcMended arcs cur new) at other in
      record {
        met = λ j l m lt there. elim (next_arc ts arcs k j l m are lt there) [
          | inl before ↦ s.stays l m (j, there) (r.met j l m before there)
          | inr (inl same) ↦ s.met l m (subst (λ i. IsArc arcs i l m) same there)
          | inr (inr partner) ↦ met_partner new l m (inside j l m there) (s.met (opposite_node m) (opposite_node l) partner)
        ];
        changed = λ x h not. elim (holds_or_not cur x) [
          | inl held ↦ r.changed x held not
          | inr unheld ↦ (place, le, s.changed x h unheld)
        ];
        same = λ met. (
            let before : cur ≡ old = r.same (λ j l m lt there. met j l m (omega (arith, lt)) there) in
            s.same (λ l m there. subst (λ ends. ImplicationHolds ends l m) (sym before) (met place l m (omega arith) there)) ∙ before
            );
      }
