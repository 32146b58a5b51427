-- Literals are made to hold one after the other, and that is taken back.
use Rattle.std.proofs.Common.{◌≡◌, ◌≢◌, ℕ, zero, suc, ◌+◌, ◌*◌, ◌/◌, ◌%◌, ◌<◌, ◌≤◌, inl, inr, List, [], ◌∷◌, ◌++◌, Some, length, set, refl, sym, ap, ◌∙◌, subst, arith}
use Rattle.std.specs.Prelude.{slice_get}
use Rattle.std.proofs.lemmas.Bool.{cases_eq}
use Rattle.std.proofs.lemmas.Option.{slice_get_within}
use Rattle.relationships.specs.declared.label.End.{End}
use Rattle.tor_arena.proofs.Gets.{slice_get-push_old, slice_get-push_cases, slice_get-push_last, slice_get-set_same, slice_get-set_other}
use Rattle.as_graph.specs.EdgeSteps.{end_of}
use Rattle.tor_clauses.specs.Literals.{lit_of, Holds}
use Rattle.tor_mend.specs.declared.flipping.Flip.{Flip}
use Rattle.tor_digraph.specs.Trails.{StandsAt}
use Rattle.tor_mend.specs.Searches.{IsVisited, AreUnheld}
use Rattle.tor_clauses.specs.Flipping.{IsAgreed}
use Rattle.tor_mend.specs.Mends.{flipped_back, AreInside}
use Rattle.tor_clauses.proofs.Sides.{same_edge, holds_either}
use Rattle.tor_clauses.proofs.Ways.{some_same}

-- ---- going back

module _ {X : Type 0} where
  set_twice : (xs : List X) (i : ℕ) (a b : X) → set (set xs i a) i b ≡ set xs i b
  set_twice [] i a b = refl
  set_twice (x ∷ xs) zero a b = refl
  set_twice (x ∷ xs) (suc i) a b = ap (λ (l : List X). x ∷ l) (set_twice xs i a b)

  set_own : (xs : List X) (i : ℕ) (b : X) → slice_get xs i ≡ Some b → set xs i b ≡ xs
  set_own [] i b e = refl
  set_own (x ∷ xs) zero b e = ap (λ y. y ∷ xs) (sym (some_same e))
  set_own (x ∷ xs) (suc i) b e = ap (λ (l : List X). x ∷ l) (set_own xs i b e)

pub flipped_back-push : (ends : List End) (flips : List Flip) (flip : Flip) → flipped_back ends (flips ++ flip ∷ []) ≡ flipped_back (set ends flip.edge flip.was) flips
flipped_back-push ends [] flip = refl
flipped_back-push ends (f ∷ flips) flip = ap (λ l. set l f.edge f.was) (flipped_back-push ends flips flip)

-- one flip more changes nothing of what was before
pub back_more : (ends new : List End) (flips more : List Flip) (flip : Flip) (end : End) → slice_get ends flip.edge ≡ Some flip.was →
    more ≡ flips ++ flip ∷ [] → new ≡ set ends flip.edge end → flipped_back new more ≡ flipped_back ends flips
back_more ends new flips more flip end was e f =
    ap (flipped_back new) e ∙ ap (λ l. flipped_back l (flips ++ flip ∷ [])) f ∙ flipped_back-push (set ends flip.edge end) flips flip ∙
    ap (λ l. flipped_back l flips) (set_twice ends flip.edge end flip.was ∙ set_own ends flip.edge flip.was was)

pub inside_more : (count : ℕ) (flips more : List Flip) (flip : Flip) → flip.edge < count → more ≡ flips ++ flip ∷ [] → AreInside count flips → AreInside count more
inside_more count flips more flip lt e inside k f at = elim (slice_get-push_cases flips flip k f (sym (ap (λ (l : List Flip). slice_get l k) e) ∙ at)) [
  | inl old ↦ inside k f old
  | inr last ↦ subst (λ (g : Flip). g.edge < count) (sym last.1) lt
]

pub inside_less : (count : ℕ) (flips rest : List Flip) (flip : Flip) → flips ≡ rest ++ flip ∷ [] → AreInside count flips → AreInside count rest
inside_less count flips rest flip e inside k f at = inside k f (ap (λ (l : List Flip). slice_get l k) e ∙ slice_get-push_old rest (flip ∷ []) k f at)

pub inside_last : (count : ℕ) (flips rest : List Flip) (flip : Flip) → flips ≡ rest ++ flip ∷ [] → AreInside count flips → flip.edge < count
inside_last count flips rest flip e inside = inside (length rest) flip (ap (λ (l : List Flip). slice_get l (length rest)) e ∙ slice_get-push_last rest flip)

-- ---- flipping

pub record IsFlipped (old new : List End) (visited : List ℕ) (count : ℕ) : Type 0 where
  pub held : (k x : ℕ) → k < count → StandsAt visited k x → Holds new (lit_of x)
  pub other : (e : ℕ) → ((k x : ℕ) → k < count → StandsAt visited k x → x / 2 ≢ e) → slice_get new e ≡ slice_get old e

pub flipped_begun : (old : List End) (visited : List ℕ) → IsFlipped old old visited 0
flipped_begun old visited = record { held = λ k x lt at. absurd (omega (arith, lt)); other = λ e apart. refl }

module _ (old : List End) (visited : List ℕ) (unheld : AreUnheld old visited) where
  -- visits of one edge are of one literal
  one_literal : (x k y : ℕ) → x < length old * 2 → (i : ℕ) → StandsAt visited i x → StandsAt visited k y → y / 2 ≡ x / 2 → y ≡ x
  one_literal x k y below i at other same = elim (same_edge y x same) [
    | inl e ↦ e
    | inr e ↦ absurd (elim (holds_either old x (omega (arith, below))) [
      | inl h ↦ unheld i x at h
      | inr h ↦ unheld k y other (subst (λ n. Holds old (lit_of n)) (sym e) h)
    ])
  ]

  pub flipped_next : (cur new : List End) (i x : ℕ) → StandsAt visited i x → x < length old * 2 → length cur ≡ length old → IsFlipped old cur visited i →
      new ≡ set cur (x / 2) (end_of (x % 2)) → IsFlipped old new visited (i + 1)
  flipped_next cur new i x at below many t e = subst (λ l. IsFlipped old l visited (i + 1)) (sym e) (record {
    held = λ k y lt there. elim (cases_eq (y / 2) (x / 2)) [
      | inl same ↦ subst (λ n. Holds (set cur (x / 2) (end_of (x % 2))) (lit_of n)) (sym (one_literal x k y below i at there same)) here
      | inr apart ↦ slice_get-set_other cur (x / 2) (end_of (x % 2)) (y / 2) apart ∙ t.held k y (earlier k y lt there apart) there
    ];
    other = λ f apart. slice_get-set_other cur (x / 2) (end_of (x % 2)) f (λ same. apart i x (omega arith) at (sym same)) ∙
        t.other f (λ k y lt there. apart k y (omega (arith, lt)) there);
  })
    where
      here : Holds (set cur (x / 2) (end_of (x % 2))) (lit_of x)
      here = slice_get-set_same cur (x / 2) (end_of (x % 2)) (omega (arith, below, many))

      earlier : (k y : ℕ) → k < i + 1 → StandsAt visited k y → y / 2 ≢ x / 2 → k < i
      earlier k y lt there apart = elim (cases_eq k i) [
        | inl same ↦ absurd (apart (ap (λ n. n / 2) (some_same (sym there ∙ ap (slice_get visited) same ∙ at))))
        | inr other ↦ omega (arith, lt, other)
      ]

pub flipped_done : (old : List End) (visited : List ℕ) (new : List End) (count : ℕ) → length visited ≤ count → IsFlipped old new visited count → IsAgreed old new (IsVisited visited)
flipped_done old visited new count le t = record {
  held = λ x h. let lt = slice_get_within visited h.0 x h.1 in t.held h.0 x (omega (arith, lt, le)) h.1;
  other = λ e apart. t.other e (λ k x lt at. apart x (k, at));
}
