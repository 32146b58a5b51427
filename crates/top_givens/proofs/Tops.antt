-- Which edges have exactly one end in the top, and what is known of these.
use Rattle.std.proofs.Common.{◌≡◌, ℕ, inl, inr, Bool, true, false, not, min, max, List, [], ◌∷◌, ◌++◌, ◌||◌, if◌then◌else◌, refl, sym, ap, ap₂, ◌∙◌, subst, arith}
use mathlib.Core.Bool.{beq}
use Rattle.std.specs.List.{list_any, AllByRecursion}
use Rattle.std.proofs.lemmas.Bool.{cases_Bool, cases_order}
use Rattle.relationships.specs.Graph.{Edge, edge_of, is_same}
use Rattle.relationships.proofs.GivenLemmas.{edge_back}
use Rattle.top_givens.specs.TopGivens.{is_top, has_one_top, given_over, top_given, is_paired}
use Rattle.top_givens.proofs.EdgeFacts.{IsEdge, any_append, is_edge}

-- what holds of both orders of two ASes holds of their edge
pub at_edge : (P : Edge → Type 0) (a b : ℕ) → P (a, b) → P (b, a) → P (edge_of a b)
at_edge P a b p q =
    elim (cases_order a b) [
      | inl same ↦ subst P (in_order (omega (arith, same)) (omega (arith, same))) p
      | inr o ↦ elim o [ inl lt ↦ subst P (in_order (omega (arith, lt)) (omega (arith, lt))) p | inr lt ↦ subst P (in_order (omega (arith, lt)) (omega (arith, lt))) q ]
    ]
  where
    in_order : {c d : ℕ} → c ≡ min a b → d ≡ max a b → ◌≡◌ {A = Edge} (c, d) (edge_of a b)
    in_order e f = cc

module _ (top : List ℕ) where
  one_back : (s t : Bool) → (if t then not s else s) ≡ (if s then not t else t)
  one_back true true = refl
  one_back true false = refl
  one_back false true = refl
  one_back false false = refl

  pub one_of_two : (a b : ℕ) → has_one_top top (edge_of a b) ≡ (if is_top top a then not (is_top top b) else is_top top b)
  one_of_two a b =
      at_edge (λ e. has_one_top top e ≡ (if is_top top a then not (is_top top b) else is_top top b)) a b refl (one_back (is_top top a) (is_top top b))

  pub given_of_two : (a b : ℕ) → is_top top a ≡ true → is_top top b ≡ false → top_given top (edge_of a b) ≡ given_over a b
  given_of_two a b is isnt = at_edge (λ e. top_given top e ≡ given_over a b) a b (rw is refl) (rw isnt refl)

  pub given_of_other : (a b : ℕ) → is_top top a ≡ false → is_top top b ≡ true → top_given top (edge_of a b) ≡ given_over b a
  given_of_other a b isnt is = at_edge (λ e. top_given top e ≡ given_over b a) a b (rw isnt refl) (rw is refl)

  none_by : (s t : Bool) → beq s t ≡ true → (if s then not t else t) ≡ false
  none_by true true h = refl
  none_by true false h = absurd (cc h)
  none_by false true h = absurd (cc h)
  none_by false false h = refl

  some_by : (s t : Bool) → beq s t ≡ false → (if s then not t else t) ≡ true
  some_by true true h = absurd (cc h)
  some_by true false h = refl
  some_by false true h = refl
  some_by false false h = absurd (cc h)

  -- as two tests say it
  pub none_of_two : (a b : ℕ) (s t : Bool) → s ≡ is_top top a → t ≡ is_top top b → beq s t ≡ true → has_one_top top (edge_of a b) ≡ false
  none_of_two a b s t p q h = one_of_two a b ∙ ap₂ (λ u v. if u then not v else v) (sym p) (sym q) ∙ none_by s t h

  pub some_of_two : (a b : ℕ) (s t : Bool) → s ≡ is_top top a → t ≡ is_top top b → beq s t ≡ false → has_one_top top (edge_of a b) ≡ true
  some_of_two a b s t p q h = one_of_two a b ∙ ap₂ (λ u v. if u then not v else v) (sym p) (sym q) ∙ some_by s t h

  other_by : (s t : Bool) → beq s t ≡ false → t ≡ not s
  other_by true true h = absurd (cc h)
  other_by true false h = refl
  other_by false true h = refl
  other_by false false h = absurd (cc h)

  -- what is known of the two, where exactly one is of the top
  pub given_tested : (a b : ℕ) (s t : Bool) → s ≡ is_top top a → t ≡ is_top top b → beq s t ≡ false →
      top_given top (edge_of a b) ≡ (if s then given_over a b else given_over b a)
  given_tested a b true t p q h = given_of_two a b (sym p) (sym q ∙ other_by true t h)
  given_tested a b false t p q h = given_of_other a b (sym p) (sym q ∙ other_by false t h)

  -- the given of an edge names its two
  pub given_edge : (e : Edge) → IsEdge e → edge_of (top_given top e).over (top_given top e).under ≡ e
  given_edge e is = elim (cases_Bool (is_top top e.0)) [ inl t ↦ rw t is | inr f ↦ rw f (edge_back e.1 e.0 ∙ is) ]

-- ---- pairs

pub paired_append : (pairs more : List (ℕ × ℕ)) (e : Edge) → is_paired (pairs ++ more) e ≡ (is_paired pairs e || is_paired more e)
paired_append pairs more e = any_append (λ p. is_same e (edge_of p.0 p.1)) pairs more

pub paired_edges : (es : List Edge) (e : Edge) → AllByRecursion IsEdge es → is_paired es e ≡ list_any (is_same e) es
paired_edges [] e h = refl
paired_edges (f ∷ es) e h = ap₂ (λ s t. s || t) (ap (is_same e) h.0) (paired_edges es e h.1)

pub paired_edge : (a b : ℕ) (e : Edge) → is_paired ((a, b) ∷ []) e ≡ is_paired (edge_of a b ∷ []) e
paired_edge a b e = ap (λ (f : Edge). is_same e f || false) (sym (is_edge a b))
