-- One number of edges is forced.
use Rattle.std.proofs.Common.{◌≡◌, ℕ, zero, suc, ◌≤◌, true, false, inl, inr, cond, List, [], ◌∷◌, Some, length, sym, ap, ◌∙◌, arith}
use Rattle.std.specs.Prelude.{slice_get}
use Rattle.std.proofs.lemmas.Bool.{cases_Bool, false≢true}
use Rattle.std.proofs.lemmas.Option.{same_Some, slice_get_within}
use Rattle.tor_arena.proofs.Gets.{has-from_Contains, Contains-from_has}
use Rattle.relationships.specs.declared.label.End.{End}
use Rattle.relationships.specs.Graph.{Edge, is_same}
use Rattle.relationships.proofs.Edges.{same_edge}
use Rattle.tor_digraph.specs.Closing.{Has, IsOnce}
use Rattle.tor_digraph.proofs.Few.{few}
use Rattle.as_graph.proofs.Labelled.{same_itself}
use Rattle.asks.specs.Asks.{AreForcedBy}
use Rattle.asks.specs.AskLaws.{OneNumberLaw}

-- where an edge stands first
abbrev place_in : List Edge → Edge → ℕ
place_in [] f = 0
place_in (e ∷ es) f = cond (is_same f e) 0 (suc (place_in es f))

not_itself : (e f : Edge) → is_same f e ≡ false → e ≡ f → ⊥
not_itself e f n same = false≢true (sym n ∙ ap (is_same f) same ∙ same_itself f)

place_here : (e : Edge) (es : List Edge) (f : Edge) → is_same f e ≡ true → slice_get (e ∷ es) (place_in (e ∷ es) f) ≡ Some f
place_here e es f t = ap (λ b. slice_get (e ∷ es) (cond b 0 (suc (place_in es f)))) t ∙ ap (λ (g : Edge). Some g) (sym (same_edge f e t))

place_later : (e : Edge) (es : List Edge) (f : Edge) → is_same f e ≡ false → slice_get es (place_in es f) ≡ Some f →
    slice_get (e ∷ es) (place_in (e ∷ es) f) ≡ Some f
place_later e es f n at = ap (λ b. slice_get (e ∷ es) (cond b 0 (suc (place_in es f)))) n ∙ at

at_place : (es : List Edge) (k : ℕ) (f : Edge) → slice_get es k ≡ Some f → slice_get es (place_in es f) ≡ Some f
at_place [] k f at = cc
at_place (e ∷ es) zero f at = elim (cases_Bool (is_same f e)) [
  | inl t ↦ place_here e es f t
  | inr n ↦ absurd (not_itself e f n (same_Some e f at))
]
at_place (e ∷ es) (suc k) f at =
    let rest = at_place es k f at in
    elim (cases_Bool (is_same f e)) [ inl t ↦ place_here e es f t | inr n ↦ place_later e es f n rest ]

no_longer : (xs ys : List Edge) → IsOnce xs → ((f : Edge) → Has xs f → Has ys f) → length xs ≤ length ys
no_longer xs ys once into =
    few (place_in ys) xs (length ys)
    (λ i j f g lt a b e.
    let in_f = into f (i, a) in
    let in_g = into g (j, b) in
    let same : f ≡ g = same_Some f g (sym (at_place ys in_f.0 f in_f.1) ∙ ap (slice_get ys) e ∙ at_place ys in_g.0 g in_g.1) in
    let places = once i j g (a ∙ ap (λ (h : Edge). Some h) same) b in
    omega (arith, lt, places))
    (λ k f at. let w = into f (k, at) in slice_get_within ys (place_in ys f) f (at_place ys w.0 f w.1))

-- two lists of the edges that are forced are equally long
pub as_long : (served : List (List ℕ)) (es : List Edge) (e : Edge) (end : End) (xs ys : List Edge) → AreForcedBy served es e end xs →
    AreForcedBy served es e end ys → length xs ≡ length ys
as_long served es e end xs ys a b =
    let up = no_longer xs ys a.once (λ f h. has-from_Contains ys f ((b.exact f).1 ((a.exact f).0 (Contains-from_has xs f h)))) in
    let down = no_longer ys xs b.once (λ f h. has-from_Contains xs f ((a.exact f).1 ((b.exact f).0 (Contains-from_has ys f h)))) in
    omega (arith, up, down)

pub one_number_law : OneNumberLaw
one_number_law served es e end m n a b = sym a.2 ∙ as_long served es e end a.0 b.0 a.1 b.1 ∙ b.2
