-- Steps back from a node, and the way that they give.
use Rattle.std.proofs.Common.{◌≡◌, ℕ, ◌+◌, ◌<◌, inl, inr, List, [], ◌∷◌, ◌++◌, Some, None, length, refl, sym, ◌∙◌, ap, subst, arith}
use Rattle.std.specs.Prelude.{slice_get}
use Rattle.std.proofs.lemmas.List.{length_push}
use Rattle.std.proofs.lemmas.Option.{same_Some, slice_get_within}
use Rattle.tor_digraph.specs.Walks.{IsArc, IsWay}
use Rattle.tor_digraph.specs.Back.{IsBack}
use Rattle.tor_digraph.specs.Found.{IsSeen, IsFound, IsRoot, depth, depth_of}
use Rattle.tor_digraph.specs.declared.found.Found.{Found}
use Rattle.tor_digraph.specs.declared.found.Found.TheVariants.{No, Start, Along}
use Rattle.tor_arena.proofs.Gets.{slice_get-push_old, slice_get-push_cases, slice_get-push_last}

module _ {N A : Type 0} (place : N → ℕ) (found : List (Found N A)) where
  -- the tail of an arc of a tree is nearer to its root than the head
  pub falls-deeper : (x t : N) (a : A) (d : ℕ) → slice_get found (place x) ≡ Some (Along t a d) →
      (f : Found N A) × (slice_get found (place t) ≡ Some f) × IsSeen f × (depth f + 1 ≡ d) →
      depth_of (slice_get found (place t)) < depth_of (slice_get found (place x))
  falls-deeper x t a d at (f, tail, seen, e) = rw (at, tail) (omega (arith, e))

  -- a node that was found, but along no arc, is a root
  pub found-root : (x : N) (f : Found N A) → slice_get found (place x) ≡ Some f → IsFound place found x →
      ((t : N) (a : A) (d : ℕ) → f ≡ Along t a d → ⊥) → IsRoot place found x
  found-root x No at (f', is, seen) not = absurd (subst IsSeen (same_Some f' No (sym is ∙ at)) seen)
  found-root x Start at is not = at
  found-root x (Along t a d) at is not = absurd (not t a d refl)

module _ {N A : Type 0} (spot : A → ℕ) (arcs : List (N × N)) where
  pub back-none : (x : N) (back : List (N × A)) → back ≡ [] → IsBack spot arcs x x back
  back-none x back e = rw e (record {
    done = λ q. refl;
    bottom = λ s at. (let bad : None ≡ Some s = at in cc);
    top = λ k s n at. (let bad : None ≡ Some s = at in cc);
    between = λ k s t at. (let bad : None ≡ Some s = at in cc);
  })

  pub back-push : (from to end : N) (a : A) (back : List (N × A)) → IsBack spot arcs from end back → IsArc arcs (spot a) to from → IsBack spot arcs to end (back ++ (from, a) ∷ [])
  back-push from to end a back b arc = record {
    done = λ e. (let n : length (back ++ (from, a) ∷ []) ≡ length back + 1 = length_push back (from, a) in let z : length (back ++ (from, a) ∷ []) ≡ 0 = ap length e in absurd (omega arith));
    bottom = λ s at. elim (slice_get-push_cases back (from, a) 0 s at) [
      | inl p ↦ b.bottom s p
      | inr p ↦ ap (λ z. z.0) p.1 ∙ b.done (empty back (sym p.0))
    ];
    top = λ k s n at. (let m : length (back ++ (from, a) ∷ []) ≡ length back + 1 = length_push back (from, a) in elim (slice_get-push_cases back (from, a) k s at) [
      | inl p ↦ (let lt : k < length back = slice_get_within back k s p in absurd (omega arith))
      | inr p ↦ subst (λ z. IsArc arcs (spot z.1) to z.0) (sym p.1) arc
    ]);
    between = λ k s t x y. elim (slice_get-push_cases back (from, a) (k + 1) t y) [
      | inl q ↦ (let lt : k + 1 < length back = slice_get_within back (k + 1) t q in elim (slice_get-push_cases back (from, a) k s x) [
        | inl p ↦ b.between k s t p q
        | inr p ↦ absurd (omega arith)
      ])
      | inr q ↦ elim (slice_get-push_cases back (from, a) k s x) [
        | inl p ↦ subst (λ z. IsArc arcs (spot s.1) z.0 s.0) (sym q.1) (b.top k s (sym q.0) p)
        | inr p ↦ absurd (omega arith)
      ]
    ];
  }
    where
      empty : (xs : List (N × A)) → length xs ≡ 0 → xs ≡ []
      empty [] e = refl
      empty (x ∷ xs) e = absurd (omega arith)

  pub back-pop : (from end : N) (s : N × A) (back rest : List (N × A)) → back ≡ rest ++ s ∷ [] → IsBack spot arcs from end back → IsArc arcs (spot s.1) from s.0 × IsBack spot arcs s.0 end rest
  back-pop from end s back rest e b' = let b = subst (λ z. IsBack spot arcs from end z) e b' in let last : slice_get (rest ++ s ∷ []) (length rest) ≡ Some s = slice_get-push_last rest s in (
    b.top (length rest) s (length_push rest s) last,
    record {
      done = λ q. b.bottom s (subst (λ z. slice_get (z ++ s ∷ []) 0 ≡ Some s) (sym q) refl);
      bottom = λ t at. b.bottom t (slice_get-push_old rest (s ∷ []) 0 t at);
      top = λ k t n at. b.between k t s (slice_get-push_old rest (s ∷ []) k t at) (subst (λ z. slice_get (rest ++ s ∷ []) z ≡ Some s) n last);
      between = λ k t u x y. b.between k t u (slice_get-push_old rest (s ∷ []) k t x) (slice_get-push_old rest (s ∷ []) (k + 1) u y);
    },
  )

  pub way-start : (x : N) (nodes none : List N) (steps : List A) → none ≡ [] → nodes ≡ none ++ x ∷ [] → steps ≡ [] → IsWay spot arcs x x nodes steps
  way-start x nodes none steps e-none e e-steps = rw (e, e-none, e-steps) (record {
    one_more = omega arith;
    first = refl;
    last = refl;
    between = λ k a u v at. (let bad : None ≡ Some a = at in cc);
  })

  pub way-push : (start from to : N) (a : A) (nodes : List N) (steps : List A) → IsWay spot arcs start from nodes steps →
      IsArc arcs (spot a) from to → IsWay spot arcs start to (nodes ++ to ∷ []) (steps ++ a ∷ [])
  way-push start from to a nodes steps w arc =
      let n : length (nodes ++ to ∷ []) ≡ length nodes + 1 = length_push nodes to in
      let m : length (steps ++ a ∷ []) ≡ length steps + 1 = length_push steps a in
      let one : length nodes ≡ length steps + 1 = w.one_more in
      record {
        one_more = omega arith;
        first = slice_get-push_old nodes (to ∷ []) 0 start w.first;
        last = subst (λ z. slice_get (nodes ++ to ∷ []) z ≡ Some to) (one ∙ sym m) (slice_get-push_last nodes to);
        between = λ k b u v x y z. elim (slice_get-push_cases steps a k b x) [
          | inl p ↦ (let lt : k < length steps = slice_get_within steps k b p in elim (slice_get-push_cases nodes to k u y) [
            | inl q ↦ elim (slice_get-push_cases nodes to (k + 1) v z) [
              | inl r ↦ w.between k b u v p q r
              | inr r ↦ absurd (omega arith)
            ]
            | inr q ↦ absurd (omega arith)
          ])
          | inr p ↦ elim (slice_get-push_cases nodes to k u y) [
            | inl q ↦ elim (slice_get-push_cases nodes to (k + 1) v z) [
              | inl r ↦ (let lt : k + 1 < length nodes = slice_get_within nodes (k + 1) v r in absurd (omega arith))
              | inr r ↦ subst (λ t. IsArc arcs (spot b) u t) (sym r.1)
                  (subst (λ t. IsArc arcs (spot t) u to) (sym p.1)
                  (subst (λ t. IsArc arcs (spot a) t to) (same_Some from u (sym w.last ∙ subst (λ t. slice_get nodes t ≡ Some u) p.0 q)) arc))
            ]
            | inr q ↦ absurd (omega arith)
          ]
        ];
      }

  pub way-push_made : (start from to : N) (a : A) (nodes nodes' : List N) (steps steps' : List A) → IsWay spot arcs start from nodes steps →
      IsArc arcs (spot a) from to → nodes' ≡ nodes ++ to ∷ [] → steps' ≡ steps ++ a ∷ [] → IsWay spot arcs start to nodes' steps'
  way-push_made start from to a nodes nodes' steps steps' w arc e e' = rw (e, e') (way-push start from to a nodes steps w arc)
