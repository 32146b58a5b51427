-- Ways that grow by one arc, and chains of arcs.
use Rattle.std.proofs.Common.{◌≡◌, ℕ, ◌+◌, ◌<◌, inl, inr, List, [], ◌∷◌, ◌++◌, Some, length, refl, sym, ap, ◌∙◌, subst, arith}
use Rattle.std.specs.Prelude.{slice_get}
use Rattle.std.proofs.lemmas.List.{length_push}
use Rattle.std.proofs.lemmas.Option.{slice_get_within}
use Rattle.tor_digraph.specs.Walks.{IsArc}
use Rattle.tor_arena.proofs.Gets.{slice_get-push_old, slice_get-push_cases, slice_get-push_last}
use Rattle.tor_clauses.specs.Leading.{IsPlainWay}
use Rattle.tor_digraph.specs.Trails.{StandsAt}
use Rattle.tor_clauses.specs.Rounds.{IsChain}

pub some_same : {X : Type 0} {a b : X} → Some a ≡ Some b → a ≡ b
some_same e = cc

-- ---- ways

module _ (arcs : List (ℕ × ℕ)) where
  pub led_more : (start l m a : ℕ) (nodes new steps more : List ℕ) → IsArc arcs a l m → new ≡ nodes ++ m ∷ [] → more ≡ steps ++ a ∷ [] →
      IsPlainWay arcs start l nodes steps → IsPlainWay arcs start m new more
  led_more start l m a nodes new steps more arc e f way =
      let many = way.one_more in
      let long : length (nodes ++ m ∷ []) ≡ length nodes + 1 = length_push nodes m in
      let longer : length (steps ++ a ∷ []) ≡ length steps + 1 = length_push steps a in
      let count : length (steps ++ a ∷ []) ≡ length nodes = omega (arith, many, longer) in
      subst (λ ns. IsPlainWay arcs start m ns more) (sym e) (subst (IsPlainWay arcs start m (nodes ++ m ∷ [])) (sym f) (record {
        one_more = omega (arith, long, longer, many);
        first = slice_get-push_old nodes (m ∷ []) 0 start way.first;
        last = subst (λ k. slice_get (nodes ++ m ∷ []) k ≡ Some m) (sym count) (slice_get-push_last nodes m);
        between = λ k b u v step here next. elim (slice_get-push_cases steps a k b step) [
          | inl old ↦ (
              let lt = slice_get_within steps k b old in
              way.between k b u v old (within k u (omega (arith, lt, many)) here) (within (k + 1) v (omega (arith, lt, many)) next)
              )
          | inr last ↦ (
              let at = last.0 in
              let from : u ≡ l = some_same (sym (within k u (omega (arith, at, many)) here) ∙ ap (slice_get nodes) at ∙ way.last) in
              let place : k + 1 ≡ length nodes = omega (arith, at, many) in
              let to : v ≡ m = some_same (sym next ∙ ap (slice_get (nodes ++ m ∷ [])) place ∙ slice_get-push_last nodes m) in
              subst (λ s. IsArc arcs s u v) (sym last.1) (subst (λ n. IsArc arcs a n v) (sym from) (subst (IsArc arcs a l) (sym to) arc))
              )
        ];
      }))
    where
      within : (k x : ℕ) → k < length nodes → slice_get (nodes ++ m ∷ []) k ≡ Some x → slice_get nodes k ≡ Some x
      within k x lt at = elim (slice_get-push_cases nodes m k x at) [
        | inl old ↦ old
        | inr last ↦ (let e = last.0 in absurd (omega (arith, e, lt)))
      ]

  -- ---- chains

  pub chain_push : (chain : List ℕ) (a w u x : ℕ) → IsArc arcs a w u → IsChain arcs chain u x → IsChain arcs (chain ++ a ∷ []) w x
  chain_push [] a w u x arc same = (w, subst (IsArc arcs a w) same arc, refl)
  chain_push (b ∷ chain) a w u x arc h = (h.0, h.1, chain_push chain a w u h.0 arc h.2)

  pub chain_pop : (chain : List ℕ) (a w x : ℕ) → IsChain arcs (chain ++ a ∷ []) w x → (u : ℕ) × IsArc arcs a w u × IsChain arcs chain u x
  chain_pop [] a w x h = (x, subst (λ n. IsArc arcs a n x) (sym h.2) h.1, refl)
  chain_pop (b ∷ chain) a w x h = let r = chain_pop chain a w h.0 h.2 in (r.0, r.1, (h.0, h.1, r.2))

-- ---- what was visited

pub one_node : (nodes : List ℕ) (k x y : ℕ) → StandsAt nodes k x → StandsAt nodes k y → x ≡ y
one_node nodes k x y s t = some_same (sym s ∙ t)
