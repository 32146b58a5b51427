-- The marks beside how nodes were found.
use Rattle.std.proofs.Common.{◌≡◌, ℕ, ◌+◌, ◌<◌, ◌⊎◌, inl, inr, Bool, false, List, ◌++◌, Some, length, take, min, length-set, length-append, length-take, refl, sym, ap, ap₂, ◌∙◌, subst, arith}
use Rattle.std.specs.Prelude.{slice_get, slice_set, replicate, ◌↔◌, IsTrue, Contains}
use Rattle.std.proofs.lemmas.Bool.{false≢true}
use Rattle.std.proofs.lemmas.List.{length-replicate}
use Rattle.std.proofs.lemmas.Option.{slice_get_within}
use Rattle.std.proofs.Math.Seq.{take-append_seam}
use Rattle.tor_digraph.specs.Found.{IsSeen, IsFound}
use Rattle.tor_digraph.specs.Reached.{Reach, AreSeen}
use Rattle.tor_digraph.specs.Traces.{AreMarked}
use Rattle.tor_digraph.specs.declared.found.Found.{Found}
use Rattle.tor_digraph.specs.declared.found.Found.TheVariants.{No, Start, Along}
use Rattle.tor_arena.proofs.Gets.{has-from_Contains, Contains-from_has, slice_get-some, slice_get-set_cases, slice_get-append_cases, slice_get-take, slice_get-replicate}

module _ {N A : Type 0} (place : N → ℕ) (found : List (Found N A)) (x : N) where
  pub marked_seen : (marks : List Bool) (b : Bool) → AreMarked found marks → slice_get marks (place x) ≡ Some b → IsTrue b ↔ IsFound place found x
  marked_seen marks b m at = (
    λ t. (
        let lt = slice_get_within marks (place x) b at in
        let many = m.many in
        let f = slice_get-some found (place x) (omega (arith, lt, many)) in
        (f.0, f.1, (m.each (place x) f.0 b f.1 at).0 t)
        ),
    λ h. (m.each (place x) h.0 b h.1 at).1 h.2,
  )

  pub kept_seen : (nodes : List N) (v : Reach N A) → AreSeen place nodes found → record { nodes = nodes; found = found } ≡ v → IsFound place found x ↔ Contains v.nodes x
  kept_seen nodes v k e = subst (λ z. IsFound place found x ↔ Contains z.nodes x) e
      ((λ h. Contains-from_has nodes x (k.seen x h)), (λ h. k.nodes_seen x (has-from_Contains nodes x h)))

  no_or_seen : (f : Found N A) → (f ≡ No) ⊎ IsSeen f
  no_or_seen No = inl refl
  no_or_seen Start = inr tt
  no_or_seen (Along t a d) = inr tt

  pub absent_of : place x < length found → (IsFound place found x → ⊥) → slice_get found (place x) ≡ Some No
  absent_of lt none =
      let f = slice_get-some found (place x) lt in
      elim (no_or_seen f.0) [
        | inl e ↦ subst (λ z. slice_get found (place x) ≡ Some z) e f.1
        | inr s ↦ absurd (none (f.0, f.1, s))
      ]

-- ---- marks that change with how nodes were found

module _ {N A : Type 0} where
  found_seen : (f : Found N A) → (f ≡ No → ⊥) ↔ IsSeen f
  found_seen No = (λ h. absurd (h refl), λ s. absurd s)
  found_seen Start = (λ h. tt, λ s e. cc e)
  found_seen (Along t a d) = (λ h. tt, λ s e. cc e)

  mark_of : (f : Found N A) (b : Bool) → IsTrue b ↔ (f ≡ No → ⊥) → IsTrue b ↔ IsSeen f
  mark_of f b h = let s = found_seen f in (λ t. s.0 (h.0 t), λ k. h.1 (s.1 k))

  pub marked_set : (found : List (Found N A)) (marks : List Bool) (k : ℕ) (f : Found N A) (b : Bool) → IsTrue b ↔ (f ≡ No → ⊥) → AreMarked found marks →
      AreMarked (slice_set found k f) (slice_set marks k b)
  marked_set found marks k f b h m = record {
    many = length-set marks k b ∙ m.many ∙ sym (length-set found k f);
    each = λ j g c at mark.
        elim (slice_get-set_cases found k f j g at) [
          | inl here ↦ elim (slice_get-set_cases marks k b j c mark) [
            | inl too ↦ subst (λ (x : Bool). IsTrue x ↔ IsSeen g) (sym too.1) (subst (λ (x : Found N A). IsTrue b ↔ IsSeen x) (sym here.1) (mark_of f b h))
            | inr other ↦ absurd (other.0 here.0)
          ]
          | inr there ↦ elim (slice_get-set_cases marks k b j c mark) [ inl too ↦ absurd (there.0 too.0) | inr other ↦ m.each j g c there.1 other.1 ]
        ];
  }

  pub marked_push : (found : List (Found N A)) (marks : List Bool) (n : ℕ) → AreMarked found marks → AreMarked (found ++ replicate n No) (marks ++ replicate n false)
  marked_push found marks n m = record {
    many =
        let a = length-append marks (replicate n false) in
        let b = length-append found (replicate n No) in
        a ∙ ap₂ (λ x y. x + y) m.many (length-replicate n false ∙ sym (length-replicate n No)) ∙ sym b;
    each = λ j g c at mark.
        elim (slice_get-append_cases found (replicate n No) j g at) [
          | inl old ↦ elim (slice_get-append_cases marks (replicate n false) j c mark) [
            | inl too ↦ m.each j g c old too
            | inr last ↦ (let lt = slice_get_within found j g old in let many = m.many in let is = last.1 in absurd (omega (arith, lt, many, is)))
          ]
          | inr last ↦
              elim (slice_get-append_cases marks (replicate n false) j c mark) [
                | inl old ↦ (let lt = slice_get_within marks j c old in let many = m.many in let is = last.1 in absurd (omega (arith, lt, many, is)))
                | inr too ↦ unmarked g c (slice_get-replicate n No last.0 g last.2) (slice_get-replicate n false too.0 c too.2)
              ]
        ];
  }
    where
      unmarked : (g : Found N A) (c : Bool) → g ≡ No → c ≡ false → IsTrue c ↔ IsSeen g
      unmarked g c e h = rw (e, h) ((λ t. absurd (false≢true t)), (λ s. absurd s))

  -- marks that are cut back to those that there were
  pub marked_back : (found : List (Found N A)) (marks : List Bool) (n count : ℕ) → AreMarked found marks → count ≡ length marks →
      (more back : List Bool) (found' : List (Found N A)) → more ≡ marks ++ replicate n false → back ≡ take count more → found' ≡ found → AreMarked found' back
  marked_back found marks n count m is more back found' e-more e-back e-found = rw (e-found, e-back, e-more, is)
      (subst (λ z. AreMarked found z) (sym (take-append_seam marks (replicate n false))) m)

  -- both cut to the first nodes
  pub marked_cut : (found : List (Found N A)) (marks : List Bool) (n : ℕ) → AreMarked found marks → (found' : List (Found N A)) (marks' : List Bool) →
      found' ≡ take n found → marks' ≡ take n marks → AreMarked found' marks'
  marked_cut found marks n m found' marks' e-found e-marks = rw (e-found, e-marks) (record {
    many = length-take n marks ∙ ap (min n) m.many ∙ sym (length-take n found);
    each = λ k f b at mark. m.each k f b (slice_get-take n found k f at).1 (slice_get-take n marks k b mark).1;
  })
