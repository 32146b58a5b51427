-- Cones put one behind the other.
use Rattle.std.proofs.Common.{◌≡◌, ℕ, ◌+◌, inl, inr, List, [], ◌∷◌, ◌++◌, length, Some, refl, sym, ap, ◌∙◌, subst, arith, length-append}
use Rattle.std.specs.Prelude.{slice_get}
use Rattle.std.proofs.lemmas.Option.{same_Some, slice_get_within}
use Rattle.tor_arena.proofs.Gets.{has-from_Contains, Contains-from_has, slice_get-some, slice_get-push_cases}
use Rattle.as_rel.specs.declared.line.RelLine.{RelLine}
use Rattle.as_ranks.specs.Named.{AreNamed}
use Rattle.as_ranks.specs.Cones.{Cone, IsCone, AreCones, AreConesTo}
use Rattle.as_ranks.proofs.Rising.{rising-at}

module _ (rel : List RelLine) (ases : List ℕ) where
  pub cones-none : AreConesTo rel ases 0 []
  cones-none = record { many = refl; each = λ k c at. cc at }

  pub cones-next : (upto : ℕ) (cones : List Cone) (c : Cone) → slice_get ases upto ≡ Some c.of → IsCone rel c → AreConesTo rel ases upto cones → AreConesTo rel ases (upto + 1) (cones ++ c ∷ [])
  cones-next upto cones c at is h = record {
    many = (let e = length-append cones (c ∷ []) in let many = h.many in omega (arith, e, many));
    each = λ k d at_k. elim (slice_get-push_cases cones c k d at_k) [
      | inl old ↦ h.each k d old
      | inr last ↦
          let k_is : k ≡ upto = last.0 ∙ h.many in
          (ap (slice_get ases) k_is ∙ at ∙ ap (λ (z : Cone). Some z.of) (sym last.1), subst (IsCone rel) (sym last.1) is)
    ];
  }

  pub cones-all : (cones : List Cone) → AreNamed rel ases → AreConesTo rel ases (length ases) cones → AreCones rel cones
  cones-all cones named h = record {
    each = λ k c at. (let w = h.each k c at in ((named.named c.of).0 (Contains-from_has ases c.of (k, w.0)), w.1));
    all = λ a is.
        let w = has-from_Contains ases a ((named.named a).1 is) in
        let within = slice_get_within ases w.0 a w.1 in
        let many = h.many in
        let c = slice_get-some cones w.0 (omega (arith, within, many)) in
        (c.0, (w.0, c.1), same_Some c.0.of a (sym (h.each w.0 c.0 c.1).0 ∙ w.1));
    order = λ i j c d lt at_i at_j. rising-at ases named.rising i j c.of d.of lt (h.each i c at_i).0 (h.each j d at_j).0;
  }
