-- Clauses with one path more: the arcs before.
use Rattle.std.proofs.Common.{◌≡◌, ℕ, ◌*◌, ◌<◌, ◌≤◌, List, Some, length, take, sym, ap, ◌∙◌, arith}
use Rattle.std.specs.Prelude.{slice_get}
use Rattle.std.proofs.lemmas.List.{length-take}
use Rattle.tor_arena.proofs.Gets.{slice_get-some, slice_get-take}
use Rattle.tor_clauses.specs.Formulas.{Formula, first_of}
use Rattle.tor_clauses.specs.declared.clauses.ClauseMark.{ClauseMark}
use Rattle.tor_clauses.proofs.Ways.{some_same}

module _ (f g : Formula) (mark : ClauseMark) (prefix : first_of g mark ≡ f) where
  first_arcs : take (mark.triples * 2) g.net.arcs ≡ f.net.arcs
  first_arcs = ap (λ h. h.net.arcs) prefix

  pub later_arc : (k : ℕ) (e : ℕ × ℕ) → slice_get f.net.arcs k ≡ Some e → slice_get g.net.arcs k ≡ Some e
  later_arc k e at = (slice_get-take (mark.triples * 2) g.net.arcs k e (ap (λ (l : List (ℕ × ℕ)). slice_get l k) first_arcs ∙ at)).1

  pub triples_stay : length f.triples ≤ length g.triples
  triples_stay =
      let short = length-take mark.triples g.triples in
      let same : length (take mark.triples g.triples) ≡ length f.triples = ap (λ h. length h.triples) prefix in
      omega (arith, short, same)

  pub arcs_stay : length f.net.arcs ≤ length g.net.arcs
  arcs_stay =
      let short = length-take (mark.triples * 2) g.net.arcs in
      let same = ap length first_arcs in
      omega (arith, short, same)

  pub earlier_arc : (k : ℕ) (e : ℕ × ℕ) → k < length f.net.arcs → slice_get g.net.arcs k ≡ Some e → slice_get f.net.arcs k ≡ Some e
  earlier_arc k e lt at =
      let old = slice_get-some f.net.arcs k lt in
      old.1 ∙ ap Some (some_same (sym (later_arc k old.0 old.1) ∙ at))
