-- Nodes that get a class one after the other.
use Rattle.std.proofs.Common.{◌≡◌, ℕ, ◌+◌, ◌<◌, inl, inr, List, Some, length, sym, ap, ◌∙◌, subst, arith}
use Rattle.std.specs.Prelude.{slice_get, slice_set}
use Rattle.std.proofs.lemmas.Bool.{cases_eq, cases_lt}
use Rattle.std.proofs.lemmas.Option.{same_Some}
use Rattle.std.proofs.lemmas.List.{length-set}
use Rattle.tor_arena.proofs.Gets.{slice_get-set_same, slice_get-set_other}
use Rattle.tor_solve.specs.Classes.{IsClass}

-- of the first nodes of a list, so many, each has the class, and all others have what they had
pub record AreMarkedTo {N : Type 0} (place : N → ℕ) (nodes : List N) (class : ℕ) (upto : ℕ) (old new : List ℕ) : Type 0 where
  pub many : length new ≡ length old
  pub marked : (k : ℕ) (x : N) → k < upto → slice_get nodes k ≡ Some x → IsClass place new x class
  pub kept : (x : N) → ((k : ℕ) → k < upto → slice_get nodes k ≡ Some x → ⊥) → slice_get new (place x) ≡ slice_get old (place x)

module _ {N : Type 0} (place : N → ℕ) (one : (x y : N) → place x ≡ place y → x ≡ y) (nodes : List N) (class upto : ℕ) (node : N) (at : slice_get nodes upto ≡ Some node) where
  -- one node more
  pub marked_next : (old mid new : List ℕ) → place node < length mid → new ≡ slice_set mid (place node) class → AreMarkedTo place nodes class upto old mid →
      AreMarkedTo place nodes class (upto + 1) old new
  marked_next old mid new inside is so = record {
    many = ap length is ∙ length-set mid (place node) class ∙ so.many;
    marked = λ k x lt here. subst (λ l. slice_get l (place x) ≡ Some class) (sym is) (mark k x lt here);
    kept = λ x none.
        ap (λ l. slice_get l (place x)) is ∙ slice_get-set_other mid (place node) class (place x) (λ e. none upto (omega arith) (at ∙ ap Some (sym (one x node e)))) ∙
        so.kept x (λ k lt here. none k (omega (arith, lt)) here);
  }
    where
      same_node : (x : N) → x ≡ node → slice_get (slice_set mid (place node) class) (place x) ≡ Some class
      same_node x e = ap (λ y. slice_get (slice_set mid (place node) class) (place y)) e ∙ slice_get-set_same mid (place node) class inside

      mark : (k : ℕ) (x : N) → k < upto + 1 → slice_get nodes k ≡ Some x → slice_get (slice_set mid (place node) class) (place x) ≡ Some class
      mark k x lt here = elim (cases_lt k upto) [
        | inl before ↦ elim (cases_eq (place x) (place node)) [
          | inl e ↦ same_node x (one x node e)
          | inr apart ↦ slice_get-set_other mid (place node) class (place x) apart ∙ so.marked k x before here
        ]
        | inr le ↦
            let last : k ≡ upto = omega (arith, lt, le) in
            same_node x (same_Some x node (sym here ∙ ap (slice_get nodes) last ∙ at))
      ]
