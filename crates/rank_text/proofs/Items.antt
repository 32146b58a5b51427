-- Texts of items that are put one by one.
use Rattle.std.proofs.Common.{◌≡◌, ◌∙◌, ℕ, ◌+◌, List, [], ◌∷◌, ◌++◌, length, take, Some, refl, sym, ap, arith}
use Rattle.std.specs.Prelude.{slice_get, not, Bool, true, false, count_by}
use Rattle.std.specs.List.{flat_map}
use Rattle.std.proofs.lemmas.Grind.{flat_map-append}
use Rattle.std.proofs.lemmas.List.{append-nil}
use Rattle.tor_arena.proofs.Counting.{count-cons, one}
use Rattle.tor_arena.proofs.Gets.{take_get}
use Rattle.tor_io.specs.Outflow.{State, Puts}
use Rattle.tor_io.proofs.Putting.{puts_as, puts_then}

module _ {X : Type 0} (text : X → List ℕ) where
  pub item_behind : (xs : List X) (x : X) → flat_map text xs ++ text x ≡ flat_map text (xs ++ x ∷ [])
  item_behind xs x = ap (λ t. flat_map text xs ++ t) (sym (append-nil (text x))) ∙ sym (flat_map-append text xs (x ∷ []))

  -- one item more of a list
  pub item_more : {a b c : State} (xs : List X) (k : ℕ) (x : X) → slice_get xs k ≡ Some x → Puts a b (flat_map text (take k xs)) → Puts b c (text x)
      → Puts a c (flat_map text (take (k + 1) xs))
  item_more xs k x at so_far more =
      puts_as (puts_then so_far more) (item_behind (take k xs) x ∙ ap (flat_map text) (sym (take_get xs k x at)))

-- those that pass a test and those that don't are all
one_of_both : (b : Bool) → one b + one (not b) ≡ 1
one_of_both true = refl
one_of_both false = refl

pub count_both : {X : Type 0} (p : X → Bool) (xs : List X) → count_by p xs + count_by (λ x. not (p x)) xs ≡ length xs
count_both p [] = refl
count_both p (x ∷ xs) =
    let yes = count-cons p x xs in
    let no = count-cons (λ y. not (p y)) x xs in
    let rest = count_both p xs in
    omega (arith, yes, no, rest, one_of_both (p x))
