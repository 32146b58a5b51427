-- Lines that are put one by one.
use Rattle.std.proofs.Common.{◌≡◌, ◌∙◌, ℕ, ◌+◌, List, [], ◌∷◌, ◌++◌, take, Some, sym, ap}
use Rattle.std.specs.Prelude.{slice_get}
use Rattle.std.specs.List.{flat_map}
use Rattle.std.proofs.lemmas.Grind.{flat_map-append}
use Rattle.std.proofs.lemmas.List.{append-nil}
use Rattle.tor_arena.proofs.Gets.{take_get}
use Rattle.tor_io.specs.Outflow.{State, Puts}
use Rattle.tor_io.proofs.Putting.{puts_as, puts_then}

-- one more line
pub line_more : {X : Type 0} {a b c : State} (text : X → List ℕ) (xs : List X) (k : ℕ) (x : X) → slice_get xs k ≡ Some x → Puts a b (flat_map text (take k xs)) → Puts b c (text x)
    → Puts a c (flat_map text (take (k + 1) xs))
line_more text xs k x at so_far more =
    let one = ap (λ t. flat_map text (take k xs) ++ t) (sym (append-nil (text x))) ∙ sym (flat_map-append text (take k xs) (x ∷ [])) in
    puts_as (puts_then so_far more) (one ∙ ap (flat_map text) (sym (take_get xs k x at)))
