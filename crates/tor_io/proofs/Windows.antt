-- What is left of octets that were read ahead.
use Rattle.std.proofs.Common.{◌≡◌, ℕ, List, ◌+◌, ◌-◌, take, drop, sym, ap, ◌∙◌, arith}
use Rattle.std.specs.Prelude.{◌≤◌}
use Rattle.std.proofs.lemmas.List.{drop-take, drop-drop}

-- what is left of a window of which r octets were given
pub window_left : (start end r : ℕ) (bytes : List ℕ) → r ≤ end - start →
    take (end - (start + r)) (drop (start + r) bytes) ≡ drop r (take (end - start) (drop start bytes))
window_left start end r bytes within =
    let rest : end - start ≡ r + (end - (start + r)) = omega (arith, within) in
    sym (ap (λ (n : ℕ). drop r (take n (drop start bytes))) rest
    ∙ drop-take r (end - (start + r)) (drop start bytes)
    ∙ ap (take (end - (start + r))) (drop-drop r start bytes))
