use Rattle.std.proofs.Common.{◌≡◌, ◌+◌, ◌-◌, suc, List, ℕ, [], ◌∷◌, ◌++◌, sym, ap, ◌∙◌, subst, arith}
use Rattle.std.specs.Prelude.{IfSome}
use Rattle.path_select.specs.Behind.{places_from}
use Rattle.path_select.proofs.BehindLemmas.{places_push}
use Rattle.path_select.proofs.behind.places_behind.Goals as goal

pub loop-place-preserved : goal.loop-place-preserved
loop-place-preserved c =
    let count = c.args.count in
    let place = c.loop-place.place in
    let le = c.loop-place.invariant.0 in
    let same : c.unwrap.result ≡ place = subst (λ o. IfSome o (λ (n : ℕ). n ≡ place)) c.unwrap.ensures c.from_place.ensures.some in
    let more : place + 1 - count ≡ suc (place - count) = omega (arith, le) in
    let at : place ≡ count + (place - count) = omega (arith, le) in (
      omega (arith, le),
      c.in_ok-push.ensures.ok ∙ ap (λ (l : List ℕ). l ++ c.unwrap.result ∷ []) c.loop-place.invariant.1 ∙
          ap (λ n. places_from count (place - count) ++ n ∷ []) (same ∙ at) ∙ sym (places_push count (place - count)) ∙ ap (places_from count) (sym more),
    )
