-- Totals that are the same.
use Rattle.std.proofs.Common.{◌≡◌, true, ◌&&◌, ◌==◌, refl, subst, eq-eqb}
use Rattle.result_text.specs.declared.file.Totals.{Totals}

same_numbers : (t : Totals) → (t.kept == t.kept) && ((t.lost == t.lost) && ((t.edges == t.edges) && ((t.forced == t.forced) && (t.peers == t.peers)))) ≡ true
same_numbers t =
    rw (eq-eqb t.kept t.kept refl, eq-eqb t.lost t.lost refl, eq-eqb t.edges t.edges refl, eq-eqb t.forced t.forced refl, eq-eqb t.peers t.peers refl)

pub same_totals : (t u : Totals) → t ≡ u → (t.kept == u.kept) && ((t.lost == u.lost) && ((t.edges == u.edges) && ((t.forced == u.forced) && (t.peers == u.peers)))) ≡ true
same_totals t u e = subst (λ v. (t.kept == v.kept) && ((t.lost == v.lost) && ((t.edges == v.edges) && ((t.forced == v.forced) && (t.peers == v.peers)))) ≡ true) e (same_numbers t)
