use Rattle.std.proofs.Common.{◌≡◌, ◌↔◌, ℕ, IsTrue, Some, length, nat_eq, slice_get, sym, ap, ◌∙◌, subst, arith}
use Rattle.std.proofs.lemmas.Bool.{false≢true, eqb-true, eq-eqb}
use Rattle.line_rules.specs.Serving.{MarkedAt}
use Rattle.tor_arena.proofs.Gets.{read_of}
use Rattle.line_rules.proofs.Firsts.{below_and}
use Rattle.line_rules.proofs.Borne.{marked_at}
use Rattle.line_rules.proofs.marks.borne_marks.first_unborne.Goals as goal

is_one : (n : ℕ) → IsTrue (nat_eq n 1) ↔ (n ≡ 1)
is_one n = (λ t. eqb-true n 1 t, λ e. eq-eqb n 1 e)

pub returns-then-not-is_borne_out : goal.returns-then-not-is_borne_out
returns-then-not-is_borne_out c =
    let file = c.args.file.now in
    let k = c.loop-k.k in
    let edge = c.in-Some.ensures.some in
    let at = read_of c.as_slice-line-items.result.now file.edges k _ c.as_slice-line-items.ensures c.loop-k-test.true in
    let at_round = subst (λ i. slice_get c.args.rounds.now.items i ≡ Some c.get.result.now) edge c.get.ensures in
    let at_shown = subst (λ i. slice_get c.args.shown.now.items i ≡ Some c.get-in-loop-k.result.now) edge c.get-in-loop-k.ensures in
    let exact = marked_at file c.requires.whole c.args.rounds.now.items c.args.shown.now.items k c.get.result.now _ c.get-in-loop-k.result.now (nat_eq c.get.result.now 1) at at_shown at_round
    (is_one c.get.result.now) c.requires.shown c.requires.covered in (
      omega (arith, c.loop-k-test.true, ap length c.as_slice-line-items.ensures),
      λ m. false≢true (sym c.if-not-is_borne_out.true ∙ c.is_borne_out.ensures ∙ exact.1 m),
      c.loop-k.invariant,
    )

pub loop-k-preserved : goal.loop-k-preserved
loop-k-preserved c =
    let file = c.args.file.now in
    let k = c.loop-k.k in
    let edge = c.in-Some.ensures.some in
    let at = read_of c.as_slice-line-items.result.now file.edges k _ c.as_slice-line-items.ensures c.loop-k-test.true in
    let at_round = subst (λ i. slice_get c.args.rounds.now.items i ≡ Some c.get.result.now) edge c.get.ensures in
    let at_shown = subst (λ i. slice_get c.args.shown.now.items i ≡ Some c.get-in-loop-k.result.now) edge c.get-in-loop-k.ensures in
    let exact = marked_at file c.requires.whole c.args.rounds.now.items c.args.shown.now.items k c.get.result.now _ c.get-in-loop-k.result.now (nat_eq c.get.result.now 1) at at_shown at_round
    (is_one c.get.result.now) c.requires.shown c.requires.covered in
    below_and (MarkedAt file) k c.loop-k.invariant (exact.0 (sym c.is_borne_out.ensures ∙ c.if-not-is_borne_out.false))
