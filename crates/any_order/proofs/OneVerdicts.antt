-- A file has one verdict beside dumps in any order.
use Rattle.std.proofs.Common.{◌≡◌, ◌-◌, inl, inr, ℕ, List, IsPermutation, refl, sym, ap, subst, ◌∙◌, slice_get}
use Rattle.std.proofs.lemmas.Bool.{cases_order}
use Rattle.std.proofs.lemmas.List.Sorted.{IsPermutation-sym, IsPermutation-trans, Contains-permutation}
use Rattle.tor_arena.proofs.Gets.{Contains-from_has}
use Rattle.path_clean.specs.Counts.{CauseCounts}
use Rattle.path_table.specs.Rows.{Counted}
use Rattle.path_order.proofs.KeptLemmas.{behind_moves}
use Rattle.result_text.specs.declared.file.ResultFile.{ResultFile}
use Rattle.result_rules.specs.declared.verdict.Verdict.TheVariants.{Yes, No}
use Rattle.result_rules.specs.Against.{in_order, its_rows, line_against}
use Rattle.any_order.specs.AnyOrder.{DepartsInAnyOrder, JudgesInAnyOrder}
use Rattle.any_order.specs.Laws.{OneInAnyOrderLaw, OrderedAgreesLaw}

not_both : (file : ResultFile) (rows : List Counted) (counts : CauseCounts) (l n : ℕ) → JudgesInAnyOrder file rows counts Yes → DepartsInAnyOrder file rows counts l n → ⊥
not_both file rows counts l n right d =
    d.breach (record {
      count = λ lt. ap (λ c. slice_get (in_order c) d.place) right.0;
      path = λ le. record {
        line = λ row at. (right.1 row).0 (Contains-from_has (its_rows file) row (d.place - 7, at));
        end = λ last row there. (right.1 row).1 there;
      };
    })

verdicts_same : (l n l' n' : ℕ) → l ≡ l' → n ≡ n' → No l n ≡ No l' n'
verdicts_same l n l' n' e f = cc

one_departure : (file : ResultFile) (rows : List Counted) (counts : CauseCounts) (l n l' n' : ℕ) → DepartsInAnyOrder file rows counts l n → DepartsInAnyOrder file rows counts l' n' → No l n ≡ No l' n'
one_departure file rows counts l n l' n' a b =
    let place : a.place ≡ b.place = elim (cases_order a.place b.place) [
      | inl e ↦ e
      | inr o ↦ elim o [
        | inl lt ↦ absurd (a.breach (b.before a.place lt))
        | inr lt ↦ absurd (b.breach (a.before b.place lt))
      ]
    ] in
    verdicts_same l n l' n' (a.numbered ∙ ap (line_against file) place ∙ sym b.numbered) (a.named ∙ sym b.named)

pub one_law : OneInAnyOrderLaw
one_law file rows counts Yes Yes a b = refl
one_law file rows counts Yes (No l n) a b = absurd (not_both file rows counts l n a b)
one_law file rows counts (No l n) Yes a b = absurd (not_both file rows counts l n b a)
one_law file rows counts (No l n) (No l' n') a b = one_departure file rows counts l n l' n' a b

pub ordered_law : OrderedAgreesLaw
ordered_law file order kept rows others counts agrees same =
    let there : IsPermutation rows (its_rows file) = subst (λ (t : List Counted). IsPermutation rows t) (sym agrees.1) (behind_moves order kept rows) in
    let back : IsPermutation (its_rows file) rows = IsPermutation-sym rows (its_rows file) there in
    let moved : IsPermutation (its_rows file) others = IsPermutation-trans (its_rows file) rows others back same in
    let from : IsPermutation others (its_rows file) = IsPermutation-sym (its_rows file) others moved in (
      agrees.0,
      λ row. (Contains-permutation (its_rows file) others row moved, Contains-permutation others (its_rows file) row from),
    )
