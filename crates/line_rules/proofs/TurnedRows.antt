-- Rows the other way round.
use Rattle.std.proofs.Common.{◌≡◌, inl, inr, ℕ, ◌+◌, ◌<◌, List, [], ◌∷◌, ◌++◌, replicate, take, Some, slice_get, length, sym, ap, ◌∙◌, subst, arith, Contains, refl}
use Rattle.std.proofs.lemmas.Bool.{cases_lt}
use Rattle.std.proofs.lemmas.List.{length-replicate}
use Rattle.std.proofs.lemmas.Option.{same_Some, slice_get_within}
use Rattle.std.proofs.lemmas.List.Elements.{Contains-push_cases}
use Rattle.tor_arena.proofs.Gets.{Contains-none, slice_get-replicate}
use Rattle.line_rules.specs.Neighbours.{HasNext, EachHasRow, with_next, HasBack, IsTurned}
use Rattle.line_rules.proofs.Buildings.{length-with_next, next_cases, next_kept, next_last}

pub back-none : (j : ℕ) (rows : List (List ℕ)) → HasBack j [] rows rows
back-none j rows = record {
  many = refl;
  kept = λ k l h. h;
  added = λ i c. absurd (Contains-none i c);
  only = λ k l h. inl h;
}

pub back-more : (j edge n : ℕ) (row : List ℕ) (old mid new : List (List ℕ)) → take (n + 1) row ≡ take n row ++ edge ∷ [] → edge < length old →
    HasBack j (take n row) old mid → new ≡ with_next mid edge j → HasBack j (take (n + 1) row) old new
back-more j edge n row old mid new more lt b e =
    let within : edge < length mid = let m = b.many in omega (arith, lt, m) in
    subst (HasBack j (take (n + 1) row) old) (sym e) (record {
      many = length-with_next mid edge j ∙ b.many;
      kept = λ k l h. next_kept mid edge j k l within (b.kept k l h);
      added = λ i c. elim (Contains-push_cases (take n row) edge i (subst (λ (l : List ℕ). Contains l i) more c)) [
        | inl h ↦ next_kept mid edge j i j within (b.added i h)
        | inr same ↦ next_last mid edge j i j within (sym same) refl
      ];
      only = λ k l h. elim (next_cases mid edge j k l within h) [ inl o ↦ b.only k l o | inr d ↦ inr d.1 ];
    })

-- the first rows, so many, stand the other way round
pub record IsTurnedTo (rows : List (List ℕ)) (upto : ℕ) (turned : List (List ℕ)) : Type 0 where
  pub many : length turned ≡ length rows
  pub inside : EachHasRow turned
  pub back : (i j : ℕ) → i < upto → HasNext rows i j → HasNext turned j i

pub turned-none : (rows turned : List (List ℕ)) (count : ℕ) → count ≡ length rows → turned ≡ replicate count [] → IsTurnedTo rows 0 turned
turned-none rows turned count m e = subst (IsTurnedTo rows 0) (sym e) (record {
  many = length-replicate count [] ∙ m;
  inside = λ i j h. absurd (Contains-none j (subst (λ (l : List ℕ). Contains l j) (slice_get-replicate count [] i h.0 h.1) h.2));
  back = λ i j lt. absurd (omega (arith, lt));
})

pub turned-more : (rows old new : List (List ℕ)) (place : ℕ) (row : List ℕ) → slice_get rows place ≡ Some row → IsTurnedTo rows place old → HasBack place row old new → IsTurnedTo rows (place + 1) new
turned-more rows old new place row its_row t b = record {
  many = b.many ∙ t.many;
  inside = λ i j h. elim (b.only i j h) [
    | inl o ↦ (let lt = t.inside i j o in let m = b.many in omega (arith, lt, m))
    | inr e ↦ (let lt = slice_get_within rows place row its_row in let m = b.many in let n = t.many in omega (arith, lt, m, n, e))
  ];
  back = λ i j lt h. elim (cases_lt i place) [
    | inl less ↦ b.kept j i (t.back i j less h)
    | inr ge ↦ last i j (omega (arith, lt, ge)) h
  ];
}
  where
    last : (i j : ℕ) → i ≡ place → HasNext rows i j → HasNext new j i
    last i j e h =
        let same : h.0 ≡ row = same_Some h.0 row (sym h.1 ∙ ap (slice_get rows) e ∙ its_row) in
        subst (HasNext new j) (sym e) (b.added j (subst (λ (l : List ℕ). Contains l j) same h.2))

pub turned-done : (rows turned : List (List ℕ)) (upto : ℕ) → upto ≡ length rows → IsTurnedTo rows upto turned → IsTurned rows turned
turned-done rows turned upto e t = record {
  many = t.many;
  inside = t.inside;
  back = λ i j h. t.back i j (let lt = slice_get_within rows i h.0 h.1 in omega (arith, lt, e)) h;
}
